pub mod LogicLines
pub mod SizeCauses
pub mod steps
