pub mod Holding
pub mod Kinds
pub mod Points
pub mod Rows
