pub mod Force
pub mod Items
pub mod Occurs
pub mod steps
