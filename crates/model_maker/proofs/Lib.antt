pub mod Chosen
pub mod Goals
pub mod Made
pub mod Names
pub mod Pairs
pub mod Rows
pub mod Whole
