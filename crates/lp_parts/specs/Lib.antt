pub mod Grown
pub mod Listed
pub mod Stored
