pub mod Completions
pub mod Keywords
pub mod Laws
pub mod Readings
