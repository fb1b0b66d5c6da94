pub mod Columned
pub mod Lists
pub mod Normal
pub mod Gathered
pub mod Measured
pub mod Kept
