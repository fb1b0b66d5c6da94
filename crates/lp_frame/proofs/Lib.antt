pub mod Both
pub mod Limits
pub mod Parts
pub mod Places
pub mod Points
pub mod Terms
