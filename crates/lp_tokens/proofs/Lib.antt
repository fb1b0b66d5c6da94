pub mod Digits
pub mod Far
pub mod FirstBytes
pub mod Lowest
pub mod Made
pub mod Moved
pub mod Named
pub mod Spelled
