pub mod Rays
pub mod Floors
pub mod Found
pub mod Promised
pub mod Tested
