pub mod Kept
pub mod Laws
pub mod Read
pub mod Sums
pub mod Taken
