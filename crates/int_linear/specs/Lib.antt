pub mod Divisors
pub mod Laws
pub mod Sums
pub mod Terms
