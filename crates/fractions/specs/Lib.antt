pub mod Divisors
pub mod Fraction
pub mod Laws
pub mod Lowest
pub mod Width
