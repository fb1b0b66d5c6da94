pub mod Bools
pub mod Ring
pub mod Signs
pub mod Totals
pub mod Inner
pub mod Dots
pub mod Divisors
pub mod Written
