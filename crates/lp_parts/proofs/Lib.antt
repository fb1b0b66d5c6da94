pub mod Gathered
pub mod Grown
pub mod KeptTerms
pub mod Listed
pub mod Scaled
