pub mod Cuts
pub mod FirstBytes
pub mod FirstLines
pub mod NameWords
pub mod Ratios
pub mod Reading
pub mod SumSteps
pub mod Values
