mod Appended
pub mod Fitting
pub mod Written
