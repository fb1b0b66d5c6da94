pub mod FalseConditions
pub mod OpenBooleans
pub mod Passes
