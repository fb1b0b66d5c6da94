pub mod Builders
pub mod Building
pub mod Nesting
pub mod Props
pub mod Standing
pub mod Whole
