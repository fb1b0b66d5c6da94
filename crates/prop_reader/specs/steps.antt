-- What only the reader's own loop needs.
pub mod Heads
pub mod Opened
pub mod Operators
pub mod Readings
pub mod Sizes
