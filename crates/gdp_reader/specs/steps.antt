-- What only the reader's own loops need.
pub mod Errors
pub mod Terms
