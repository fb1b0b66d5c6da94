pub mod Satisfied
pub mod Tests
pub mod Worth
