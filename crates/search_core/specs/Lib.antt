pub mod Arena
pub mod Boards
pub mod Tidy
