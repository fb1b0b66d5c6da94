pub mod Gives
pub mod Lines
pub mod PointLines
pub mod Ranges
pub mod Refusals
pub mod Tokens
