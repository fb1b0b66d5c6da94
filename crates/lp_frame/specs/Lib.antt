pub mod Force
pub mod Split
pub mod Standard
