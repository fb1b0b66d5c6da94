pub mod PropTexts
pub mod Stored
pub mod Texts
