pub mod Far
pub mod Quotients
pub mod Views
