pub mod Laws
pub mod Reading
pub mod Sizes
pub mod Tree
pub mod Truth
pub mod View
