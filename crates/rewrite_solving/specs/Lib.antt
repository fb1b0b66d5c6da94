pub mod Cuts
pub mod Laws
pub mod Reached
pub mod Solutions
