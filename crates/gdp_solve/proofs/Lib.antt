pub mod Accepting
pub mod Claiming
pub mod Right
pub mod SolvesOnce
