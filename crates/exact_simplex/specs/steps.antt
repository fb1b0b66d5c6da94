-- Words that only loops and private calls need.
pub mod FirstRows
pub mod Ready
pub mod Commons
pub mod Turns
pub mod Found
pub mod Kept
