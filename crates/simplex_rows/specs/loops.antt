-- Words that only loops and private calls need.
pub mod Bits
pub mod Merging
pub mod Entries
pub mod Rows
