pub mod LineReads
pub mod NodeReads
pub mod Pairs
pub mod Reads
pub mod ValueReads
pub mod Words
