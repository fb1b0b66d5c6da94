pub mod Digits
pub mod LineReads
pub mod Lowest
pub mod Nexts
pub mod NodeReads
pub mod Pairing
pub mod Pieces
pub mod ValueReads
