pub mod AnswerReads
pub mod Grown
pub mod TreeReads
