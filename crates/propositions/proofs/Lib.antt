pub mod CompletionLemmas
pub mod Connectives
pub mod KnownLemmas
pub mod Layers
