pub mod SatisfiedLemmas
pub mod TestsLemmas
pub mod WorthLemmas
