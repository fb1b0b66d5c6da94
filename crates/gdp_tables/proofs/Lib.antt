pub mod ExactLemmas
pub mod KeywordsLemmas
