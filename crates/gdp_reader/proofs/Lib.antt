pub mod EndsLemmas
pub mod LogicLemmas
pub mod MarksLemmas
pub mod PointEndsLemmas
pub mod PointNumbersLemmas
pub mod TermsLemmas
