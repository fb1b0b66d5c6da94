pub mod HeadsLemmas
pub mod JointsLemmas
pub mod TurnsLemmas
pub mod NumbersLemmas
pub mod SizesLemmas
pub mod SizeCausesLemmas
pub mod ReadingsLemmas
pub mod LogicLinesLemmas
