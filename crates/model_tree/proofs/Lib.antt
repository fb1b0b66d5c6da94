pub mod Bools
pub mod GoalLemmas
pub mod NamesLemmas
pub mod ScalingLemmas
pub mod SortingLemmas
