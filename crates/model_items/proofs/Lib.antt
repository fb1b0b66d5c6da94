pub mod CountingLemmas
pub mod ForceLemmas
pub mod ItemsLemmas
pub mod OccursLemmas
pub mod PickingLemmas
