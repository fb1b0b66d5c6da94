pub mod BuildingLemmas
pub mod EarlierLemmas
pub mod NestingLemmas
pub mod PlacesLemmas
pub mod PropsLemmas
pub mod WholeLemmas
