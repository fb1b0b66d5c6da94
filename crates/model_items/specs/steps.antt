-- What only the walks over a model need.
pub mod Adding
pub mod Picking
