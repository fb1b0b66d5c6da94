pub mod Arenas
pub mod Tidying
