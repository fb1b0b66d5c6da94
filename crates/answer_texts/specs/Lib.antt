pub mod Laws
pub mod ModelNames
