mod Named
pub mod ReadAgain
