pub mod lists
pub mod rules
pub mod algorithm
pub mod sound
