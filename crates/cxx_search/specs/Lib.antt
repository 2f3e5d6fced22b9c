pub mod Searches
pub mod Casts
