pub mod Bounds
pub mod Divisions
pub mod Each
pub mod LastItems
pub mod Lists
pub mod Pairs
pub mod Positives
