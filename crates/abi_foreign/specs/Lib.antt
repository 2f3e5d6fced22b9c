pub mod Lines
pub mod Listings
pub mod Refusals
pub mod invariants
