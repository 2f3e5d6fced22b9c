pub mod Listing
pub mod Named
pub mod Gathered
pub mod Highest
pub mod OfClass
pub mod NameFindings
pub mod BaseFindings
