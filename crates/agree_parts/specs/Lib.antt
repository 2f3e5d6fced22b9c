pub mod Heaps
pub mod Addresses
pub mod Placed
pub mod Regions
pub mod PartLaws
