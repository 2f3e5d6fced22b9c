pub mod Places
pub mod Locations
pub mod Chains
pub mod Sound
