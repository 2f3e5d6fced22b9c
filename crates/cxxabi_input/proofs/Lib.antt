pub mod Cuts
pub mod PartSizes
