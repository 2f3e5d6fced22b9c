pub mod Columns
pub mod Cuts
pub mod Distances
pub mod PartRows
pub mod LeafCodes
pub mod Layers
