pub mod Parts
pub mod Kept
pub mod Asked
pub mod Worlds
pub mod invariants
