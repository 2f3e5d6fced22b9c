pub mod Bounds
pub mod invariants
