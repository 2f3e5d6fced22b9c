pub mod Frames
pub mod Plans
pub mod invariants
