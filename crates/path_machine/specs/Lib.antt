pub mod Tellings
pub mod Turns
pub mod Frames
pub mod Machines
pub mod invariants
