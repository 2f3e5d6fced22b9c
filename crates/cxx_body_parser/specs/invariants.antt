pub mod Through
pub mod Heads
