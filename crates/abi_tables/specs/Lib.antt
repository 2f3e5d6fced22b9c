pub mod Tables
pub mod invariants
pub mod Counts
