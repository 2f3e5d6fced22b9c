pub mod Conditions
pub mod Encoded
pub mod invariants
