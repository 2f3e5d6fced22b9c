pub mod Places
pub mod invariants
