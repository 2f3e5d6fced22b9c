pub mod Functions
pub mod Overriding
pub mod Virtuals
pub mod Covariance
pub mod Faults
pub mod Overriders
pub mod invariants
