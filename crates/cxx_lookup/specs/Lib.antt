pub mod Lookup
pub mod UniqueBase
pub mod Findings
pub mod invariants
