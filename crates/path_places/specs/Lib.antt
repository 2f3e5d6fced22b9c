pub mod PartCopies
pub mod invariants
