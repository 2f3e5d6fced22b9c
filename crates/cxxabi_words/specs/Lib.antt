pub mod Commands
pub mod invariants
