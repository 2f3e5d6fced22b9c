pub mod Rules
pub mod invariants
