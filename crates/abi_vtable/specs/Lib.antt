pub mod invariants
