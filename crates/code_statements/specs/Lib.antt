pub mod Hints
pub mod Rights
pub mod Statements
pub mod invariants
pub mod CopyTests
pub mod CopyOps
