pub mod Items
pub mod Blocks
pub mod Lowered
pub mod invariants
