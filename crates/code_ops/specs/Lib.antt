pub mod Setups
pub mod Routines
pub mod Operands
pub mod Uses
pub mod PlaceOps
pub mod Leaves
pub mod Arguments
pub mod invariants
