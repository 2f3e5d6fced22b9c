pub mod ClearSights
pub mod Ends
pub mod invariants
