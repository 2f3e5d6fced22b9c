pub mod Values
pub mod Rows
pub mod SeenTexts
pub mod Faults
pub mod Sayings
pub mod invariants
