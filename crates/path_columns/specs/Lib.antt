pub mod Paged
pub mod Pages
pub mod Slots
pub mod Digits
pub mod Codes
pub mod Columns
pub mod invariants
