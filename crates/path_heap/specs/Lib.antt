pub mod Blanks
pub mod PartLists
pub mod Points
pub mod Rooms
pub mod Running
pub mod Stands
pub mod invariants
