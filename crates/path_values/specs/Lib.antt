pub mod Scenes
pub mod Given
pub mod Conversions
pub mod Open
pub mod Landings
pub mod Views
pub mod Held
pub mod invariants
