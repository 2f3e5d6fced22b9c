pub mod Worlds
pub mod Words
pub mod Columns
pub mod Goings
pub mod Frames
pub mod Stands
pub mod Agrees
