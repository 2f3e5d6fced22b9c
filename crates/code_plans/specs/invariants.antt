pub mod Walks
pub mod Parts
pub mod Constants
pub mod Joins
pub mod Frames
