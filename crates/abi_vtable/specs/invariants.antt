pub mod Parts
pub mod Words
pub mod Returns
pub mod Sites
pub mod Kept
pub mod Near
