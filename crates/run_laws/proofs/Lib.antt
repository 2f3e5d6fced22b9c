pub mod Stopping
pub mod Counting
