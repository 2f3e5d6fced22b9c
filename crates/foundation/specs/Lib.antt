pub mod Limits
pub mod Only
