pub mod Targets
pub mod Places
pub mod Calls
