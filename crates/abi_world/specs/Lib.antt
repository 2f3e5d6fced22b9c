pub mod Made
pub mod Worlds
