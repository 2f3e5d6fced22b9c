pub mod Wholes
pub mod Writers
