pub mod Truth
pub mod Places
pub mod Members
pub mod Chosen
pub mod Each
pub mod Deciding
pub mod Greatest
pub mod Zips
