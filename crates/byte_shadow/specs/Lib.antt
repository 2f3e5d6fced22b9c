pub mod Shadows
pub mod NearLists
pub mod Meaning
