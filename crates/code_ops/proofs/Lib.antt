pub mod Bases
pub mod Pushes
pub mod Members
pub mod BitFields
