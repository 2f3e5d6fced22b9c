pub mod Arguments
pub mod Begun
pub mod SideValues
