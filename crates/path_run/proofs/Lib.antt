pub mod SizeLists
pub mod Turning
