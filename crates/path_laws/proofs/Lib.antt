pub mod Steps
pub mod Ways
pub mod Lists
pub mod Copies
pub mod VirtualFunctions
