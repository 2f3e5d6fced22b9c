pub mod Lists
pub mod Throughs
pub mod Prefixes
