pub mod Viewed
pub mod Telling
