pub mod Fits
pub mod Sites
