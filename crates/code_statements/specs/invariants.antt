pub mod Fits
pub mod Sites
pub mod CopyFits
pub mod Pushes
