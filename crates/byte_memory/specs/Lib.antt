pub mod Limits
pub mod Bits
pub mod Bytes
pub mod Regions
pub mod Store
pub mod Words
pub mod Pages
