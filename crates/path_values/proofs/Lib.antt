pub mod Turns
pub mod Bits
pub mod Reading
pub mod Meaning
pub mod Following
pub mod Seen
pub mod PartNumbers
pub mod Viewed
