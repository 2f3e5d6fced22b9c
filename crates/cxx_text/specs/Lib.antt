pub mod Bytes
pub mod OneToken
pub mod Longest
pub mod Blank
pub mod Cover
pub mod invariants
