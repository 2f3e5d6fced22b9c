pub mod Bytes
pub mod Drafts
pub mod Parts
pub mod Points
