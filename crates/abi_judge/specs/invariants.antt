pub mod Ways
pub mod Things
pub mod Drafts
pub mod Pushes
pub mod Apart
pub mod Leaves
pub mod Places
