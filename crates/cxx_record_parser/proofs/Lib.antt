pub mod Turns
pub mod Series
pub mod Drafts
pub mod Gathers
pub mod Numbers
