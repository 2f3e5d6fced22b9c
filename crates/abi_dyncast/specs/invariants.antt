pub mod Chain
pub mod Finding
pub mod Walks
pub mod Searches
pub mod Deciding
pub mod Hinting
pub mod Direct
