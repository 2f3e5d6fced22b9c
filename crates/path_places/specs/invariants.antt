pub mod Kids
pub mod Walks
pub mod Leaves
pub mod Stores
pub mod Dumps
