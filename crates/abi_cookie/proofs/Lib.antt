pub mod Marking
pub mod Elements
pub mod Stores
pub mod Ending
pub mod Answering
pub mod TextLines
