pub mod Marks
pub mod Served
pub mod Growing
