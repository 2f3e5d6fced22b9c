pub mod Inside
pub mod Lists
pub mod Growing
pub mod Building
pub mod Ending
pub mod Advancing
pub mod Giving
pub mod Few
