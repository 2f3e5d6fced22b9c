pub mod Numbers
pub mod Codes
pub mod Runs
pub mod Lowerings
