pub mod Numbers
pub mod Images
pub mod Records
pub mod Readers
