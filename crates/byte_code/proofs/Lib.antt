pub mod Pow
pub mod Reading
pub mod Words
pub mod Numbers
