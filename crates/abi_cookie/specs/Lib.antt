pub mod Cookies
pub mod Arrays
pub mod ArrayTexts
pub mod Answers
pub mod invariants
