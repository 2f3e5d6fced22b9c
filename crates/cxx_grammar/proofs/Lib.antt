pub mod Sorts
pub mod Engine
pub mod Link
pub mod Prefix
pub mod Tails
pub mod Steps
pub mod Lexed
pub mod OneEvent
