pub mod Firsts
pub mod Adding
pub mod Asking
