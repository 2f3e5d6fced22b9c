pub mod Growing
pub mod Weights
