pub mod Stacked
pub mod States
pub mod CheckKinds
pub mod OpKinds
pub mod GivenCallees
pub mod Steps
pub mod Flat
