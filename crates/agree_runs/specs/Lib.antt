pub mod Accepted
pub mod NextSteps
pub mod Dumps
pub mod EndLaws
