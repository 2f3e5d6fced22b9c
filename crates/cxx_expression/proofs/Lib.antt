pub mod Finding
pub mod Knowing
mod ArgumentSteps
pub mod Complete
pub mod CompleteValues
pub mod CompletePlaces
pub mod CompleteRights
pub mod Results
