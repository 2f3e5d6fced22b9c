pub mod EndEntries
pub mod Pushed
pub mod MemberSteps
pub mod CopySteps
pub mod CoverSteps
pub mod Near
pub mod Sources
