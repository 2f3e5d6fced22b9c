pub mod Counts
pub mod NameCuts
pub mod CutCalls
pub mod Forms
pub mod CommandLaws
pub mod Matching
pub mod Answering
