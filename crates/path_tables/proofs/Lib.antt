pub mod Numbered
pub mod Targets
pub mod Within
pub mod Answering
pub mod Keeping
pub mod Downs
pub mod Paths
