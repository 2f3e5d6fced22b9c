pub mod Repeats
pub mod TypeInfos
