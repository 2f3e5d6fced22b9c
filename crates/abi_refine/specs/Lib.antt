pub mod Standing
pub mod Agreed
pub mod Endings
pub mod Reaches
pub mod Executions
pub mod Blocks
