pub mod Operands
pub mod Statements
pub mod SameTrees
pub mod Parts
pub mod Definitions
pub mod Sources
pub mod SameSources
pub mod Owners
