pub mod Vtts
pub mod Blocks
pub mod VttImages
pub mod invariants
pub mod VttLaws
