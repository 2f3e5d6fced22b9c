pub mod MarkLemmas
pub mod ViewLemmas
pub mod ValidViews
mod Noting
pub mod Serving
pub mod KnownParts
pub mod PathEnds
pub mod WordSteps
pub mod BlockLemmas
pub mod RunLemmas
pub mod RunWords
pub mod ImageBlocks
