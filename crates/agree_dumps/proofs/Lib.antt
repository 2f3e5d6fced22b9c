pub mod Turns
pub mod Lines
pub mod LeafEntries
pub mod Told
pub mod DumpTexts
pub mod TypedLeaves
pub mod FewObjects
pub mod RunDumps
