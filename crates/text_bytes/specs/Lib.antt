pub mod LeafRows
pub mod RawDumps
pub mod RawTexts
pub mod Reads
pub mod invariants
pub mod TextLaws
