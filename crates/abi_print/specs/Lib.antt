pub mod Texts
pub mod LayoutTexts
pub mod TableTexts
pub mod invariants
