pub mod Fields
pub mod Pointers
pub mod Dumps
pub mod OutTexts
pub mod invariants
pub mod Told
pub mod Layouts
pub mod ToldLaws
