pub mod Pointers
pub mod PointerBytes
pub mod PointerCalls
pub mod Answers
pub mod invariants
pub mod DataLaws
