pub mod Sorts
pub mod Words
pub mod Lexemes
pub mod Front
pub mod Grammar
pub mod Table
pub mod Event
pub mod invariants
