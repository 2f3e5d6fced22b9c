pub mod Rule
pub mod Graph
pub mod Casts
pub mod Known
pub mod invariants
pub mod ReadLaws
