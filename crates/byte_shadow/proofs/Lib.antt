pub mod Changed
mod ListLemmas
mod MapLemmas
mod NoteLemmas
mod ViewLemmas
