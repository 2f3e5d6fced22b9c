mod Along
mod GroupViews
mod OneTables
mod SomeGroup
mod SomeTables
mod Steps
mod TreeSums
mod HeadSums
pub mod VttSums
pub mod NumberLemmas
pub mod ViewLemmas
pub mod TableLengths
mod CheckLemmas
