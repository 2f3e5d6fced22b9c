pub mod Nth
pub mod KindLemmas
pub mod FlagLemmas
pub mod PrimaryLemmas
pub mod HolderLemmas
pub mod VirtualListLemmas
pub mod PrimaryKinds
