pub mod Kinds
pub mod NearlyEmpty
pub mod PrimaryBase
pub mod Holder
pub mod VirtualLists
