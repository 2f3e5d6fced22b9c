pub mod Sizes
pub mod Nodes
pub mod Hops
pub mod Heap
pub mod Numbers
pub mod Laws
pub mod invariants
