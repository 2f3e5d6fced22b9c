pub mod Subobjects
pub mod Preorder
pub mod VirtualBases
pub mod Locations
pub mod Inside
pub mod Parts
pub mod invariants
pub mod VirtualFlags
