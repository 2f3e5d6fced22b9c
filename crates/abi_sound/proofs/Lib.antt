pub mod PlaceLemmas
pub mod LeafSpans
pub mod Depth
pub mod PrimaryParts
pub mod ChainLemmas
pub mod SmallModel
pub mod PointerModel
pub mod MemberModel
