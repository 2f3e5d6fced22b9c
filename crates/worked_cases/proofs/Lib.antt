pub mod CastingPairs
