-- What holds of each element of a list, by a walk over it.
pub use Rattle.foundation.proofs.Each.{EachBefore, none_before, one_more, all_of}
pub use Rattle.foundation.proofs.Truth.{never, always, not_both}
