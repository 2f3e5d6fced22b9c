-- Lemmas on lists and on class numbers.
use Rattle.std.proofs.Common.{ℕ}
use Rattle.cxx_hierarchy.specs.declared.records.ClassId.{ClassId}
pub use Rattle.foundation.proofs.Places.{get_within, contains_first as has_here, contains_later as has_later, contains_at as has_at}

-- the number of a class
abbrev pub number : ℕ → ClassId
number n = record { 0 = n }
