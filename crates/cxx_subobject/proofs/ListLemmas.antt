-- Lemmas on lists under the names that they had here: the layers above import them from foundation.
pub use Rattle.foundation.proofs.Truth.{split}
pub use Rattle.foundation.proofs.Members.{Has, EachOnce, AreApart, EachApart, has_left, has_right, has_cases, has_flat_map as has_mapped, from_flat_map as has_from_mapped, once_append, once_flat_map as once_mapped, flat_map_same as mapped_same, has_at, contains_from_has, has_from_contains, once_by_place}
pub use Rattle.foundation.proofs.Chosen.{filter_all}
