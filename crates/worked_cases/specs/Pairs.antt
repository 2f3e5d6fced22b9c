-- What is known of the type information of a class with two public bases (Itanium C++ ABI 2.9.5).
use Rattle.std.specs.Prelude.{◌≡◌, ℕ, ◌+◌, ◌-◌, ◌≤◌, ◌<◌, ◌^◌, Option, Some, pos}
use Rattle.byte_code.specs.Records.{IsInfoAt, HasBaseRecord}
use Rattle.worked_cases.specs.declared.hinted_visits.Pair.{Pair}

-- the record of the class, those of its bases, and those of their classes stand in the image; the bases are of smaller classes and have
-- none themselves, and are public: the first lies at the start, the second 16 bytes behind it
pub record IsPair (image : ℕ → Option ℕ) (pair : Pair) : Type 0 where
  pub whole : IsInfoAt image pair.info pair.whole
  pub bases : pair.whole.bases ≡ 2
  pub low : pair.whole.first + 32 < 2 ^ 64
  pub first : HasBaseRecord image pair.whole.first pair.first
  pub second : HasBaseRecord image (pair.whole.first + 16) pair.second
  pub at_start : pair.first.offset_flags ≡ pos 2
  pub behind : pair.second.offset_flags ≡ pos 4098
  pub first_class : IsInfoAt image pair.first.info pair.first_class
  pub second_class : IsInfoAt image pair.second.info pair.second_class
  pub first_ends : pair.first_class.bases ≡ 0
  pub second_ends : pair.second_class.bases ≡ 0
  pub first_below : pair.first_class.class < pair.whole.class
  pub second_below : pair.second_class.class < pair.whole.class

-- from the address point of the table that serves the second base lead words to the start, and to the record of the class
pub record IsSecondTable (image : ℕ → Option ℕ) (pair : Pair) (point : ℕ) : Type 0 where
  pub high : 16 ≤ point
  pub below : point ≤ pair.whole.first
  pub top : image (point - 16) ≡ Some (2 ^ 64 - 16)
  pub info : image (point - 8) ≡ Some pair.info
