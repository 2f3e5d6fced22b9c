-- Words as bytes.
use Rattle.std.specs.Prelude.{◌≡◌, ℕ, ◌+◌, ◌*◌, Some, List, length, slice_get}
use Rattle.byte_code.specs.Images.{image_number_at}

-- words are put behind bytes: what could be read can be read as before, and each word where it was put
pub record PutsWords (old new words : List ℕ) : Type 0 where
  pub size : length new ≡ length old + 8 * length words
  pub keeps : (i w : ℕ) → image_number_at old i ≡ Some w → image_number_at new i ≡ Some w
  pub there : (i w : ℕ) → slice_get words i ≡ Some w → image_number_at new (length old + 8 * i) ≡ Some w
