-- Lists that grow by what is for some items.
use Rattle.std.specs.Prelude.{List, ◌++◌}
use Rattle.abi_slots.specs.Groups.{GoAlong}

-- what is for these items is put behind what was there
pub record GrowsByEach {A : Type 0} {B : Type 0} (R : A → B → Type 0) (more : List A) (old new : List B) : Type 0 where
  pub along : (before : List A) → GoAlong R before old → GoAlong R (before ++ more) new
