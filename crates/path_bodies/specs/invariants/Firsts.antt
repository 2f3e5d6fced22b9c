-- An index that is made body by body.
use Rattle.std.specs.Prelude.{◌≡◌, ℕ, Bool, true, false, Option, Some, None, List, find, slice_get}
use Rattle.cxx_hierarchy.specs.declared.records.ClassId.{ClassId}
use Rattle.cxx_overrider.specs.declared.FunctionId.{FunctionId}
use Rattle.cxx_program.specs.declared.program.Owner.TheVariants.{Function, Constructor, Destructor}
use Rattle.cxx_program.specs.declared.program.TypedBody.{TypedBody}
use Rattle.path_model.specs.States.{inits_in}
use Rattle.path_bodies.specs.declared.index.BodyIndex.{BodyIndex}
use Rattle.path_bodies.specs.Places.{place_by_key, first_place, member_key, is_of, sets}

-- the first place, or else the second
abbrev pub first_or : Option ℕ → Option ℕ → Option ℕ
first_or None later = later
first_or (Some n) later = Some n

-- the number where the flag is set
abbrev pub only_if : Bool → ℕ → Option ℕ
only_if true n = Some n
only_if false n = None

-- the item at a place that may be there
abbrev pub item_at_place : {X : Type 0} → List X → Option ℕ → Option X
item_at_place items None = None
item_at_place items (Some place) = slice_get items place

-- the index has the first places among these bodies
pub record IndexesBodies (bodies : List TypedBody) (index : BodyIndex) : Type 0 where
  pub functions : (f : FunctionId) → place_by_key index.functions (member_key f.class f.index) ≡ first_place (is_of (Function f)) bodies
  pub constructors : (c : ClassId) → place_by_key index.constructors (member_key c 0) ≡ first_place (is_of (Constructor c)) bodies
  pub destructors : (c : ClassId) → place_by_key index.destructors (member_key c 0) ≡ first_place (is_of (Destructor c)) bodies
  pub inits : (c : ClassId) (m : ℕ) → place_by_key index.inits (member_key c m) ≡ first_place (sets m) (inits_in (find (is_of (Constructor c)) bodies))
