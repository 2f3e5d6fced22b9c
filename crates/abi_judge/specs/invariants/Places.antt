-- The judgement of single things, and of all of them.
use Rattle.std.specs.Prelude.{◌≡◌, ℕ, true, Option, Some, None, List, slice_get}
use Rattle.std.specs.List.{filter_map, list_all}
use Rattle.cxx_hierarchy.specs.declared.records.ClassId.{ClassId}
use Rattle.cxx_subobject.specs.declared.Subobject.{Subobject}
use Rattle.cxx_hierarchy.specs.Classes.{Classes}
use Rattle.abi_sound.specs.declared.class_layout.ClassLayout.{ClassLayout}
use Rattle.abi_sound.specs.Places.{Places, places_of, place_in_class, virtual_place}
use Rattle.abi_sound.specs.Chains.{primary_part}
use Rattle.abi_judge.specs.declared.things.Thing.{Thing}
use Rattle.abi_judge.specs.declared.rules.SoundRule.{SoundRule}
use Rattle.abi_judge.specs.declared.rules.SoundRule.TheVariants.{Primary, Place, Align, Inside, Overlap, Twice}
use Rattle.abi_judge.specs.invariants.Apart.{ShareNoBit, AreDistinct}
use Rattle.abi_judge.specs.invariants.Things.{is_fit, fits_in_size, span_in, key_in}

-- in an object of class c the subobject and its primary base have one place
pub record LiesAtPrimary (l : Places) (c : ClassId) (s : Subobject) : Type 0 where
  pub same : (t : Subobject) → primary_part l c s ≡ Some t → l.place c t ≡ l.place c s

-- where the subobject holds the virtual base of class c, both have one place
pub record LiesAtHeld (h : Classes) (rows : List ClassLayout) (c v : ClassId) (s : Subobject) : Type 0 where
  pub same : (places_of h rows).holder c v ≡ Some s → virtual_place rows c v ≡ place_in_class h rows c s

-- each of the subobjects has one place with its primary base
pub record AllLie (l : Places) (c : ClassId) (list : List Subobject) : Type 0 where
  pub each : (i : ℕ) (s : Subobject) → slice_get list i ≡ Some s → LiesAtPrimary l c s

-- all things are aligned, lie inside, share no bit, and no class subobject lies where another of its class does
abbrev pub AreWellPlaced : List Thing → Type 0
AreWellPlaced things = list_all is_fit things ≡ true

abbrev pub AreInside : ℕ → List Thing → Type 0
AreInside size things = list_all (fits_in_size size) things ≡ true

abbrev pub ShareNone : List Thing → Type 0
ShareNone things = ShareNoBit (filter_map span_in things)

abbrev pub LieOnce : List Thing → Type 0
LieOnce things = AreDistinct (filter_map key_in things)

-- what each answer says of the things in an object
abbrev pub IsFaultOfThings : ℕ → List Thing → Option SoundRule → Type 0
IsFaultOfThings size things None = AreWellPlaced things × AreInside size things × ShareNone things × LieOnce things
IsFaultOfThings size things (Some Align) = AreWellPlaced things → ⊥
IsFaultOfThings size things (Some Inside) = AreWellPlaced things × (AreInside size things → ⊥)
IsFaultOfThings size things (Some Overlap) = AreWellPlaced things × AreInside size things × (ShareNone things → ⊥)
IsFaultOfThings size things (Some Twice) = AreWellPlaced things × AreInside size things × ShareNone things × (LieOnce things → ⊥)
IsFaultOfThings size things (Some Primary) = ⊥
IsFaultOfThings size things (Some Place) = ⊥
