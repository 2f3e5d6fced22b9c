-- What is known of the first classes once they are laid out.
use Rattle.std.specs.Prelude.{◌≡◌, ℕ, ◌<◌, Bool, true, false, not, ◌&&◌, ◌||◌, ◌==◌, Option, Some, None, List, Contains, length, slice_get}
use Rattle.cxx_hierarchy.specs.declared.records.ClassId.{ClassId}
use Rattle.cxx_hierarchy.specs.declared.records.Base.{Base}
use Rattle.cxx_hierarchy.specs.Classes.{Classes, bases_of}
use Rattle.abi_sound.specs.Places.{direct_base_place}
use Rattle.cxx_subobject.specs.declared.Subobject.{Subobject}
use Rattle.cxx_subobject.specs.Subobjects.{class_of}
use Rattle.abi_emptybase.specs.declared.Part.{Part}
use Rattle.abi_primary.specs.declared.Primary.{Primary}
use Rattle.abi_sound.specs.declared.class_layout.ClassLayout.{ClassLayout}
use Rattle.abi_layout.specs.declared.known.Known.{Known}
use Rattle.abi_layout.specs.Kinds.{is_empty, is_pod}
use Rattle.abi_layout.specs.invariants.Known.{empties_in, pods_in, known_parts_of, IsMemberType, AreAllSized}
use Rattle.abi_layout.specs.Brought.{parts_in_members}
use Rattle.abi_layout.specs.Layouts.{object_parts, place_from, is_whole, IsLaidBy}
use Rattle.abi_layout.specs.invariants.Scenes.{AreBefore, ContainTheirOwn}
use Rattle.abi_layout.specs.Refusals.{AreBroughtOnce}
use Rattle.abi_layout.specs.invariants.ClassRows.{AreSmaller}

-- the rows are the layout of the first n classes; the other lists tell of each which kind it is, what an object of it
-- brings, if some member is one, what its members bring, whether it is nearly empty, and its primary base
pub record IsLaidSoFar (h : Classes) (n : ℕ) (rows : List ClassLayout) (known : List Known) (members : List (List Part)) (nearly : List Bool) (primaries : List Primary) : Type 0 where
  pub by : IsLaidBy h n rows nearly primaries
  pub apart : AreBroughtOnce h n rows primaries
  pub known_each : length known ≡ n
  pub member_each : length members ≡ n
  pub empties : (d : ClassId) → d.0 < n → empties_in known d ≡ is_empty h d
  pub pods : (d : ClassId) → d.0 < n → pods_in known d ≡ is_pod h d
  pub parts : (d : ClassId) → d.0 < n → IsMemberType h d → known_parts_of known d ≡ object_parts h rows primaries d
  pub brings : (d : ClassId) (parts : List Part) → slice_get members d.0 ≡ Some parts → parts ≡ parts_in_members h rows (known_parts_of known) d
  pub sized : AreAllSized rows known
  pub before : AreBefore primaries
  pub inside : ContainTheirOwn h (record { 0 = n }) rows primaries members
  pub smaller : AreSmaller (record { 0 = n }) known

abbrev pub known_empty : List Known → Option ClassId → Bool
known_empty known None = false
known_empty known (Some d) = empties_in known d

-- an empty base that lies in no virtual base and elsewhere than at the start, by what is known of the classes
abbrev pub is_shifted_base : Classes → List ClassLayout → List Known → Subobject → Bool
is_shifted_base h rows known s = is_whole s.root && (known_empty known (class_of s) && not (place_from h rows s.path == 0))

-- whether a base of d lies elsewhere than at the start, where d does or does not
abbrev pub is_moved_base : Classes → List ClassLayout → ClassId → Bool → Base ClassId → Bool
is_moved_base h rows d is_moved base = is_moved || not (direct_base_place h rows d base.class == 0)

-- an empty base below d, in no virtual base, lies elsewhere than at the start, where d does or does not
pub data HasShifted (h : Classes) (rows : List ClassLayout) (known : List Known) : ClassId → Bool → Type 0 where
  by_itself : (d : ClassId) (is_moved : Bool) (base : Base ClassId) → Contains (bases_of h d) base → base.is_virtual ≡ false → (is_moved_base h rows d is_moved base && empties_in known base.class) ≡ true → HasShifted h rows known d is_moved
  by_inner : (d : ClassId) (is_moved : Bool) (base : Base ClassId) → Contains (bases_of h d) base → base.is_virtual ≡ false → HasShifted h rows known base.class (is_moved_base h rows d is_moved base) → HasShifted h rows known d is_moved

-- one base of d, or a base below it, is such a base
pub data BaseShifted (h : Classes) (rows : List ClassLayout) (known : List Known) (d : ClassId) (is_moved : Bool) (base : Base ClassId) : Type 0 where
  itself : base.is_virtual ≡ false → (is_moved_base h rows d is_moved base && empties_in known base.class) ≡ true → BaseShifted h rows known d is_moved base
  inner : base.is_virtual ≡ false → HasShifted h rows known base.class (is_moved_base h rows d is_moved base) → BaseShifted h rows known d is_moved base
