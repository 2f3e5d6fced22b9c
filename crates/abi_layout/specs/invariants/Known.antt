-- What is known of the classes that are laid out, while the next one is.
use Rattle.std.specs.Prelude.{◌≡◌, ℕ, ◌<◌, ◌≤◌, ◌⊎◌, Bool, false, nat_eq, Option, Some, None, List, [], slice_get, Contains}
use Rattle.cxx_hierarchy.specs.declared.records.ClassId.{ClassId}
use Rattle.cxx_hierarchy.specs.declared.records.Base.{Base}
use Rattle.cxx_hierarchy.specs.declared.records.Member.{Member}
use Rattle.cxx_hierarchy.specs.declared.records.FieldType.{FieldType}
use Rattle.cxx_hierarchy.specs.declared.records.FieldType.TheVariants.{Value, Object}
use Rattle.cxx_hierarchy.specs.Classes.{Class, Classes, members_of}
use Rattle.abi_emptybase.specs.declared.Part.{Part}
use Rattle.abi_layout.specs.Limits.{size_limit}
use Rattle.abi_layout.specs.declared.component.Component.{Component}
use Rattle.abi_layout.specs.declared.component.Stage.{Stage}
use Rattle.abi_layout.specs.declared.known.Known.{Known}
use Rattle.abi_sound.specs.declared.class_layout.ClassLayout.{ClassLayout}
use Rattle.abi_layout.specs.Placements.{member_components}
use Rattle.abi_layout.specs.invariants.Alignments.{IsAlignment, LieUpTo}

abbrev pub is_empty_in : Option Known → Bool
is_empty_in None = false
is_empty_in (Some known) = known.is_empty

abbrev pub is_pod_in : Option Known → Bool
is_pod_in None = false
is_pod_in (Some known) = known.is_pod

abbrev pub parts_known : Option Known → List Part
parts_known None = []
parts_known (Some known) = known.parts

-- which earlier classes are empty, which are POD, and which parts they bring
abbrev pub empties_in : List Known → ClassId → Bool
empties_in known c = is_empty_in (slice_get known c.0)

abbrev pub pods_in : List Known → ClassId → Bool
pods_in known c = is_pod_in (slice_get known c.0)

abbrev pub known_parts_of : List Known → ClassId → List Part
known_parts_of known c = parts_known (slice_get known c.0)

-- some class has a member or an array of objects of class d
pub record IsMemberType (h : Classes) (d : ClassId) : Type 0 where
  pub owner : ClassId
  pub member : Member ClassId
  pub listed : Contains (members_of h owner) member
  pub type : member.ty ≡ Object d

abbrev pub is_object : ClassId → FieldType ClassId → Bool
is_object c (Value type) = false
is_object c (Object d) = nat_eq d.0 c.0

-- what is kept of a class: what an object of it brings may be left out where no member is of the class
pub record KeepsEnough (h : Classes) (c : ClassId) (known kept : Known) : Type 0 where
  pub is_empty : kept.is_empty ≡ known.is_empty
  pub is_pod : kept.is_pod ≡ known.is_pod
  pub parts : IsMemberType h c → kept.parts ≡ known.parts
  pub less : (kept.parts ≡ known.parts) ⊎ (kept.parts ≡ [])

-- a row within the limit of sizes, and class subobjects that lie within the size of an object
pub record IsSized (row : ClassLayout) (brought : List Part) : Type 0 where
  pub align : IsAlignment row.align
  pub nvalign : IsAlignment row.nvalign
  pub nvsize : row.nvsize ≤ row.size
  pub size : row.size ≤ size_limit
  pub parts : LieUpTo row.size brought

pub record AreAllSized (rows : List ClassLayout) (known : List Known) : Type 0 where
  pub each : (number : ℕ) (row : ClassLayout) (k : Known) → slice_get rows number ≡ Some row → slice_get known number ≡ Some k → IsSized row k.parts

-- a type whose class, if it is one, is laid out
abbrev pub IsEarlierType : ℕ → FieldType ClassId → Type 0
IsEarlierType count (Value type) = Unit {0}
IsEarlierType count (Object d) = d.0 < count

-- the classes of bases and member objects are laid out
pub record AreEarlier (count : ℕ) (class : Class) : Type 0 where
  pub bases : (base : Base ClassId) → Contains class.bases base → base.class.0 < count
  pub objects : (member : Member ClassId) → Contains class.members member → IsEarlierType count member.ty

abbrev pub members_by : List ClassLayout → List Known → Class → List Component
members_by rows known class = member_components rows (known_parts_of known) class

-- where nothing is placed
abbrev pub empty_stage : Stage
empty_stage = record { dsize = 0; free_bit = 0; size = 0; align = 1; parts = [] }

-- a component takes more than the limit of sizes
pub record HasLarge (components : List Component) : Type 0 where
  pub number : ℕ
  pub component : Component
  pub there : slice_get components number ≡ Some component
  pub large : size_limit < component.takes
