-- Which classes no layout is given for, and which layouts are given.
use Rattle.std.specs.Prelude.{◌≡◌, ℕ, ◌+◌, ◌<◌, ◌≤◌, Bool, Some, List, length, take}
use Rattle.cxx_hierarchy.specs.declared.records.ClassId.{ClassId}
use Rattle.cxx_hierarchy.specs.declared.stop.Stop.{Stop}
use Rattle.cxx_hierarchy.specs.declared.stop.Stop.TheVariants.{Refused, Limit}
use Rattle.cxx_hierarchy.specs.declared.stop.Rule.TheVariants.{SharedPlace}
use Rattle.cxx_hierarchy.specs.declared.stop.LimitNo.TheVariants.{L6}
use Rattle.cxx_hierarchy.specs.Classes.{Class, Classes, class_at}
use Rattle.abi_primary.specs.declared.Primary.{Primary}
use Rattle.abi_primary.specs.PrimaryBase.{IsPrimary}
use Rattle.abi_sound.specs.declared.class_layout.ClassLayout.{ClassLayout}
use Rattle.abi_layout.specs.Limits.{size_limit}
use Rattle.abi_layout.specs.Placements.{AreSmall}
use Rattle.abi_layout.specs.Layouts.{primary_of, IsArrangedBy, HasPointer, IsLaidBy, BringsTwice}

-- class c is the next one: the classes before it are laid out, and the primary bases are those of the classes up to it
pub record IsNextToLayOut (h : Classes) (c : ClassId) : Type 0 where
  pub class : Class
  pub there : class_at h c ≡ Some class
  pub rows : List ClassLayout
  pub nearly : List Bool
  pub primaries : List Primary
  pub laid : IsLaidBy h c.0 rows nearly (take c.0 primaries)
  pub primary_each : length primaries ≡ c.0 + 1
  pub is_primary : IsPrimary h nearly (take c.0 primaries) c (primary_of primaries c)
  pub has_pointer : Bool
  pub pointer : HasPointer h primaries c has_pointer

-- by the rules of layout class c takes so many bytes
pub record HasSize (h : Classes) (c : ClassId) (size : ℕ) : Type 0 where
  pub next : IsNextToLayOut h c
  pub front_places : List ℕ
  pub free_places : List ℕ
  pub row : ClassLayout
  pub placed : IsArrangedBy h next.rows next.primaries c next.class next.has_pointer front_places free_places row
  pub is : row.size ≡ size

-- class c takes more than the limit of sizes
pub record IsLargeClass (h : Classes) (c : ClassId) : Type 0 where
  pub size : ℕ
  pub has : HasSize h c size
  pub large : size_limit < size

-- a base of class c brings one pair of class and place twice, wherever it is placed
pub record HasSharedPlace (h : Classes) (c : ClassId) : Type 0 where
  pub next : IsNextToLayOut h c
  pub twice : BringsTwice h next.rows next.primaries c next.class

-- no base of the first `count` classes brings one pair of class and place twice
pub record AreBroughtOnce (h : Classes) (count : ℕ) (rows : List ClassLayout) (primaries : List Primary) : Type 0 where
  pub each : (c : ClassId) (class : Class) → c.0 < count → class_at h c ≡ Some class → BringsTwice h rows primaries c class → ⊥

-- the layout of the first `count` classes, none of which is refused
pub record IsWellLaid (h : Classes) (count : ℕ) (rows : List ClassLayout) : Type 0 where
  pub nearly : List Bool
  pub primaries : List Primary
  pub by : IsLaidBy h count rows nearly primaries
  pub small : AreSmall rows
  pub apart : AreBroughtOnce h count rows primaries

-- class c is refused so: for its size, or, within the limit, for a shared place
pub data StopsLayout (h : Classes) (c : ClassId) : Stop → Type 0 where
  by_size : IsLargeClass h c → StopsLayout h c (Limit L6)
  by_place : (class : Class) (size : ℕ) → class_at h c ≡ Some class → HasSize h c size → size ≤ size_limit → HasSharedPlace h c → StopsLayout h c (Refused SharedPlace class.at)

-- the first of the first `count` classes that is refused, and how
pub record IsFirstStop (h : Classes) (count : ℕ) (stop : Stop) : Type 0 where
  pub class : ClassId
  pub known : class.0 < count
  pub rows : List ClassLayout
  pub before : IsWellLaid h class.0 rows
  pub stops : StopsLayout h class stop
