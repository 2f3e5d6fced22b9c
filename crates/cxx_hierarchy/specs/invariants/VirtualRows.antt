-- The table of virtual bases that a hierarchy keeps: a row a class, and in it whether each class is one of its
-- virtual bases.
use Rattle.std.specs.Prelude.{◌≡◌, ℕ, ◌<◌, Bool, true, false, not, nat_eq, ◌||◌, ◌&&◌, List, [], length, get_or}
use Rattle.std.specs.List.{list_any}
use Rattle.cxx_hierarchy.specs.declared.records.ClassId.{ClassId}
use Rattle.cxx_hierarchy.specs.declared.records.Base.{Base}
use Rattle.cxx_hierarchy.specs.Classes.{Classes, bases_of}

abbrev pub Row : Type 0
Row = List Bool

-- what the row of a class says of another
abbrev pub mark : List Row → ℕ → ℕ → Bool
mark rows c v = get_or (get_or rows c []) v false

-- the edges that a walk takes: all, or the public ones
abbrev pub is_open : Bool → Base ClassId → Bool
is_open public_only base = base.is_public || not public_only

-- whether a base gives its class the virtual base v: it is v and virtual, or it has v
abbrev pub gives : Bool → List Row → ℕ → Base ClassId → Bool
gives public_only rows v base = is_open public_only base && ((base.is_virtual && nat_eq base.class.0 v) || mark rows base.class.0 v)

-- the row of a class is as long as its number: its virtual bases stand before it
pub record HaveSizes (rows : List Row) : Type 0 where
  pub each : (c : ℕ) → c < length rows → length (get_or rows c []) ≡ c

-- a row has the virtual bases that the direct bases of its class give
pub record AreRows (h : Classes) (public_only : Bool) (rows : List Row) : Type 0 where
  pub sizes : HaveSizes rows
  pub each : (c : ClassId) (v : ℕ) → c.0 < length rows → mark rows c.0 v ≡ list_any (gives public_only rows v) (bases_of h c)

-- rows for all classes of a hierarchy
pub record AreVirtualRows (h : Classes) (every public : List Row) : Type 0 where
  pub every_rows : AreRows h false every
  pub every_size : length every ≡ length h
  pub public_rows : AreRows h true public
  pub public_size : length public ≡ length h
