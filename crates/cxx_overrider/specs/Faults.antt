-- The class-meaning pass: which conditions refuse a hierarchy, and their order.
use Rattle.std.specs.Prelude.{◌≡◌, ℕ, ◌<◌, ◌⊎◌, Some, length, slice_get}
use Rattle.cxx_hierarchy.specs.declared.records.ClassId.{ClassId}
use Rattle.cxx_hierarchy.specs.declared.records.Function.{Function}
use Rattle.cxx_hierarchy.specs.declared.records.Member.{Member}
use Rattle.cxx_hierarchy.specs.declared.records.FieldType.TheVariants.{Object}
use Rattle.cxx_hierarchy.specs.declared.stop.Stop.{Stop}
use Rattle.cxx_hierarchy.specs.declared.stop.Stop.TheVariants.{Refused, Limit, NoMemory}
use Rattle.cxx_hierarchy.specs.declared.stop.Rule.TheVariants.{ReturnMismatch, IncompleteClass, AmbiguousCovariant, TwoFinalOverriders, Abstract}
use Rattle.cxx_hierarchy.specs.declared.stop.LimitNo.TheVariants.{L5}
use Rattle.cxx_hierarchy.specs.Classes.{Class, Classes, class_at, members_of, functions_of}
use Rattle.cxx_subobject.specs.Parts.{IsWithinLimits}
use Rattle.cxx_overrider.specs.Virtuals.{function_at}
use Rattle.cxx_overrider.specs.Overriding.{HasTwoFinalOverriders, IsAbstract}
use Rattle.cxx_overrider.specs.Covariance.{HasMismatch, HasIncompleteReturn, HasAmbiguousReturn}

-- where in the pass a condition is asked: class by class, in a class part by part, in a part item by item, and
-- for an item test by test
pub record Spot : Type 0 where
  pub class : ClassId
  pub part : ℕ
  pub item : ℕ
  pub test : ℕ

abbrev pub spot : ClassId → ℕ → ℕ → ℕ → Spot
spot class part item test = record { class = class; part = part; item = item; test = test }

-- the parts of a class in their order; the size of the class and its shared places are asked behind them
abbrev pub limit_part : ℕ
limit_part = 0

abbrev pub function_part : ℕ
function_part = 1

abbrev pub overrider_part : ℕ
overrider_part = 2

abbrev pub member_part : ℕ
member_part = 3

abbrev pub size_part : ℕ
size_part = 4

abbrev pub place_part : ℕ
place_part = 5

-- one spot is asked before the other
pub data IsBefore : Spot → Spot → Type 0 where
  by_class : (a b : Spot) → a.class.0 < b.class.0 → IsBefore a b
  by_part : (a b : Spot) → a.class ≡ b.class → a.part < b.part → IsBefore a b
  by_item : (a b : Spot) → a.class ≡ b.class → a.part ≡ b.part → a.item < b.item → IsBefore a b
  by_test : (a b : Spot) → a.class ≡ b.class → a.part ≡ b.part → a.item ≡ b.item → a.test < b.test → IsBefore a b

-- the condition asked at the spot refuses the hierarchy with the stop
pub data Fault (h : Classes) : Spot → Stop → Type 0 where
  too_large : (c : ClassId) → c.0 < length h → (IsWithinLimits h c → ⊥) → Fault h (spot c limit_part 0 0) (Limit L5)
  mismatch : (c : ClassId) (i : ℕ) (f : Function ClassId) → slice_get (functions_of h c) i ≡ Some f → HasMismatch h (function_at c i) → Fault h (spot c function_part i 0) (Refused ReturnMismatch f.at)
  incomplete : (c : ClassId) (i : ℕ) (f : Function ClassId) → slice_get (functions_of h c) i ≡ Some f → HasIncompleteReturn h (function_at c i) → Fault h (spot c function_part i 1) (Refused IncompleteClass f.at)
  ambiguous : (c : ClassId) (i : ℕ) (f : Function ClassId) → slice_get (functions_of h c) i ≡ Some f → HasAmbiguousReturn h (function_at c i) → Fault h (spot c function_part i 2) (Refused AmbiguousCovariant f.at)
  two_overriders : (c : ClassId) (class : Class) → class_at h c ≡ Some class → HasTwoFinalOverriders h c → Fault h (spot c overrider_part 0 0) (Refused TwoFinalOverriders class.at)
  abstract_member : (c d : ClassId) (i : ℕ) (m : Member ClassId) → slice_get (members_of h c) i ≡ Some m → m.ty ≡ Object d → IsAbstract h d → Fault h (spot c member_part i 0) (Refused Abstract m.at)

-- the class has a fault with this stop, and nothing is asked before it that refuses the hierarchy
pub record IsFirstFault (h : Classes) (c : ClassId) (stop : Stop) : Type 0 where
  pub part : ℕ
  pub item : ℕ
  pub test : ℕ
  pub fault : Fault h (spot c part item test) stop
  pub first : (b : Spot) (other : Stop) → Fault h b other → IsBefore b (spot c part item test) → ⊥

-- no condition refuses the hierarchy
pub record HasNoFault (h : Classes) : Type 0 where
  pub none : (b : Spot) (stop : Stop) → Fault h b stop → ⊥

-- the first fault among those of the class, whatever other classes have
pub record IsFirstFaultIn (h : Classes) (c : ClassId) (stop : Stop) : Type 0 where
  pub part : ℕ
  pub item : ℕ
  pub test : ℕ
  pub fault : Fault h (spot c part item test) stop
  pub first : (p i t : ℕ) (other : Stop) → Fault h (spot c p i t) other → IsBefore (spot c p i t) (spot c part item test) → ⊥

-- no condition refuses the class
pub record HasNoFaultIn (h : Classes) (c : ClassId) : Type 0 where
  pub none : (part item test : ℕ) (stop : Stop) → Fault h (spot c part item test) stop → ⊥

-- the pass stops at this class with the first fault, or for want of memory
abbrev pub StopsIn : Classes → ClassId → Stop → Type 0
StopsIn h c stop = (stop ≡ NoMemory) ⊎ IsFirstFault h c stop

-- the pass stops with the first fault, or for want of memory
abbrev pub StopsAtFault : Classes → Stop → Type 0
StopsAtFault h stop = (stop ≡ NoMemory) ⊎ ((c : ClassId) × IsFirstFault h c stop)
