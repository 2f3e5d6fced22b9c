-- Where a part and its view stand in their complete object.
use Rattle.std.specs.Prelude.{◌≡◌, ◌<◌, ◌+◌, ◌%◌, ◌^◌, ℕ, Option, Some, None, List}
use Rattle.cxx_hierarchy.specs.declared.records.ClassId.{ClassId}
use Rattle.cxx_hierarchy.specs.Classes.{Classes}
use Rattle.cxx_subobject.specs.declared.Subobject.{Subobject}
use Rattle.cxx_subobject.specs.Locations.{ObjectPart}
use Rattle.path_plan.specs.declared.form.Form.TheVariants.{InFull}
use Rattle.path_numbers.specs.Sizes.{sizes_of}
use Rattle.path_numbers.specs.Nodes.{Node}
use Rattle.path_numbers.specs.Heap.{IsAt}
use Rattle.path_model.specs.Values.{Objects}
use Rattle.path_model.specs.Uses.{class_of_owner, view_of}
use Rattle.path_heap.specs.declared.state.Value.{Value}
use Rattle.path_heap.specs.declared.state.Value.TheVariants.{Pointer}
use Rattle.path_tables.specs.Parts.{IsNumbered}
use Rattle.path_values.specs.declared.standing.Standing.{Standing}

-- how far a number that may be there stands behind another, within 32 bits
abbrev pub IsBehind : ℕ → Option ℕ → Option ℕ → Type 0
IsBehind whole None None = Unit {0}
IsBehind whole None (Some k) = ⊥
IsBehind whole (Some n) None = ⊥
IsBehind whole (Some n) (Some k) = (m : ℕ) → m < 2 ^ 32 → n ≡ whole + m → k ≡ m

-- the number and the class of the complete object that p belongs to
pub record IsWholeOf (h : Classes) (classes : List ClassId) (whole : ℕ) (c : ClassId) (p : ObjectPart) : Type 0 where
  pub node : Node
  pub at : IsAt h (sizes_of h) classes node
  pub full : node.form ≡ InFull
  pub object : node.part.object ≡ p.object
  pub owner : node.part.owner ≡ p.owner
  pub is_number : node.number ≡ whole
  pub is_class : node.class ≡ c

-- a number that may be there is that of the subobject that may be there
abbrev pub IsViewNumber : Classes → ClassId → Option ℕ → Option Subobject → Type 0
IsViewNumber h c None None = Unit {0}
IsViewNumber h c None (Some x) = ⊥
IsViewNumber h c (Some n) None = ⊥
IsViewNumber h c (Some n) (Some x) = IsNumbered h c n x

-- the complete object that p belongs to, and within it the numbers of p and of the view
pub record IsStanding (h : Classes) (s : Objects) (p : ObjectPart) (at : Standing) : Type 0 where
  pub complete : IsWholeOf h s.classes at.whole at.class p
  pub owner : class_of_owner h s p ≡ Some at.class
  pub part : IsNumbered h at.class at.part p.at
  pub view : IsViewNumber h at.class at.view (view_of h s p)

-- a pointer to the part that stands this far behind a complete object, or another value
abbrev pub pointer_or : ℕ → Option ℕ → Value → Value
pointer_or whole None other = other
pointer_or whole (Some n) other = Pointer ((whole + n) % 2 ^ 64)
