-- Views of a complete object, the chains in them, and which of their subobjects have a table (Itanium C++ ABI 2.5.1, 2.5.2).
use Rattle.std.specs.Prelude.{◌≡◌, ℕ, zero, suc, ◌<◌, Bool, true, false, not, ◌&&◌, ◌||◌, if◌then◌else◌, Option, Some, None, List, [], ◌∷◌, ◌++◌, filter, length}
use Rattle.std.specs.List.{list_any, flat_map}
use Rattle.cxx_hierarchy.specs.declared.records.ClassId.{ClassId}
use Rattle.cxx_hierarchy.specs.Classes.{Classes}
use Rattle.cxx_subobject.specs.declared.Root.{Root}
use Rattle.cxx_subobject.specs.declared.Root.TheVariants.{Whole, Shared}
use Rattle.cxx_subobject.specs.declared.Subobject.{Subobject}
use Rattle.cxx_subobject.specs.Subobjects.{IsSubobject, subobject, shared_base, same_root, class_of, join, whole_of, is_shared_root}
use Rattle.cxx_subobject.specs.Preorder.{preorder}
use Rattle.abi_primary.specs.declared.Primary.{Primary}
use Rattle.abi_primary.specs.declared.Primary.TheVariants.{None as NoPrimary, Direct, Virtual}
use Rattle.abi_primary.specs.Kinds.{IsDynamic}
use Rattle.cxx_hierarchy.specs.Declarations.{declares_virtual}
use Rattle.abi_sound.specs.Places.{Places}
use Rattle.cxx_subobject.specs.VirtualBases.{virtual_bases}
use Rattle.abi_sound.specs.Chains.{is_subobject_in}

-- a subobject of a complete object as the view of a group: its class, and where it is. The subobjects of the view are those
-- of its class
pub record View : Type 0 where
  pub complete : ClassId
  pub at_sub : Subobject
  pub class : ClassId

-- a complete object is its own view
abbrev pub whole_view : ClassId → View
whole_view c = record { complete = c; at_sub = whole_of c; class = c }

pub record IsView (h : Classes) (x : View) : Type 0 where
  pub known : x.complete.0 < length h
  pub valid : IsSubobject h x.complete x.at_sub
  pub of_class : class_of x.at_sub ≡ Some x.class
  pub dynamic : IsDynamic h x.class

-- a subobject of the view as one of the complete object
abbrev pub seen : View → Subobject → Subobject
seen x s = join x.at_sub s

-- where a subobject of the view lies in the complete object
abbrev pub place : Places → View → Subobject → ℕ
place l x s = l.place x.complete (seen x s)

abbrev pub next_by : Places → View → Subobject → Primary → Option Subobject
next_by l x s NoPrimary = None
next_by l x s (Direct b) = Some (subobject s.root (s.path ++ b ∷ []))
next_by l x s (Virtual v) = if is_subobject_in (l.holder x.complete v) (seen x s) then Some (shared_base v) else None

abbrev pub next_in : Places → View → Subobject → Option ClassId → Option Subobject
next_in l x s None = None
next_in l x s (Some c) = next_by l x s (l.primary c)

-- the next of a chain: the subobject of the primary base, where this is not virtual or is held here
abbrev pub next : Places → View → Subobject → Option Subobject
next l x s = next_in l x s (class_of s)

-- a class is dynamic where it has a virtual base, or it or a base declares a virtual function
abbrev pub is_dynamic : Classes → ClassId → Bool
is_dynamic h c = list_any (λ s. is_shared_root s.root || declares_virtual h (class_of s)) (preorder h c)

abbrev pub is_dynamic_class : Classes → Option ClassId → Bool
is_dynamic_class h None = false
is_dynamic_class h (Some c) = is_dynamic h c

-- it is in the chain of no other subobject of the view
abbrev pub is_first : Classes → Places → View → Subobject → Bool
is_first h l x s = not (list_any (λ u. is_subobject_in (next l x u) s) (preorder h x.class))

-- it has a table of its own: it is dynamic, and in no other's chain
abbrev pub is_head : Classes → Places → View → Subobject → Bool
is_head h l x s = is_dynamic_class h (class_of s) && is_first h l x s

-- those of a root
abbrev pub of_root : Root → List Subobject → List Subobject
of_root root list = filter (λ (s : Subobject). same_root root s.root) list

-- the subobjects of a class in preorder, those of its non-virtual part first, and then those of each virtual base
abbrev pub by_part : Classes → ClassId → List Subobject
by_part h c = of_root Whole (preorder h c) ++ flat_map (λ v. of_root (Shared v) (preorder h c)) (virtual_bases h c)

-- the subobjects that have a table, in the order of their tables
abbrev pub heads : Classes → Places → View → List Subobject
heads h l x = filter (is_head h l x) (by_part h x.class)

-- the subobject so far down a chain
abbrev pub along_chain : (Subobject → Option Subobject) → ℕ → Option Subobject → Option Subobject
along_chain next zero s = s
along_chain next (suc n) None = None
along_chain next (suc n) (Some s) = along_chain next n (next s)

-- the first of a chain that passes a test
abbrev pub first_in : (Subobject → Bool) → (Subobject → Option Subobject) → ℕ → Option Subobject → Option Subobject
first_in p next zero s = None
first_in p next (suc n) None = None
first_in p next (suc n) (Some s) = if p s then Some s else first_in p next n (next s)

-- the table of t serves s: s is in the chain of t
pub record Serves (h : Classes) (l : Places) (x : View) (t s : Subobject) : Type 0 where
  pub valid : IsSubobject h x.class t
  pub head : is_head h l x t ≡ true
  pub steps : ℕ
  pub leads : along_chain (next l x) steps (Some t) ≡ Some s
