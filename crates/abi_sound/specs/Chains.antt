-- Which subobjects share a virtual pointer (Itanium C++ ABI 2.5.2).
use Rattle.std.specs.Prelude.{◌≡◌, ℕ, zero, suc, ◌+◌, Bool, false, if◌then◌else◌, Option, Some, None, List, [], ◌∷◌, ◌++◌}
use Rattle.cxx_hierarchy.specs.declared.records.ClassId.{ClassId}
use Rattle.cxx_hierarchy.specs.declared.records.FieldType.TheVariants.{Object}
use Rattle.cxx_hierarchy.specs.Classes.{Classes}
use Rattle.cxx_subobject.specs.declared.Root.{Root}
use Rattle.cxx_subobject.specs.declared.Root.TheVariants.{Whole, Shared}
use Rattle.cxx_subobject.specs.declared.Subobject.{Subobject}
use Rattle.cxx_subobject.specs.Subobjects.{subobject, shared_base, class_of, same_subobject}
use Rattle.abi_primary.specs.declared.Primary.{Primary}
use Rattle.abi_primary.specs.declared.Primary.TheVariants.{None as NoPrimary, Direct, Virtual}
use Rattle.cxx_subobject.specs.declared.locations.Hop.{Hop}
use Rattle.cxx_subobject.specs.declared.locations.Hop.TheVariants.{Inherit, Member as MemberHop}
use Rattle.cxx_subobject.specs.Locations.{IsElement}
use Rattle.abi_sound.specs.Places.{Places}

abbrev pub is_subobject_in : Option Subobject → Subobject → Bool
is_subobject_in None s = false
is_subobject_in (Some t) s = same_subobject t s

abbrev pub primary_by : Places → ClassId → Subobject → Primary → Option Subobject
primary_by l c s NoPrimary = None
primary_by l c s (Direct b) = Some (subobject s.root (s.path ++ b ∷ []))
primary_by l c s (Virtual v) = if is_subobject_in (l.holder c v) s then Some (shared_base v) else None

abbrev pub primary_of_class : Places → ClassId → Subobject → Option ClassId → Option Subobject
primary_of_class l c s None = None
primary_of_class l c s (Some d) = primary_by l c s (l.primary d)

-- in an object of class c, the primary base of a subobject: its direct non-virtual base, or the virtual base where the
-- subobject holds that
abbrev pub primary_part : Places → ClassId → Subobject → Option Subobject
primary_part l c s = primary_of_class l c s (class_of s)

-- the second is in the chain of the first: the first itself, its primary base, the primary base of that, and so on
pub data IsInChain (l : Places) (c : ClassId) : Subobject → Subobject → Type 0 where
  itself : (s : Subobject) → IsInChain l c s s
  further : (s t u : Subobject) → primary_part l c s ≡ Some t → IsInChain l c t u → IsInChain l c s u

-- two class subobjects of an object, at any depth, share a virtual pointer: they are subobjects of one complete object in
-- it, and one is in the chain of the other
pub data ShareChain (h : Classes) (l : Places) : ClassId → List Hop → List Hop → Type 0 where
  downwards : (c : ClassId) (s t : Subobject) → IsInChain l c s t → ShareChain h l c (Inherit s ∷ []) (Inherit t ∷ [])
  upwards : (c : ClassId) (s t : Subobject) → IsInChain l c t s → ShareChain h l c (Inherit s ∷ []) (Inherit t ∷ [])
  in_element : (c d e : ClassId) (s : Subobject) (m i : ℕ) (hops others : List Hop) → class_of s ≡ Some d → IsElement h d m i (Object e) → ShareChain h l e hops others → ShareChain h l c (Inherit s ∷ MemberHop m i ∷ hops) (Inherit s ∷ MemberHop m i ∷ others)

abbrev pub chain_behind : (Subobject → List Subobject) → Option Subobject → List Subobject
chain_behind next None = []
chain_behind next (Some t) = next t

abbrev pub chain_within : Places → ℕ → ClassId → Subobject → List Subobject
chain_within l zero c s = []
chain_within l (suc steps) c s = s ∷ chain_behind (chain_within l steps c) (primary_part l c s)

-- the chain of a subobject as a list: itself, its primary base, the primary base of that, and so on. Class numbers fall
-- along a chain, so that it is no longer than the class's number and one more
abbrev pub chain : Places → ClassId → Subobject → List Subobject
chain l c s = chain_within l (c.0 + 1) c s

abbrev pub but_last : List ClassId → List ClassId
but_last [] = []
but_last (c ∷ []) = []
but_last (c ∷ d ∷ path) = c ∷ but_last (d ∷ path)

-- the one subobject that can have this one as its primary base: the one whose direct base it is, or its holder
abbrev pub only_above : Places → ClassId → Root → List ClassId → Option Subobject
only_above l c root [] = None
only_above l c Whole (b ∷ []) = None
only_above l c (Shared v) (b ∷ []) = l.holder c v
only_above l c root (a ∷ b ∷ path) = Some (subobject root (but_last (a ∷ b ∷ path)))

abbrev pub kept_above : Places → ClassId → Subobject → Option Subobject → Option Subobject
kept_above l c s None = None
kept_above l c s (Some t) = if is_subobject_in (primary_part l c t) s then Some t else None

-- the subobject whose primary base this one is, in an object of class c
abbrev pub above : Places → ClassId → Subobject → Option Subobject
above l c s = kept_above l c s (only_above l c s.root s.path)

abbrev pub climbed : (Subobject → Bool) → (Subobject → Subobject) → Subobject → Option Subobject → Subobject
climbed within next s None = s
climbed within next s (Some t) = if within t then next t else s

abbrev pub head_after : Places → (Subobject → Bool) → ℕ → ClassId → Subobject → Subobject
head_after l within zero c s = s
head_after l within (suc steps) c s = climbed within (head_after l within steps c) s (above l c s)

-- the head of the chain of a subobject among those that the test picks: one climbs while the next one above is picked
abbrev pub chain_head : Places → (Subobject → Bool) → ClassId → Subobject → Subobject
chain_head l within c s = head_after l within (c.0 + 1) c s
