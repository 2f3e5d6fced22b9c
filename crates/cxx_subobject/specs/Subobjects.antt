-- The inheritance subobjects of a class, as paths (ISO C++03 10.1; Rossie and Friedman).
use Rattle.std.specs.Prelude.{◌≡◌, Bool, true, false, if◌then◌else◌, nat_eq, ◌&&◌, Option, Some, None, List, [], ◌∷◌, ◌++◌}
use Rattle.cxx_hierarchy.specs.declared.records.ClassId.{ClassId}
use Rattle.cxx_hierarchy.specs.declared.records.Base.{Base}
use Rattle.cxx_hierarchy.specs.Classes.{Classes}
use Rattle.cxx_hierarchy.specs.VirtualBases.{IsDirectBase, HasVirtualBase}
use Rattle.cxx_subobject.specs.declared.Root.{Root}
use Rattle.cxx_subobject.specs.declared.Root.TheVariants.{Whole, Shared}
use Rattle.cxx_subobject.specs.declared.Subobject.{Subobject}

-- the classes of the path are, each of the one before it and the first of c, direct non-virtual bases
abbrev pub Leads : Classes → ClassId → List ClassId → Type 0
Leads h c [] = Unit {0}
Leads h c (b ∷ path) = IsDirectBase h c false b × Leads h b path

abbrev pub subobject : Root → List ClassId → Subobject
subobject root path = record { root = root; path = path }

-- the path begins at a virtual base
abbrev pub is_shared_root : Root → Bool
is_shared_root Whole = false
is_shared_root (Shared v) = true

-- the whole of an object of class c
abbrev pub whole_of : ClassId → Subobject
whole_of c = subobject Whole (c ∷ [])

-- the subobject that a direct base of the class of s is: a shared one, or one more class behind the path
abbrev pub base_subobject : Subobject → Base ClassId → Subobject
base_subobject s base = if base.is_virtual then subobject (Shared base.class) (base.class ∷ []) else subobject s.root (s.path ++ base.class ∷ [])

-- the virtual base v, as the one subobject that all who reach it share
abbrev pub shared_base : ClassId → Subobject
shared_base v = subobject (Shared v) (v ∷ [])

-- s is a subobject of c
pub data IsSubobject (h : Classes) (c : ClassId) : Subobject → Type 0 where
  whole : (path : List ClassId) → Leads h c path → IsSubobject h c (subobject Whole (c ∷ path))
  shared : (v : ClassId) (path : List ClassId) → HasVirtualBase h c v → Leads h v path → IsSubobject h c (subobject (Shared v) (v ∷ path))

abbrev pub last_of : ClassId → List ClassId → ClassId
last_of c [] = c
last_of c (b ∷ path) = last_of b path

abbrev pub class_of_path : List ClassId → Option ClassId
class_of_path [] = None
class_of_path (c ∷ path) = Some (last_of c path)

-- the class of a subobject: the last one of its path
abbrev pub class_of : Subobject → Option ClassId
class_of s = class_of_path s.path

abbrev pub is_class : ClassId → Option ClassId → Bool
is_class c None = false
is_class c (Some d) = nat_eq c.0 d.0

-- the class of the subobject is c
abbrev pub is_of_class : ClassId → Subobject → Bool
is_of_class c s = is_class c (class_of s)

-- s is a subobject of c, and of class d
pub record IsOfClass (h : Classes) (c d : ClassId) (s : Subobject) : Type 0 where
  pub valid : IsSubobject h c s
  pub class : class_of s ≡ Some d

abbrev pub tail_of : List ClassId → List ClassId
tail_of [] = []
tail_of (c ∷ path) = path

abbrev pub join_at : Root → Subobject → Subobject → Subobject
join_at (Shared v) outer inner = inner
join_at Whole outer inner = subobject outer.root (outer.path ++ tail_of inner.path)

-- the subobject of the whole that the inner one is, as a subobject of the outer one
abbrev pub join : Subobject → Subobject → Subobject
join outer inner = join_at inner.root outer inner

abbrev pub same_path : List ClassId → List ClassId → Bool
same_path [] [] = true
same_path [] (d ∷ q) = false
same_path (c ∷ p) [] = false
same_path (c ∷ p) (d ∷ q) = nat_eq c.0 d.0 && same_path p q

abbrev pub same_root : Root → Root → Bool
same_root Whole Whole = true
same_root Whole (Shared w) = false
same_root (Shared v) Whole = false
same_root (Shared v) (Shared w) = nat_eq v.0 w.0

-- the test that two subobjects are one
abbrev pub same_subobject : Subobject → Subobject → Bool
same_subobject s t = same_root s.root t.root && same_path s.path t.path
