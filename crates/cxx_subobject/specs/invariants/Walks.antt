-- What the walk over the subobjects of a class keeps.
use Rattle.std.specs.Prelude.{◌≡◌, ℕ, ◌+◌, ◌<◌, true, false, Bool, if◌then◌else◌, Some, List, [], ◌∷◌, ◌++◌, Contains, get_or}
use Rattle.std.specs.List.{list_any}
use Rattle.cxx_hierarchy.specs.declared.records.ClassId.{ClassId}
use Rattle.cxx_hierarchy.specs.Classes.{Classes}
use Rattle.cxx_subobject.specs.declared.Root.TheVariants.{Shared}
use Rattle.cxx_subobject.specs.declared.Subobject.{Subobject}
use Rattle.cxx_subobject.specs.Subobjects.{subobject, shared_base, same_subobject, class_of, IsSubobject}
use Rattle.cxx_subobject.specs.Preorder.{tree}

-- whether it is one of these
abbrev pub is_listed : List Subobject → Subobject → Bool
is_listed found s = list_any (λ t. same_subobject t s) found

-- each of the second list behind the first, where it is not there yet
abbrev pub with_new : List Subobject → List Subobject → List Subobject
with_new found [] = found
with_new found (s ∷ list) = with_new (if is_listed found s then found else found ++ s ∷ []) list

-- neither s nor a subobject whose path goes on from that of s is there
pub record IsFresh (found : List Subobject) (s : Subobject) : Type 0 where
  pub none : (path : List ClassId) → Contains found (subobject s.root (s.path ++ path)) → ⊥

-- a class is marked where it is there as a shared base, and where anything is that lies in it without crossing to
-- another shared base
pub record AreSharedMarks (marks : List Bool) (found : List Subobject) : Type 0 where
  pub marked : (v : ClassId) → get_or marks v.0 false ≡ true → Contains found (shared_base v)
  pub unmarked : (v : ClassId) (path : List ClassId) → Contains found (subobject (Shared v) (v ∷ path)) → get_or marks v.0 false ≡ true

-- s is a subobject of some class, and of class c itself
pub record IsPlaced (h : Classes) (c : ClassId) (s : Subobject) : Type 0 where
  pub top : ClassId
  pub valid : IsSubobject h top s
  pub class : class_of s ≡ Some c

-- with a shared base below n all is there that it has
pub record IsClosed (h : Classes) (n : ℕ) (found : List Subobject) : Type 0 where
  pub has : (v : ClassId) (s : Subobject) → v.0 < n → Contains found (shared_base v) → Contains (tree h (v.0 + 1) v (shared_base v)) s → Contains found s
