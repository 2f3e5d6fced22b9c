-- The subobjects of a class in preorder: depth first, a class before its bases, bases in declaration order.
use Rattle.std.specs.Prelude.{◌≡◌, ℕ, zero, suc, ◌+◌, not, Some, List, [], ◌∷◌, Contains, filter, slice_get}
use Rattle.std.specs.List.{flat_map}
use Rattle.cxx_hierarchy.specs.declared.records.ClassId.{ClassId}
use Rattle.cxx_hierarchy.specs.Classes.{Classes, bases_of}
use Rattle.cxx_subobject.specs.declared.Subobject.{Subobject}
use Rattle.cxx_subobject.specs.Subobjects.{IsSubobject, whole_of, same_subobject, base_subobject}

-- s, of class c, and behind it what its bases give, in their order; a shared base stands wherever it is met. A
-- walk down takes fewer steps than the class has as its number, so that one more is enough
abbrev pub tree : Classes → ℕ → ClassId → Subobject → List Subobject
tree h zero c s = []
tree h (suc steps) c s = s ∷ flat_map (λ base. tree h steps base.class (base_subobject s base)) (bases_of h c)

-- each element where it stands first
abbrev pub firsts : List Subobject → List Subobject
firsts [] = []
firsts (s ∷ list) = s ∷ filter (λ t. not (same_subobject s t)) (firsts list)

-- the subobjects of c in preorder, each once
abbrev pub preorder : Classes → ClassId → List Subobject
preorder h c = firsts (tree h (c.0 + 1) c (whole_of c))

-- the list has exactly the subobjects of c, each once
pub record ListsSubobjects (h : Classes) (c : ClassId) (list : List Subobject) : Type 0 where
  pub listed : (s : Subobject) → IsSubobject h c s → Contains list s
  pub valid : (s : Subobject) → Contains list s → IsSubobject h c s
  pub once : (i j : ℕ) (s : Subobject) → slice_get list i ≡ Some s → slice_get list j ≡ Some s → i ≡ j
