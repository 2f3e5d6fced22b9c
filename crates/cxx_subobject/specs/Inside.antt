-- When one subobject of an object lies in another.
use Rattle.std.specs.Prelude.{◌≡◌, Bool, true, false, nat_eq, ◌&&◌, Some, List, [], ◌∷◌, Contains}
use Rattle.cxx_hierarchy.specs.declared.records.ClassId.{ClassId}
use Rattle.cxx_hierarchy.specs.declared.records.Base.{Base}
use Rattle.cxx_hierarchy.specs.Classes.{Classes, bases_of}
use Rattle.cxx_subobject.specs.declared.Subobject.{Subobject}
use Rattle.cxx_subobject.specs.Subobjects.{IsSubobject, class_of, join, base_subobject, same_root}

-- the inner subobject is one of the outer one's class, as a subobject of the outer one
pub record IsInside (h : Classes) (outer inner : Subobject) : Type 0 where
  pub class : ClassId
  pub of_class : class_of outer ≡ Some class
  pub part : Subobject
  pub valid : IsSubobject h class part
  pub joined : inner ≡ join outer part

-- the part is a subobject of the outer one's class
pub record IsPart (h : Classes) (outer part : Subobject) : Type 0 where
  pub class : ClassId
  pub of_class : class_of outer ≡ Some class
  pub valid : IsSubobject h class part

-- a path begins with another
abbrev pub path_begins : List ClassId → List ClassId → Bool
path_begins [] path = true
path_begins (c ∷ front) [] = false
path_begins (c ∷ front) (d ∷ path) = nat_eq c.0 d.0 && path_begins front path

-- the inner one lies in the non-virtual part of the outer one: it has its root, and a path that goes on from its path
abbrev pub is_longer : Subobject → Subobject → Bool
is_longer outer inner = same_root outer.root inner.root && path_begins outer.path inner.path

-- a walk of public edges from one subobject to another: each step goes to the subobject of a public direct base of
-- the class it stands at (ISO C++03 11.2)
pub data IsPublicWalk (h : Classes) : Subobject → Subobject → Type 0 where
  stays : (s : Subobject) → IsPublicWalk h s s
  steps : (s t : Subobject) (c : ClassId) (base : Base ClassId) → class_of s ≡ Some c → Contains (bases_of h c) base → base.is_public ≡ true → IsPublicWalk h (base_subobject s base) t → IsPublicWalk h s t
