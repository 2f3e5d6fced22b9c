-- How many parts an object has, and the limits on its subobjects and parts.
use Rattle.std.specs.Prelude.{◌≡◌, ℕ, zero, suc, ◌+◌, ◌*◌, ◌≤◌, ◌<◌, ◌↔◌, false, IsTrue, Bool, Option, Some, None, List, length, get_or}
use Rattle.std.specs.List.{sum_by}
use Rattle.cxx_hierarchy.specs.declared.records.ClassId.{ClassId}
use Rattle.cxx_hierarchy.specs.declared.records.FieldType.{FieldType}
use Rattle.cxx_hierarchy.specs.declared.records.FieldType.TheVariants.{Value, Object}
use Rattle.cxx_hierarchy.specs.Classes.{Classes, members_of}
pub use Rattle.cxx_hierarchy.specs.Declarations.{elements_of}
use Rattle.cxx_subobject.specs.Subobjects.{class_of}
use Rattle.cxx_subobject.specs.Preorder.{preorder}

-- the parts of one element of a member: a leaf is one, an object has those of its class
abbrev pub parts_in : (ClassId → ℕ) → FieldType ClassId → ℕ
parts_in parts (Value type) = 1
parts_in parts (Object d) = parts d

-- the parts of all elements of the members of a class
abbrev pub member_parts : Classes → (ClassId → ℕ) → Option ClassId → ℕ
member_parts h parts None = 0
member_parts h parts (Some c) = sum_by (λ m. elements_of m.count * parts_in parts m.ty) (members_of h c)

-- each subobject of c, and what its members have. A member object is of a class before, so that a walk down takes
-- fewer steps than c has as its number, and one more is enough
abbrev pub parts_within : Classes → ℕ → ClassId → ℕ
parts_within h zero c = 0
parts_within h (suc steps) c = sum_by (λ s. 1 + member_parts h (parts_within h steps) (class_of s)) (preorder h c)

-- the class subobjects of an object of class c, those of its members and elements at every depth too, and its
-- leaves: the members and elements that are numbers or pointers
abbrev pub parts_of : Classes → ClassId → ℕ
parts_of h c = parts_within h (c.0 + 1) c

-- the limits on the subobjects and on the parts of a class
abbrev pub most_subobjects : ℕ
most_subobjects = 1024

abbrev pub most_parts : ℕ
most_parts = 65536

-- a class has no more subobjects and parts than that
pub record IsWithinLimits (h : Classes) (c : ClassId) : Type 0 where
  pub subobjects : length (preorder h c) ≤ most_subobjects
  pub parts : parts_of h c ≤ most_parts

-- a table that tells of each class of a hierarchy whether it is within the limits
pub record TellsLimits (h : Classes) (table : List Bool) : Type 0 where
  pub size : length table ≡ length h
  pub each : (c : ClassId) → c.0 < length h → IsTrue (get_or table c.0 false) ↔ IsWithinLimits h c
