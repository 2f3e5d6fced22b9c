-- Dynamic and empty classes (Itanium C++ ABI 1.1).
use Rattle.std.specs.Prelude.{◌≡◌, ℕ, zero, suc, ◌+◌, ◌<◌, ◌==◌, Bool, true, false, not, ◌&&◌, ◌↔◌, IsTrue, Option, Some, None, List, length, get_or}
use Rattle.std.specs.List.{list_all}
use Rattle.cxx_hierarchy.specs.declared.records.ClassId.{ClassId}
use Rattle.cxx_hierarchy.specs.declared.records.Base.{Base}
use Rattle.cxx_hierarchy.specs.Classes.{Class, Classes, class_at}
use Rattle.cxx_hierarchy.specs.Declarations.{has_virtual_function}
use Rattle.cxx_hierarchy.specs.VirtualBases.{IsDirectBase}

-- a class is dynamic where it or a base, however far, declares a virtual function or has a virtual base
pub data IsDynamic (h : Classes) : ClassId → Type 0 where
  declares : (c : ClassId) (class : Class) → class_at h c ≡ Some class → has_virtual_function class ≡ true → IsDynamic h c
  shares : (c b : ClassId) → IsDirectBase h c true b → IsDynamic h c
  inherits : (c b : ClassId) (way : Bool) → IsDirectBase h c way b → IsDynamic h b → IsDynamic h c

-- the flag of a class, by its number, and false behind the end
abbrev pub flag_of : List Bool → ClassId → Bool
flag_of flags c = get_or flags c.0 false

-- flags that tell of each of the first n classes whether it is dynamic
pub record TellDynamicTo (n : ℕ) (h : Classes) (flags : List Bool) : Type 0 where
  pub size : length flags ≡ n
  pub each : (c : ClassId) → c.0 < n → IsTrue (flag_of flags c) ↔ IsDynamic h c

abbrev pub TellDynamic : Classes → List Bool → Type 0
TellDynamic h flags = TellDynamicTo (length h) h flags

-- what a class is, by what the classes before it are
abbrev pub Kind : Type 0
Kind = (ClassId → Bool) → Class → Bool

abbrev pub in_class : (Class → Bool) → Option Class → Bool
in_class test None = false
in_class test (Some class) = test class

-- whether the class is of the kind. Bases and member objects are of smaller numbers than their class, so that as
-- many steps down as its number, and one more, are enough
abbrev pub is_kind_in : Kind → Classes → ℕ → ClassId → Bool
is_kind_in kind h zero c = false
is_kind_in kind h (suc steps) c = in_class (kind (is_kind_in kind h steps)) (class_at h c)

abbrev pub is_kind : Kind → Classes → ClassId → Bool
is_kind kind h c = is_kind_in kind h (c.0 + 1) c

-- a class without data: no member, no virtual function, no virtual base, and each base is such a class (Itanium C++
-- ABI 1.1)
abbrev pub empty_kind : Kind
empty_kind is_empty class =
    (length class.members == 0)
    && (not (has_virtual_function class)
    && list_all (λ (base : Base ClassId). not base.is_virtual && is_empty base.class) class.bases)

abbrev pub is_empty : Classes → ClassId → Bool
is_empty = is_kind empty_kind
