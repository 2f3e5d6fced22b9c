-- Marks of the classes that need a cookie, up to a class.
use Rattle.std.specs.Prelude.{◌≡◌, ◌<◌, ◌↔◌, ℕ, Bool, true, false, not, ◌||◌, List, get_or}
use Rattle.std.specs.List.{list_any}
use Rattle.cxx_hierarchy.specs.declared.records.ClassId.{ClassId}
use Rattle.cxx_hierarchy.specs.declared.records.Base.{Base}
use Rattle.cxx_hierarchy.specs.declared.records.Member.{Member}
use Rattle.cxx_hierarchy.specs.declared.records.FieldType.{FieldType}
use Rattle.cxx_hierarchy.specs.declared.records.FieldType.TheVariants.{Value, Object}
use Rattle.cxx_hierarchy.specs.Classes.{Class, Classes}
use Rattle.cxx_hierarchy.specs.Declarations.{is_implicit}
use Rattle.abi_cookie.specs.Cookies.{NeedsCookie}

-- the mark of a class
abbrev pub mark_of_class : List Bool → ClassId → Bool
mark_of_class marks c = get_or marks c.0 false

-- the mark of the class of a member
abbrev pub mark_of_type : List Bool → FieldType ClassId → Bool
mark_of_type marks (Value type) = false
mark_of_type marks (Object c) = mark_of_class marks c

-- the class declares a destructor, or a base of it or the class of a member is marked
abbrev pub has_destructor : List Bool → Class → Bool
has_destructor marks class =
    not (is_implicit class.destructor)
    || list_any (λ (base : Base ClassId). mark_of_class marks base.class) class.bases
    || list_any (λ (member : Member ClassId). mark_of_type marks member.ty) class.members

-- of so many classes each is marked exactly where it needs a cookie
pub record AreMarked (h : Classes) (marks : List Bool) (count : ℕ) : Type 0 where
  pub each : (c : ClassId) → c.0 < count → (mark_of_class marks c ≡ true) ↔ NeedsCookie h c
