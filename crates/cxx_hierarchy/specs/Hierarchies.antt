-- What every hierarchy keeps.
use Rattle.std.specs.Prelude.{◌≡◌, ℕ, ◌<◌, ◌≤◌, if◌then◌else◌, Some, None, Contains, length, slice_get}
use Rattle.cxx_hierarchy.specs.declared.records.ClassId.{ClassId}
use Rattle.cxx_hierarchy.specs.declared.records.Base.{Base}
use Rattle.cxx_hierarchy.specs.declared.records.Member.{Member}
use Rattle.cxx_hierarchy.specs.declared.records.Function.{Function}
use Rattle.cxx_hierarchy.specs.declared.records.Param.{Param}
use Rattle.cxx_hierarchy.specs.declared.records.ValueType.TheVariants.{Number, Pointer}
use Rattle.cxx_hierarchy.specs.declared.records.Scalar.{Scalar}
use Rattle.cxx_hierarchy.specs.declared.records.FieldType.TheVariants.{Value, Object}
use Rattle.cxx_hierarchy.specs.declared.records.ReturnType.TheVariants.{Value as ValueReturn}
use Rattle.cxx_hierarchy.specs.Classes.{Class, Classes, class_at, bases_of, members_of, functions_of}
use Rattle.cxx_hierarchy.specs.Limits.{most_classes, most_bases, most_declared, most_parameters, most_elements}
use Rattle.cxx_hierarchy.specs.Declarations.{is_implicit}
use Rattle.cxx_hierarchy.specs.Scalars.{most_bits}
use Rattle.cxx_hierarchy.specs.Orders.{parts_of_kind, is_member, is_function, is_constructor, is_destructor, NamesEach}

-- the order of the parts of a class names each member and each function once, in the order of their numbers, and
-- has one constructor and one destructor where the class declares one, and else none
pub record HasOrder (class : Class) : Type 0 where
  pub members : NamesEach is_member class.order (length class.members)
  pub functions : NamesEach is_function class.order (length class.functions)
  pub constructors : length (parts_of_kind is_constructor class.order) ≡ (if class.has_constructor then 1 else 0)
  pub destructors : length (parts_of_kind is_destructor class.order) ≡ (if is_implicit class.destructor then 0 else 1)

-- the member is a bit-field of n bits (ISO C++03 9.6)
pub record IsBitField (m : Member ClassId) (n : ℕ) : Type 0 where
  pub type : Scalar
  pub is : m.ty ≡ Value (Number type)
  pub single : m.count ≡ None
  pub low : 1 ≤ n
  pub high : n ≤ most_bits type

-- what every hierarchy keeps (ISO C++03 9, 9.2, 10)
pub record IsHierarchy (h : Classes) : Type 0 where
  -- there are at most 1024 classes, and no two of one name
  pub few : length h ≤ most_classes
  pub names : (c d : ClassId) (x y : Class) → class_at h c ≡ Some x → class_at h d ≡ Some y → x.name ≡ y.name → c.0 ≡ d.0
  -- a base or a member object is of a class of a smaller number, and a pointer names a class
  pub bases : (c : ClassId) (b : Base ClassId) → Contains (bases_of h c) b → b.class.0 < c.0
  pub objects : (c d : ClassId) (m : Member ClassId) → Contains (members_of h c) m → m.ty ≡ Object d → d.0 < c.0
  pub pointers : (c d : ClassId) (m : Member ClassId) → Contains (members_of h c) m → m.ty ≡ Value (Pointer d) → d.0 < length h
  pub returns : (c d : ClassId) (f : Function ClassId) → Contains (functions_of h c) f → f.ret ≡ ValueReturn (Pointer d) → d.0 < length h
  pub params : (c d : ClassId) (f : Function ClassId) (p : Param ClassId) → Contains (functions_of h c) f → Contains f.params p → p.ty ≡ Pointer d → d.0 < length h
  -- a class has at most 64 direct bases, each class once, and at most 1024 members and 1024 functions
  pub few_bases : (c : ClassId) → length (bases_of h c) ≤ most_bases
  pub once : (c : ClassId) (i j : ℕ) (x y : Base ClassId) → slice_get (bases_of h c) i ≡ Some x → slice_get (bases_of h c) j ≡ Some y → x.class ≡ y.class → i ≡ j
  pub few_members : (c : ClassId) → length (members_of h c) ≤ most_declared
  pub few_functions : (c : ClassId) → length (functions_of h c) ≤ most_declared
  -- no two members or functions of a class have one name
  pub members : (c : ClassId) (i j : ℕ) (x y : Member ClassId) → slice_get (members_of h c) i ≡ Some x → slice_get (members_of h c) j ≡ Some y → x.name ≡ y.name → i ≡ j
  pub functions : (c : ClassId) (i j : ℕ) (x y : Function ClassId) → slice_get (functions_of h c) i ≡ Some x → slice_get (functions_of h c) j ≡ Some y → x.name ≡ y.name → i ≡ j
  pub member_and_function : (c : ClassId) (m : Member ClassId) (f : Function ClassId) → Contains (members_of h c) m → Contains (functions_of h c) f → m.name ≡ f.name → ⊥
  -- a bit-field is a number and no array, of at least one bit and at most as many as its type allows
  pub widths : (c : ClassId) (m : Member ClassId) (n : ℕ) → Contains (members_of h c) m → m.width ≡ Some n → IsBitField m n
  -- an array has 1 to 4096 elements, and a function at most 16 parameters
  pub counts : (c : ClassId) (m : Member ClassId) (n : ℕ) → Contains (members_of h c) m → m.count ≡ Some n → (1 ≤ n) × (n ≤ most_elements)
  pub few_params : (c : ClassId) (f : Function ClassId) → Contains (functions_of h c) f → length f.params ≤ most_parameters
  -- the parts of a class stand in the order of declaration
  pub orders : (c : ClassId) (class : Class) → class_at h c ≡ Some class → HasOrder class
