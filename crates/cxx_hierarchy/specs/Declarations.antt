-- What a class, a base and a member declare.
use Rattle.std.specs.Prelude.{ℕ, Bool, true, false, not, ◌||◌, Option, Some, None}
use Rattle.std.specs.List.{list_any}
use Rattle.cxx_hierarchy.specs.declared.records.ClassId.{ClassId}
use Rattle.cxx_hierarchy.specs.declared.records.Base.{Base}
use Rattle.cxx_hierarchy.specs.declared.records.Function.{Function}
use Rattle.cxx_hierarchy.specs.declared.records.Destructor.{Destructor}
use Rattle.cxx_hierarchy.specs.declared.records.Destructor.TheVariants.{Implicit, Plain, Virtual}
use Rattle.cxx_hierarchy.specs.Classes.{Class, Classes, class_at}

-- the class declares no destructor (ISO C++03 12.4)
abbrev pub is_implicit : Destructor → Bool
is_implicit Implicit = true
is_implicit Plain = false
is_implicit Virtual = false

-- the class declares its destructor as virtual
abbrev pub is_virtual_destructor : Destructor → Bool
is_virtual_destructor Implicit = false
is_virtual_destructor Plain = false
is_virtual_destructor Virtual = true

-- the class declares a virtual function, or its destructor so (ISO C++03 10.3)
abbrev pub has_virtual_function : Class → Bool
has_virtual_function class = list_any (λ (function : Function ClassId). function.is_virtual) class.functions || is_virtual_destructor class.destructor

-- a class that is there declares a virtual function
abbrev pub has_virtual : Option Class → Bool
has_virtual None = false
has_virtual (Some class) = has_virtual_function class

-- the class of a subobject declares a virtual function
abbrev pub declares_virtual : Classes → Option ClassId → Bool
declares_virtual h None = false
declares_virtual h (Some c) = has_virtual (class_at h c)

-- a base that is not virtual
abbrev pub is_plain_base : Base ClassId → Bool
is_plain_base base = not base.is_virtual

-- how many elements a member has: one where it is no array (ISO C++03 8.3.4)
abbrev pub elements_of : Option ℕ → ℕ
elements_of None = 1
elements_of (Some count) = count
