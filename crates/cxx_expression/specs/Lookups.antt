-- What the names of classes and members mean.
use Rattle.std.specs.Prelude.{ℕ, Bool, Option, Some, None, slice_get}
use Rattle.std.specs.List.{list_any}
use Rattle.cxx_hierarchy.specs.declared.records.ClassId.{ClassId}
use Rattle.cxx_hierarchy.specs.declared.records.Member.{Member as MemberRecord}
use Rattle.cxx_hierarchy.specs.declared.records.Function.{Function as FunctionRecord}
use Rattle.cxx_hierarchy.specs.Classes.{Classes, class_names, members_of, functions_of}
use Rattle.cxx_hierarchy.specs.Declarations.{declares_virtual}
use Rattle.cxx_hierarchy.specs.NameTables.{Text, place_in}
use Rattle.cxx_subobject.specs.declared.Subobject.{Subobject}
use Rattle.cxx_subobject.specs.Subobjects.{class_of}
use Rattle.cxx_subobject.specs.Preorder.{preorder}
use Rattle.cxx_lookup.specs.declared.Found.{Found}
use Rattle.cxx_lookup.specs.declared.Found.TheVariants.{Member as AMember, Function as AFunction}
use Rattle.cxx_lookup.specs.Findings.{Finding, finds_none, finds_one, finds_more, found_by, base_by}
use Rattle.cxx_expression.specs.declared.look_up.Looked.{Looked}
use Rattle.cxx_expression.specs.declared.look_up.Looked.TheVariants.{Missing, Ambiguous, Member, Function}
use Rattle.cxx_expression.specs.declared.look_up.Based.{Based}
use Rattle.cxx_expression.specs.declared.look_up.Based.TheVariants.{NotBase, TwoBases, Base}

-- the class of a number
abbrev pub class_numbered : Option ℕ → Option ClassId
class_numbered None = None
class_numbered (Some n) = Some (record { 0 = n })

-- the class of a name (ISO C++03 3.4.1)
unfoldable pub find_class : Classes → Text → Option ClassId
find_class h name = class_numbered (place_in (class_names h) name)

-- what is found, as an answer
abbrev pub as_looked : Finding Found → Looked
as_looked finds_none = Missing
as_looked (finds_one (AMember s number)) = Member s number
as_looked (finds_one (AFunction s number)) = Function s number
as_looked finds_more = Ambiguous

-- what a name means in a class (ISO C++03 10.2)
unfoldable pub looked_up : Classes → ClassId → Text → Looked
looked_up h c name = as_looked (found_by h c name)

-- what is found, as an answer
abbrev pub as_based : Finding Subobject → Based
as_based finds_none = NotBase
as_based (finds_one s) = Base s
as_based finds_more = TwoBases

-- what a class means as a base of another (ISO C++03 4.10, 10.2)
unfoldable pub base_up : Classes → ClassId → ClassId → Based
base_up h c d = as_based (base_by h c d)

-- the member of a number in a class
unfoldable pub member_record : Classes → ClassId → ℕ → Option (MemberRecord ClassId)
member_record h c number = slice_get (members_of h c) number

-- the function of a number in a class
unfoldable pub function_record : Classes → ClassId → ℕ → Option (FunctionRecord ClassId)
function_record h c number = slice_get (functions_of h c) number

-- the class declares or inherits a virtual function; a virtual destructor is one (ISO C++03 10.3 p1)
unfoldable pub is_polymorphic : Classes → ClassId → Bool
is_polymorphic h c = list_any (λ s. declares_virtual h (class_of s)) (preorder h c)
