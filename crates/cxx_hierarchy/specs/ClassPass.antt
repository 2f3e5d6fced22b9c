-- The class pass: which class records are refused, and in which order.
use Rattle.std.specs.Prelude.{◌≡◌, ℕ, ◌⊎◌, Result, MatchResult, Bool, true, false, not, ◌||◌, if◌then◌else◌, nat_eq, nat_le, nat_lt, Option, Some, None, unwrap_or, List, [], ◌∷◌, ◌++◌, map, length, slice_get}
use Rattle.std.specs.List.{list_any, filter_map}
use Rattle.std.specs.Option.{option_map}
use Rattle.std.specs.Str.{bytes_eq}
use Rattle.cxx_hierarchy.specs.declared.records.Base.{Base}
use Rattle.cxx_hierarchy.specs.declared.records.Member.{Member}
use Rattle.cxx_hierarchy.specs.declared.records.Param.{Param}
use Rattle.cxx_hierarchy.specs.declared.records.Function.{Function}
use Rattle.cxx_hierarchy.specs.declared.records.ClassRec.{ClassRec}
use Rattle.cxx_hierarchy.specs.declared.records.PartAt.{PartAt}
use Rattle.cxx_hierarchy.specs.declared.records.PartKind.{PartKind}
use Rattle.cxx_hierarchy.specs.declared.records.PartKind.TheVariants.{Member as MemberPart, Function as FunctionPart, Constructor, Destructor}
use Rattle.cxx_hierarchy.specs.declared.records.ValueType.{ValueType}
use Rattle.cxx_hierarchy.specs.declared.records.ValueType.TheVariants.{Number, Pointer}
use Rattle.cxx_hierarchy.specs.declared.records.FieldType.{FieldType}
use Rattle.cxx_hierarchy.specs.declared.records.FieldType.TheVariants.{Value as ValueField, Object}
use Rattle.cxx_hierarchy.specs.declared.records.ReturnType.{ReturnType}
use Rattle.cxx_hierarchy.specs.declared.records.ReturnType.TheVariants.{Void, Value as ValueReturn}
use Rattle.cxx_hierarchy.specs.declared.stop.Stop.{Stop}
use Rattle.cxx_hierarchy.specs.declared.stop.Stop.TheVariants.{Refused, Limit, NoMemory}
use Rattle.cxx_hierarchy.specs.declared.stop.Rule.TheVariants.{UnknownClass, DuplicateClass, IncompleteClass, DuplicateBase, DuplicateMember, BadWidth}
use Rattle.cxx_hierarchy.specs.declared.stop.LimitNo.TheVariants.{L2, L3, L4}
use Rattle.cxx_hierarchy.specs.NameTables.{Text, is_in}
use Rattle.cxx_hierarchy.specs.Limits.{most_classes, most_bases, most_declared, most_parameters, most_elements}
use Rattle.cxx_hierarchy.specs.Scalars.{most_bits}
use Rattle.cxx_hierarchy.specs.Declarations.{is_implicit}
use Rattle.cxx_hierarchy.specs.Orders.{is_member, is_function, is_constructor, is_destructor, has_kind, NamesEach}

-- a class definition as the source spells it
abbrev pub Record : Type 0
Record = ClassRec Text

-- one fault where the condition holds, and none elsewhere
abbrev pub fault_if : Bool → Stop → List Stop
fault_if condition stop = if condition then stop ∷ [] else []

-- the faults of the items of a list in turn, each by the items before it
abbrev pub in_turn : {X : Type 0} → (List X → X → List Stop) → List X → List X → List Stop
in_turn faults before [] = []
in_turn faults before (x ∷ xs) = faults before x ++ in_turn faults (before ++ x ∷ []) xs

abbrev pub names_of : List Record → List Text
names_of records = map (λ definition. definition.name) records

-- the class at `at` is one of the source
abbrev pub known_faults : List Text → ℕ → Text → List Stop
known_faults all at class = fault_if (not (is_in all class)) (Refused UnknownClass at)

-- and it is defined before
abbrev pub complete_faults : (all earlier : List Text) → ℕ → Text → List Stop
complete_faults all earlier at class = known_faults all at class ++ fault_if (not (is_in earlier class)) (Refused IncompleteClass at)

-- a base: at most 64 of them, of a class defined before, and of each class once (ISO C++03 10, 10.1)
abbrev pub base_faults : (all earlier : List Text) → List (Base Text) → Base Text → List Stop
base_faults all earlier before base =
    fault_if (nat_le most_bases (length before)) (Limit L3)
    ++ complete_faults all earlier base.at base.class
    ++ fault_if (list_any (λ b. bytes_eq base.class b.class) before) (Refused DuplicateBase base.at)

abbrev pub value_faults : List Text → ℕ → ValueType Text → List Stop
value_faults all at (Number n) = []
value_faults all at (Pointer class) = known_faults all at class

abbrev pub field_faults : (all earlier : List Text) → ℕ → FieldType Text → List Stop
field_faults all earlier at (ValueField ty) = value_faults all at ty
field_faults all earlier at (Object class) = complete_faults all earlier at class

abbrev pub return_faults : List Text → ℕ → ReturnType Text → List Stop
return_faults all at Void = []
return_faults all at (ValueReturn ty) = value_faults all at ty

-- a parameter: at most 16 of them, of a known type, with names apart (ISO C++03 8.3.5)
abbrev pub param_faults : List Text → List (Param Text) → Param Text → List Stop
param_faults all before param =
    fault_if (nat_le most_parameters (length before)) (Limit L3)
    ++ value_faults all param.ty_at param.ty
    ++ fault_if (list_any (λ p. bytes_eq param.name p.name) before) (Refused DuplicateMember param.at)

-- an array has 1 to 4096 elements
abbrev pub is_bad_count : Option ℕ → Bool
is_bad_count None = false
is_bad_count (Some count) = nat_eq count 0 || nat_lt most_elements count

-- how many bits a bit-field has at most, by its length and its type: only a number may be one, and no array (ISO C++03 9.6)
abbrev pub most_width : Option ℕ → FieldType Text → ℕ
most_width None (ValueField (Number type)) = most_bits type
most_width count ty = 0

-- the width is 0, or more than the most
abbrev pub is_bad_width : (most : ℕ) → Option ℕ → Bool
is_bad_width most None = false
is_bad_width most (Some width) = nat_eq width 0 || nat_lt most width

-- a field: its type, its length where it is an array, its width where it is a bit-field
abbrev pub member_faults : (all earlier : List Text) → ℕ → Option (Member Text) → List Stop
member_faults all earlier at None = []
member_faults all earlier at (Some member) =
    field_faults all earlier at member.ty
    ++ fault_if (is_bad_count member.count) (Limit L4)
    ++ fault_if (is_bad_width (most_width member.count member.ty) member.width) (Refused BadWidth member.width_at)

abbrev pub function_faults : List Text → ℕ → Option (Function Text) → List Stop
function_faults all at None = []
function_faults all at (Some function) = return_faults all at function.ret ++ in_turn (param_faults all) [] function.params

-- the name of a field or function; a constructor or destructor has none of its own
abbrev pub name_at : Record → PartKind → ℕ → Option Text
name_at definition MemberPart number = option_map (λ (m : Member Text). m.name) (slice_get definition.members number)
name_at definition FunctionPart number = option_map (λ (f : Function Text). f.name) (slice_get definition.functions number)
name_at definition Constructor number = None
name_at definition Destructor number = None

abbrev pub part_name : Record → PartAt → Option Text
part_name definition part = name_at definition part.kind part.number

-- the class's name, and those of its fields and functions among these parts
abbrev pub names_taken : Record → List PartAt → List Text
names_taken definition parts = definition.name ∷ filter_map (part_name definition) parts

abbrev pub is_named : List Text → Option Text → Bool
is_named names None = false
is_named names (Some name) = is_in names name

abbrev pub is_second : List PartAt → PartKind → Bool
is_second before MemberPart = false
is_second before FunctionPart = false
is_second before Constructor = has_kind is_constructor before
is_second before Destructor = has_kind is_destructor before

-- whether the part is there already: its name, or another constructor or destructor (ISO C++03 9.2, 12.4)
abbrev pub is_repeat : Record → List PartAt → PartAt → Bool
is_repeat definition before part = is_named (names_taken definition before) (part_name definition part) || is_second before part.kind

-- what the part says: the type of a field, the types and parameters of a function
abbrev pub content_faults : (all earlier : List Text) → Record → ℕ → PartKind → ℕ → List Stop
content_faults all earlier definition at MemberPart number = member_faults all earlier at (slice_get definition.members number)
content_faults all earlier definition at FunctionPart number = function_faults all at (slice_get definition.functions number)
content_faults all earlier definition at Constructor number = []
content_faults all earlier definition at Destructor number = []

-- a part: at most 1024 of them, each new
abbrev pub part_faults : (all earlier : List Text) → Record → List PartAt → PartAt → List Stop
part_faults all earlier definition before part =
    fault_if (nat_le most_declared (length before)) (Limit L3)
    ++ fault_if (is_repeat definition before part) (Refused DuplicateMember part.at)
    ++ content_faults all earlier definition (unwrap_or part.ty_at 0) part.kind part.number

-- a class: a second definition, the 1025th class, its bases, its parts
abbrev pub class_faults : List Text → List Record → Record → List Stop
class_faults all before definition =
    fault_if (is_in (names_of before) definition.name) (Refused DuplicateClass definition.at)
    ++ fault_if (nat_le most_classes (length before)) (Limit L2)
    ++ in_turn (base_faults all (names_of before)) [] definition.bases
    ++ in_turn (part_faults all (names_of before) definition) [] definition.order

-- all faults of the records, in the order of the pass
abbrev pub faults_of : List Record → List Stop
faults_of records = in_turn (class_faults (names_of records)) [] records

abbrev pub first_of : List Stop → Option Stop
first_of [] = None
first_of (stop ∷ rest) = Some stop

-- the stop is the first of the faults, or want of memory
abbrev pub StopsAt : List Stop → Stop → Type 0
StopsAt faults stop = (stop ≡ NoMemory) ⊎ (first_of faults ≡ Some stop)

-- the order of the parts names each member and each function once, in the order of their numbers, and it has a
-- constructor or a destructor exactly where the record says so
pub record IsInOrder (definition : Record) : Type 0 where
  pub members : NamesEach is_member definition.order (length definition.members)
  pub functions : NamesEach is_function definition.order (length definition.functions)
  pub constructors : has_kind is_constructor definition.order ≡ definition.has_constructor
  pub destructors : has_kind is_destructor definition.order ≡ not (is_implicit definition.destructor)

-- no fault, or a stop at the first of them
abbrev pub StopsAtFirst : {A : Type 0} → List Stop → Result A Stop → Type 0
StopsAtFirst faults result = MatchResult result (λ _. faults ≡ []) (StopsAt faults)
