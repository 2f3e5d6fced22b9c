-- The order in which a machine asks the rules: what rests on a load comes behind the tests of its pointer and its path. Within a
-- stage the tests are sorted by rule.
use Rattle.std.specs.Prelude.{ℕ, zero, suc, ◌+◌, Bool, true, false, if◌then◌else◌, Option, Some, None, List, [], ◌∷◌, ◌++◌, ◌||◌}
use Rattle.std.specs.List.{flat_map}
use Rattle.cxx_hierarchy.specs.declared.records.ClassId.{ClassId}
use Rattle.cxx_hierarchy.specs.Classes.{Classes}
use Rattle.cxx_subobject.specs.declared.Subobject.{Subobject}
use Rattle.cxx_subobject.specs.Locations.{ObjectPart}
use Rattle.cxx_search.specs.Searches.{has_virtual_base}
use Rattle.cxx_program.specs.declared.operand.Argument.{Argument}
use Rattle.cxx_program.specs.declared.operand.Conversion.{Conversion}
use Rattle.cxx_program.specs.declared.statement.PassedMember.{PassedMember}
use Rattle.cxx_program.specs.declared.statement.TypedPlace.{TypedPlace}
use Rattle.cxx_program.specs.declared.statement.TypedCall.{TypedCall}
use Rattle.cxx_program.specs.declared.statement.TypedRight.{TypedRight}
use Rattle.cxx_program.specs.declared.statement.TypedRight.TheVariants.{Operand, Arithmetic, SamePointer, Not, Read, Address, Call as CallRight, New, Cast, TypeEqual}
use Rattle.cxx_program.specs.declared.statement.Converted.{Converted}
use Rattle.cxx_program.specs.declared.statement.TypedKind.{TypedKind}
use Rattle.cxx_program.specs.declared.statement.TypedKind.TheVariants.{Declare, Assign, Write, Copy, Call, Delete, If, While, Return, Print, PrintType, PrintView, Dump}
use Rattle.path_rules.specs.declared.Undefined.{Undefined}
use Rattle.path_rules.specs.declared.Undefined.TheVariants.{NullUse, Dangling, NotReady, OutsideView, Unset as UnsetUse, PureCall, BadDowncast, NonVirtualDelete, NotHeapObject, NotComplete, MissingReturn, Overflow}
use Rattle.path_model.specs.Values.{Value, Objects, Sight, value_of_operand, converted_to}
use Rattle.path_model.specs.Places.{passed_part, leaf_value, address_value}
use Rattle.path_model.specs.Uses.{StatementUse, Reads, Follows, Guards, Passes, Views, Takes, Downs, Deletes, Dumps, Closes, Overflows, is_shared, uses_of_view, convert, arrow, argument_uses, of_part, cast_value, cast_uses, own_members, goes_to, is_shared_way, receiver_value, takes, right_uses, Wanted, kind_uses}
use Rattle.path_model.specs.Rules.{rules, breaks}

-- a rule that is tested of a use
pub record Asked : Type 0 where
  pub rule : Undefined
  pub of : StatementUse

-- the first test that fails, by its rule
abbrev pub first_broken : Classes → Objects → List Asked → Option Undefined
first_broken h s [] = None
first_broken h s (t ∷ rest) = if breaks h s t.rule t.of then Some t.rule else first_broken h s rest

-- the rules that a use can break
abbrev pub asks : Undefined → StatementUse → Bool
asks NullUse (Follows v) = true
asks Dangling (Reads v) = true
asks NotReady (Guards v) = true
asks NotReady (Passes p) = true
asks OutsideView (Views v) = true
asks UnsetUse (Reads v) = true
asks PureCall (Takes v f) = true
asks BadDowncast (Downs v target i) = true
asks NonVirtualDelete (Deletes v false) = true
asks NotHeapObject (Deletes v is_virtual) = true
asks NotComplete (Deletes v is_virtual) = true
asks NotComplete (Dumps v) = true
asks MissingReturn Closes = true
asks Overflow (Overflows op t a b) = true
asks rule other = false

-- one rule of each use that can break it, in text order
abbrev pub asked_of : Undefined → List StatementUse → List Asked
asked_of rule [] = []
asked_of rule (u ∷ rest) = if asks rule u then record { rule = rule; of = u } ∷ asked_of rule rest else asked_of rule rest

-- a stage: the tests of these uses, sorted by rule
unfoldable pub sorted : List StatementUse → List Asked
sorted uses = flat_map (λ rule. asked_of rule uses) rules

-- the class members on a path before its first step behind a virtual base; those behind it are ready
abbrev pub asked_members : ObjectPart → List PassedMember → List StatementUse
asked_members p [] = []
asked_members p (x ∷ rest) = if is_shared x.base then [] else Passes (passed_part p x) ∷ asked_members (passed_part p x) rest

-- the subobject in which the first name of a path is found
abbrev pub first_name_base : List PassedMember → Subobject → Subobject
first_name_base [] last = last
first_name_base (x ∷ rest) last = x.base

-- of the views on a path that of the pointer alone: a member that is ready is its own view
abbrev pub asked_place : Value → TypedPlace → List StatementUse
asked_place v place = arrow v ++ (uses_of_view (is_shared (first_name_base place.passed place.base)) v ++ of_part (λ p. asked_members p place.passed) v)

-- what is loaded: that it is set, where it leads, and its conversion
abbrev pub leaf_order : Value → Conversion → List Asked
leaf_order v c = record { rule = UnsetUse; of = Reads v } ∷ record { rule = Dangling; of = Reads v } ∷ sorted (convert v c)

-- the class members that the part's own class has, and in these likewise; those of proper bases are ready
abbrev pub asked_covers : Classes → ℕ → ClassId → ObjectPart → List StatementUse
asked_covers h zero c p = []
asked_covers h (suc n) c p = own_members h (asked_covers h n) (Some c) p

-- what is asked of a copy on one side
abbrev pub asked_covered : Classes → ClassId → Value → List StatementUse
asked_covered h c v = of_part (asked_covers h (c.0 + 1) c) v

-- of the views of a call one is enough: that of the pointer, else that of the subobject before `::`
abbrev pub asked_views : Bool → TypedCall → Value → List StatementUse
asked_views true call v = Views v ∷ []
asked_views false call v = uses_of_view (is_shared call.base) (goes_to call.qualifier v)

-- behind the pointer of a call: its arguments, and the function that the view gives
abbrev pub call_rest : Sight → TypedCall → List StatementUse
call_rest s call = flat_map (argument_uses s) call.arguments ++ takes call.is_dispatched (receiver_value s call) call.function

-- what is asked of a call
abbrev pub asked_call : Sight → TypedCall → List StatementUse
asked_call s call = arrow (value_of_operand s call.pointer) ++ (asked_views (call.is_dispatched || is_shared_way call.qualifier) call (value_of_operand s call.pointer) ++ call_rest s call)

-- the tests of a right side: what is loaded or calculated is asked behind what it comes from
abbrev pub right_order : Classes → Sight → TypedRight → Conversion → List Asked
right_order h s (Operand x) c = sorted (right_uses h (λ us. true) s (Operand x) c)
right_order h s (Arithmetic op t x y) c = sorted (right_uses h (λ us. true) s (Arithmetic op t x y) c)
right_order h s (SamePointer differ a b) c = sorted (right_uses h (λ us. true) s (SamePointer differ a b) c)
right_order h s (Not x) c = sorted (right_uses h (λ us. true) s (Not x) c)
right_order h s (Read place) c = sorted (asked_place (value_of_operand s place.pointer) place) ++ leaf_order (leaf_value s place (value_of_operand s place.pointer)) c
right_order h s (Address place d) c = sorted (asked_place (value_of_operand s place.pointer) place) ++ sorted (convert (address_value place d (value_of_operand s place.pointer)) c)
right_order h s (CallRight call) c = sorted (asked_call s call)
right_order h s (New d) c = []
right_order h s (Cast cast x) c = sorted (cast_uses cast (value_of_operand s x)) ++ sorted (convert (cast_value h s.objects cast (value_of_operand s x)) c)
right_order h s (TypeEqual x d) c = sorted (right_uses h (λ us. true) s (TypeEqual x d) c)

-- the tests of a declaration
abbrev pub declared_order : Classes → Sight → Option Converted → List Asked
declared_order h s None = []
declared_order h s (Some x) = right_order h s x.right x.conversion

-- a result, its conversion to the class of the declaration that was found, and that to the type of the variable
abbrev pub return_order : Sight → Wanted → Option Argument → List Asked
return_order s w None = []
return_order s w (Some a) =
    sorted (argument_uses s a) ++ (sorted (convert (converted_to (value_of_operand s a.operand) a.conversion) w.found) ++ sorted (convert (converted_to (converted_to (value_of_operand s a.operand) a.conversion) w.found) w.target))

-- the tests of a statement
abbrev pub order : Classes → Sight → Wanted → TypedKind → List Asked
order h s w (Declare n x) = declared_order h s x
order h s w (Assign variable x) = right_order h s x.right x.conversion
order h s w (Write place x) = sorted (asked_place (value_of_operand s place.pointer) place ++ argument_uses s x)
order h s w (Copy to from c) =
    sorted (arrow (value_of_operand s to) ++ (arrow (value_of_operand s from) ++ (uses_of_view (has_virtual_base h c) (value_of_operand s to) ++ (uses_of_view (has_virtual_base h c) (value_of_operand s from) ++ (asked_covered h c (value_of_operand s to) ++ asked_covered h c (value_of_operand s from))))))
order h s w (Call call) = sorted (asked_call s call)
order h s w (Delete x c) = sorted (kind_uses h (λ us. true) s w (Delete x c))
order h s w (If x other behind) = sorted (kind_uses h (λ us. true) s w (If x other behind))
order h s w (While x behind) = sorted (kind_uses h (λ us. true) s w (While x behind))
order h s w (Return x) = return_order s w x
order h s w (Print x) = sorted (kind_uses h (λ us. true) s w (Print x))
order h s w (PrintType x c) = sorted (kind_uses h (λ us. true) s w (PrintType x c))
order h s w (PrintView x c) = sorted (kind_uses h (λ us. true) s w (PrintView x c))
order h s w (Dump x c) = sorted (kind_uses h (λ us. true) s w (Dump x c))

-- the first test of the order that refuses
abbrev pub staged : Classes → Sight → Wanted → TypedKind → Option Undefined
staged h s w kind = first_broken h s.objects (order h s w kind)
