-- What a statement does, where no rule refuses it.
use Rattle.std.specs.Prelude.{ℕ, ℤ, pos, ◌+ℤ◌, ◌-ℤ◌, ◌*ℤ◌, int_lt, ◌+◌, Bool, true, false, nat_eq, ◌&&◌, not, if◌then◌else◌, Option, Some, None, List, [], ◌∷◌, ◌++◌, find, map, length, slice_get, zip, option_map, option_and_then}
use Rattle.std.specs.Option.{option_map_or}
use Rattle.cxx_hierarchy.specs.declared.records.ClassId.{ClassId}
use Rattle.cxx_hierarchy.specs.declared.records.Scalar.{Scalar}
use Rattle.cxx_hierarchy.specs.declared.records.ValueType.TheVariants.{Pointer as PointerType}
use Rattle.cxx_hierarchy.specs.declared.records.ReturnType.{ReturnType}
use Rattle.cxx_hierarchy.specs.declared.records.ReturnType.TheVariants.{Value as ValueReturn}
use Rattle.cxx_hierarchy.specs.Scalars.{wrapped}
use Rattle.cxx_hierarchy.specs.Classes.{Classes}
use Rattle.cxx_subobject.specs.declared.Subobject.{Subobject}
use Rattle.cxx_subobject.specs.Subobjects.{class_of, is_of_class}
use Rattle.cxx_subobject.specs.Preorder.{preorder}
use Rattle.cxx_subobject.specs.Locations.{ObjectPart}
use Rattle.cxx_overrider.specs.declared.FunctionId.{FunctionId}
use Rattle.cxx_overrider.specs.declared.Overrider.{Overrider}
use Rattle.cxx_overrider.specs.Functions.{return_of}
use Rattle.cxx_program.specs.declared.operand.Variable.{Variable}
use Rattle.cxx_program.specs.declared.operand.Variable.TheVariants.{Local}
use Rattle.cxx_program.specs.declared.operand.Conversion.{Conversion}
use Rattle.cxx_program.specs.declared.operand.Conversion.TheVariants.{Same as ToSame, Base as ToBase}
use Rattle.cxx_program.specs.declared.statement.TypedPlace.{TypedPlace}
use Rattle.cxx_program.specs.declared.statement.TypedCall.{TypedCall}
use Rattle.cxx_program.specs.declared.statement.Arithmetic.{Arithmetic as Operator}
use Rattle.cxx_program.specs.declared.statement.Arithmetic.TheVariants.{Add, Subtract, Multiply, Less, LessEqual, Equal, NotEqual}
use Rattle.cxx_program.specs.declared.statement.TypedRight.{TypedRight}
use Rattle.cxx_program.specs.declared.statement.TypedRight.TheVariants.{Operand, Arithmetic, SamePointer, Not, Read, Address, Call as CallRight, New, Cast, TypeEqual}
use Rattle.cxx_program.specs.declared.statement.Converted.{Converted}
use Rattle.cxx_program.specs.declared.statement.TypedKind.{TypedKind}
use Rattle.cxx_program.specs.declared.statement.TypedKind.TheVariants.{Declare, Assign, Write, Copy, Call, Delete, If, While, Return, Print, PrintType, PrintView, Dump}
use Rattle.cxx_program.specs.declared.statement.TypedStatement.{TypedStatement}
use Rattle.cxx_program.specs.declared.program.Owner.{Owner}
use Rattle.cxx_program.specs.declared.program.Owner.TheVariants.{Main, Function}
use Rattle.cxx_program.specs.declared.program.TypedBody.{TypedBody}
use Rattle.cxx_program.specs.declared.program.TypedProgram.{TypedProgram}
use Rattle.path_rules.specs.declared.Undefined.{Undefined}
use Rattle.path_plan.specs.Places.{part, same_part}
use Rattle.path_plan.specs.Whole.{whole_part, construction, destruction}
use Rattle.path_plan.specs.Runs.{renewed}
use Rattle.path_model.specs.declared.outs.Out.{Out}
use Rattle.path_model.specs.declared.outs.Out.TheVariants.{Number as NumberOut, Pointer as PointerOut, TypeName as TypeNameOut, Dump as DumpOut, Call as CallOut}
use Rattle.path_model.specs.Values.{Value, Unset, Number, Null, Pointer, Leaf, Objects, Sight, value_of_operand, converted_to, argument_value}
use Rattle.cxx_search.specs.Searches.{final_in}
use Rattle.path_model.specs.Places.{leaf_at, leaf_value, address_value, leaves_of}
use Rattle.path_model.specs.Uses.{view_of, cast_value, receiver_value}
use Rattle.path_model.specs.States.{Target, RunningBody, Frame, InBody, InPlan, ProgramState, owned_body, plan_bodies, with_objects, with_frames, at_statement, assigned, entered_body, sight}
use Rattle.path_model.specs.Outs.{location_of, dump_leaf}

-- where a step leads: to a state, with what it tells; to a rule that refuses it, with the line; or to the end of the run. What
-- no program within the rules meets is wrong
pub data Next : Type 0 where
  Goes : ProgramState → List Out → Next
  Refuses : Undefined → (line : ℕ) → Next
  Ends : Next
  Wrong : Next

-- values

-- a truth value as a number: 1 or 0 (ISO C++03 4.5 p4)
abbrev pub truth_as_number : Bool → Value
truth_as_number b = Number (if b then pos 1 else pos 0)

-- two numbers of one type; a result outside a signed type is refused, one outside an unsigned type wraps (ISO C++03 5.7, 3.9.1)
abbrev pub calculated_value : Operator → Scalar → ℤ → ℤ → Value
calculated_value Add t a b = Number (wrapped t (a +ℤ b))
calculated_value Subtract t a b = Number (wrapped t (a -ℤ b))
calculated_value Multiply t a b = Number (wrapped t (a *ℤ b))
calculated_value Less t a b = truth_as_number (int_lt a b)
calculated_value LessEqual t a b = truth_as_number (not (int_lt b a))
calculated_value Equal t a b = truth_as_number (not (int_lt a b) && not (int_lt b a))
calculated_value NotEqual t a b = truth_as_number (not (not (int_lt a b) && not (int_lt b a)))

-- of two numbers, read in the common type; of anything else nothing
abbrev pub arithmetic_value : Operator → Scalar → Value → Value → Value
arithmetic_value op t (Number a) (Number b) = calculated_value op t (wrapped t a) (wrapped t b)
arithmetic_value op t a b = Unset

-- pointers are equal where both are null or name one subobject (ISO C++03 5.10)
abbrev pub is_same_pointer : Value → Value → Bool
is_same_pointer Null Null = true
is_same_pointer (Pointer p) (Pointer q) = same_part p q
is_same_pointer a b = false

-- the number is 0
abbrev pub is_number_zero : ℤ → Bool
is_number_zero z = not (int_lt z (pos 0)) && not (int_lt (pos 0) z)

-- `!x` (ISO C++03 5.3.1 p8)
abbrev pub negated : Value → Value
negated (Number z) = truth_as_number (is_number_zero z)
negated other = Unset

-- the subobject that the view of a part's complete object is, as a part
abbrev pub view_part : Classes → Objects → ObjectPart → Option ObjectPart
view_part h s p = option_map (part p.object p.owner) (view_of h s p)

-- the class that `typeid(*p)` names: that of the view (ISO C++03 5.2.8 p2, 12.7 p4)
abbrev pub typeid_class : Classes → Objects → ObjectPart → Option ClassId
typeid_class h s p = option_and_then class_of (view_of h s p)

-- whether the two classes are one
abbrev pub is_type : ClassId → Option ClassId → Value
is_type d class = option_map_or (λ c. truth_as_number (nat_eq d.0 c.0)) class Unset

-- `typeid(*p) == typeid(D)` (ISO C++03 5.2.8)
abbrev pub type_equal : Classes → Objects → ClassId → Value → Value
type_equal h s d (Pointer p) = is_type d (typeid_class h s p)
type_equal h s d other = Unset

-- the value of a right side that is no call and no `new`
abbrev pub right_side_value : Classes → Sight → TypedRight → Value
right_side_value h s (Operand x) = value_of_operand s x
right_side_value h s (Arithmetic op t x y) = arithmetic_value op t (value_of_operand s x) (value_of_operand s y)
right_side_value h s (SamePointer differ a b) = truth_as_number (if differ then not (is_same_pointer (argument_value s a) (argument_value s b)) else is_same_pointer (argument_value s a) (argument_value s b))
right_side_value h s (Not x) = negated (value_of_operand s x)
right_side_value h s (Read place) = leaf_value s place (value_of_operand s place.pointer)
right_side_value h s (Address place d) = address_value place d (value_of_operand s place.pointer)
right_side_value h s (Cast cast x) = cast_value h s.objects cast (value_of_operand s x)
right_side_value h s (TypeEqual x d) = type_equal h s.objects d (value_of_operand s x)
right_side_value h s other = Unset

-- leaves

-- the test that two leaves are one
abbrev pub same_leaf : Leaf → Leaf → Bool
same_leaf a b = same_part a.part b.part && (nat_eq a.member b.member && nat_eq a.index b.index)

-- one leaf with another value
abbrev pub with_leaf : (Leaf → Value) → Leaf → Value → Leaf → Value
with_leaf values l v m = if same_leaf l m then v else values m

-- the objects with another value in one leaf
abbrev pub leaf_set : Objects → Leaf → Value → Objects
leaf_set s l v = record { classes = s.classes; is_closed = s.is_closed; phases = s.phases; leaf = with_leaf s.leaf l v }

-- the old value of the leaf that is copied to l, or the one of l where none is
abbrev pub value_behind : (Leaf → Value) → Leaf → Option (Leaf × Leaf) → Value
value_behind values l found = option_map_or (λ pair. values pair.1) found (values l)

-- each leaf of the part takes the old value of the same leaf of the other one, both of class c (ISO C++03 12.8 p13)
abbrev pub copied : Classes → ClassId → ObjectPart → ObjectPart → Objects → Objects
copied h c to from s = record {
  classes = s.classes;
  is_closed = s.is_closed;
  phases = s.phases;
  leaf = λ l. value_behind s.leaf l (find (λ pair. same_leaf pair.0 l) (zip (leaves_of h c to) (leaves_of h c from)));
}

-- objects

-- one more heap object, of which nothing was begun
abbrev pub with_new_object : Objects → ClassId → Objects
with_new_object s c = record {
  classes = s.classes ++ c ∷ [];
  is_closed = λ k. if nat_eq k (length s.classes) then false else s.is_closed k;
  phases = renewed (length s.classes) s.phases;
  leaf = λ l. if nat_eq l.part.object (length s.classes) then Unset else s.leaf l;
}

-- the plan frame of a `new`
abbrev pub building : Classes → TypedProgram → ℕ → ClassId → Option Target → Frame
building h program k c target = InPlan (record { object = k; is_building = true; events = construction h (plan_bodies program) k c; target = target })

-- the plan frame of a `delete`
abbrev pub ending : Classes → TypedProgram → ℕ → ClassId → Frame
ending h program k c = InPlan (record { object = k; is_building = false; events = destruction h (plan_bodies program) k c; target = None })

-- calls

-- to a base, or to the same class where there is none
abbrev pub base_conversion : Option Subobject → Conversion
base_conversion base = option_map_or ToBase base ToSame

-- from a class to itself or to its one base of class d
abbrev pub conversion_to_class : Classes → ClassId → ClassId → Conversion
conversion_to_class h c d = if nat_eq c.0 d.0 then ToSame else base_conversion (find (is_of_class d) (preorder h c))

-- from a function's own result to that of the declaration that was found: only pointers may differ (ISO C++03 10.3 p5)
abbrev pub result_conversion : Classes → Option (ReturnType ClassId) → Option (ReturnType ClassId) → Conversion
result_conversion h (Some (ValueReturn (PointerType c))) (Some (ValueReturn (PointerType d))) = conversion_to_class h c d
result_conversion h own found = ToSame

-- the function that runs, and the part that is its `this`
abbrev pub at_part : ObjectPart → Overrider → ObjectPart × FunctionId
at_part p o = (part p.object p.owner o.at, o.function)

-- the final overrider in the view, if there is a view
abbrev pub overrider_by : Classes → Option Subobject → Subobject → FunctionId → Option Overrider
overrider_by h view y f = option_and_then (λ x. final_in h x y f) view

-- the final overrider by the view (ISO C++03 10.3 p2, 12.7 p3)
abbrev pub overrider_in_view : Classes → Objects → ObjectPart → FunctionId → Option (ObjectPart × FunctionId)
overrider_in_view h s p f = option_map (at_part p) (overrider_by h (view_of h s p) p.at f)

-- what a call runs: the final overrider, or without dispatch the function that was found (ISO C++03 5.2.2, 10.3 p12)
abbrev pub runs : Classes → Objects → TypedCall → ObjectPart → Option (ObjectPart × FunctionId)
runs h s call p = if call.is_dispatched then overrider_in_view h s p call.function else Some (p, call.function)

-- the body of the function on top of the frames, and the call told
abbrev pub body_entered : Classes → ProgramState → List Value → TypedCall → Option Target → ObjectPart × FunctionId → Option TypedBody → Next
body_entered h s values call target run None = Wrong
body_entered h s values call target run (Some body) = Goes
    (with_frames s (InBody (entered_body body (Pointer run.0) values (result_conversion h (return_of h run.1) (return_of h call.function)) target) ∷ s.frames))
    (CallOut run.1 (location_of s.objects run.0) ∷ [])

-- the function's body; a pure function has none, and a call of it is refused
abbrev pub function_entered : Classes → TypedProgram → ProgramState → List Value → TypedCall → Option Target → Option (ObjectPart × FunctionId) → Next
function_entered h program s values call target found = option_map_or (λ run. body_entered h s values call target run (owned_body program (Function run.1))) found Wrong

-- a call through a pointer to the subobject in which the function was found
abbrev pub called_at : Classes → TypedProgram → ProgramState → List Value → TypedCall → Option Target → Value → Next
called_at h program s values call target (Pointer p) = function_entered h program s values call target (runs h s.objects call p)
called_at h program s values call target other = Wrong

-- a call opens the body of the function; s stands behind the statement, and see is what the statement sees
abbrev pub called : Classes → TypedProgram → Sight → ProgramState → TypedCall → Option Target → Next
called h program see s call target = called_at h program s (map (argument_value see) call.arguments) call target (receiver_value see call)

-- statements

-- the variable that takes a result
abbrev pub taker : Variable → Conversion → Option Target
taker variable conversion = Some (record { variable = variable; conversion = conversion })

-- `new` makes the object and begins its plan (ISO C++03 5.3.4)
abbrev pub new_made : Classes → TypedProgram → ProgramState → ClassId → Option Target → Next
new_made h program s c target = Goes (with_frames (with_objects s (with_new_object s.objects c)) (building h program (length s.objects.classes) c target ∷ s.frames)) []

-- a variable takes a right side
abbrev pub taken : Classes → TypedProgram → Sight → ProgramState → Variable → TypedRight → Conversion → Next
taken h program see s variable (CallRight call) c = called h program see s call (taker variable c)
taken h program see s variable (New d) c = new_made h program s d (taker variable c)
taken h program see s variable right c = Goes (assigned s variable (converted_to (right_side_value h see right) c)) []

-- a local with or without a right side (ISO C++03 6.7)
abbrev pub local_declared : Classes → TypedProgram → Sight → ProgramState → ℕ → Option Converted → Next
local_declared h program see s n right = option_map_or (λ x. taken h program see s (Local n) x.right x.conversion) right (Goes s [])

-- a leaf takes a value (ISO C++03 5.17)
abbrev pub written : ProgramState → TypedPlace → Value → Value → Next
written s place v (Pointer p) = Goes (with_objects s (leaf_set s.objects (leaf_at p place) v)) []
written s place v other = Wrong

-- `*to = *from` of two parts of class c (ISO C++03 12.8)
abbrev pub copied_at : Classes → ProgramState → ClassId → Value → Value → Next
copied_at h s c (Pointer to) (Pointer from) = Goes (with_objects s (copied h c to from s.objects)) []
copied_at h s c a b = Wrong

-- the plan of destruction of a heap object
abbrev pub object_ended : Classes → TypedProgram → ProgramState → ℕ → Option ClassId → Next
object_ended h program s k class = option_map_or (λ c. Goes (with_frames s (ending h program k c ∷ s.frames)) []) class Wrong

-- `delete` of null does nothing; that of a pointer ends its heap object (ISO C++03 5.3.5)
abbrev pub deleted : Classes → TypedProgram → ProgramState → Value → Next
deleted h program s (Pointer p) = object_ended h program s p.object (slice_get s.objects.classes p.object)
deleted h program s Null = Goes s []
deleted h program s other = Wrong

-- control goes on at this statement in the innermost frame
abbrev pub frames_at : List Frame → ℕ → List Frame
frames_at (InBody f ∷ below) n = InBody (at_statement f n) ∷ below
frames_at other n = other

-- control goes on at this statement
abbrev pub going_on_at : ProgramState → ℕ → ProgramState
going_on_at s n = with_frames s (frames_at s.frames n)

-- a condition holds where its number is not 0; a block without statements is passed over
abbrev pub branched : ProgramState → Value → ℕ → ℕ → Next
branched s (Number z) yes_at no_at = Goes (going_on_at s (if is_number_zero z then no_at else yes_at)) []
branched s other yes_at no_at = Wrong

-- the first statement of a block from n to its end, or where control goes on behind an empty one
abbrev pub block_at : (n end behind : ℕ) → ℕ
block_at n end behind = if nat_eq n end then behind else n

-- a variable takes a value, with its conversion; without a variable the value is dropped
abbrev pub given_to_target : ProgramState → Value → Option Target → ProgramState
given_to_target s v taker = option_map_or (λ target. assigned s target.variable (converted_to v target.conversion)) taker s

-- the result of a `return`, if it has one
abbrev pub result_given : ProgramState → Conversion → Option Target → Option Value → ProgramState
result_given s found target result = option_map_or (λ v. given_to_target s (converted_to v found) target) result s

-- what a `return` leads to, by whose body it leaves: constructors and destructors have none
abbrev pub left_by : Owner → ProgramState → Next
left_by Main s = Ends
left_by (Function g) s = Goes s []
left_by other s = Wrong

-- a `return` leaves the body, and the frame below takes the result; that of `main` ends the run
abbrev pub returned : ProgramState → RunningBody → List Frame → Option Value → Next
returned s f below v = left_by f.owner (result_given (with_frames s below) f.found f.target v)

-- what `print` of a value tells
abbrev pub value_out : Objects → Value → Option Out
value_out s Unset = None
value_out s (Number z) = Some (NumberOut z)
value_out s Null = Some (PointerOut None)
value_out s (Pointer p) = Some (PointerOut (Some (location_of s p)))

-- what `print` of a pointer to the part tells
abbrev pub part_out : Objects → Option ObjectPart → Option Out
part_out s at = option_map (λ p. PointerOut (Some (location_of s p))) at

-- what `print(dynamic_cast<void*>(p))` tells: the whole of the view (ISO C++03 5.2.7 p7)
abbrev pub view_out : Classes → Objects → Value → Option Out
view_out h s (Pointer p) = part_out s (view_part h s p)
view_out h s Null = Some (PointerOut None)
view_out h s other = None

-- what `print` of a type tells
abbrev pub class_out : Option ClassId → Option Out
class_out class = option_map TypeNameOut class

-- what `print(typeid(*p))` tells (ISO C++03 5.2.8)
abbrev pub type_out : Classes → Objects → Value → Option Out
type_out h s (Pointer p) = class_out (typeid_class h s p)
type_out h s other = None

-- the dump of a heap object: its number, its class and its leaves
abbrev pub object_out : Classes → Objects → ℕ → Option ClassId → Option Out
object_out h s k class = option_map (λ c. DumpOut (k + 1) c (map (dump_leaf s) (leaves_of h c (whole_part k c)))) class

-- `dump(p)` tells the whole heap object of p's part
abbrev pub dump_out : Classes → Objects → Value → Option Out
dump_out h s (Pointer p) = object_out h s p.object (slice_get s.classes p.object)
dump_out h s other = None

-- the state and one thing told
abbrev pub telling : ProgramState → Option Out → Next
telling s told = option_map_or (λ out. Goes s (out ∷ [])) told Wrong

-- on is the state in which control has gone on, and see what the statement sees
abbrev pub kind_effect : Classes → TypedProgram → Sight → ProgramState → RunningBody → List Frame → (n next : ℕ) → TypedKind → Next
kind_effect h program see on f below n next (Declare m x) = local_declared h program see on m x
kind_effect h program see on f below n next (Assign variable x) = taken h program see on variable x.right x.conversion
kind_effect h program see on f below n next (Write place x) = written on place (argument_value see x) (value_of_operand see place.pointer)
kind_effect h program see on f below n next (Copy to from c) = copied_at h on c (value_of_operand see to) (value_of_operand see from)
kind_effect h program see on f below n next (Call call) = called h program see on call None
kind_effect h program see on f below n next (Delete x c) = deleted h program on (value_of_operand see x)
kind_effect h program see on f below n next (If x other behind) = branched on (value_of_operand see x) (block_at (n + 1) other next) (block_at other behind next)
kind_effect h program see on f below n next (While x behind) = branched on (value_of_operand see x) (block_at (n + 1) behind n) next
kind_effect h program see on f below n next (Return x) = returned on f below (option_map (argument_value see) x)
kind_effect h program see on f below n next (Print x) = telling on (value_out on.objects (value_of_operand see x))
kind_effect h program see on f below n next (PrintType x c) = telling on (type_out h on.objects (value_of_operand see x))
kind_effect h program see on f below n next (PrintView x c) = telling on (view_out h on.objects (value_of_operand see x))
kind_effect h program see on f below n next (Dump x c) = telling on (dump_out h on.objects (value_of_operand see x))

-- what statement number n of the frame f does, over the frames below; s is the state before
abbrev pub effect : Classes → TypedProgram → ProgramState → RunningBody → List Frame → ℕ → TypedStatement → Next
effect h program s f below n statement = kind_effect h program (sight s f) (going_on_at s statement.next) f below n statement.next statement.kind
