-- The uses that a statement makes of values and of parts. The rules that refuse a step are asked of them.
use Rattle.std.specs.Prelude.{ℕ, zero, suc, ◌+◌, Bool, true, false, ◌&&◌, ◌||◌, if◌then◌else◌, Option, Some, None, List, [], ◌∷◌, ◌++◌, find, length, slice_get, option_and_then}
use Rattle.std.specs.Option.{option_map_or}
use Rattle.std.specs.List.{flat_map}
use Rattle.cxx_hierarchy.specs.declared.records.ClassId.{ClassId}
use Rattle.cxx_hierarchy.specs.declared.records.Scalar.{Scalar}
use Rattle.cxx_hierarchy.specs.declared.records.Member.{Member}
use Rattle.cxx_hierarchy.specs.declared.records.FieldType.{FieldType}
use Rattle.cxx_hierarchy.specs.declared.records.FieldType.TheVariants.{Value as ValueField, Object}
use Rattle.cxx_hierarchy.specs.Classes.{Classes, members_of}
use Rattle.cxx_hierarchy.specs.Declarations.{elements_of}
use Rattle.cxx_subobject.specs.declared.Subobject.{Subobject}
use Rattle.cxx_subobject.specs.Subobjects.{class_of, join, same_subobject, is_shared_root, is_of_class}
use Rattle.cxx_subobject.specs.Preorder.{preorder}
use Rattle.cxx_subobject.specs.Locations.{Step, ObjectPart}
use Rattle.cxx_overrider.specs.declared.FunctionId.{FunctionId}
use Rattle.cxx_overrider.specs.Virtuals.{is_virtual}
use Rattle.cxx_program.specs.declared.operand.Argument.{Argument}
use Rattle.cxx_program.specs.declared.operand.Conversion.{Conversion}
use Rattle.cxx_program.specs.declared.operand.Conversion.TheVariants.{Base as ToBase}
use Rattle.cxx_program.specs.declared.statement.PassedMember.{PassedMember}
use Rattle.cxx_program.specs.declared.statement.TypedPlace.{TypedPlace}
use Rattle.cxx_program.specs.declared.statement.TypedCast.{TypedCast}
use Rattle.cxx_program.specs.declared.statement.TypedCast.TheVariants.{Same as SameClass, Up, Down, Dynamic}
use Rattle.cxx_program.specs.declared.statement.TypedCall.{TypedCall}
use Rattle.cxx_program.specs.declared.statement.Arithmetic.{Arithmetic as Operator}
use Rattle.cxx_program.specs.declared.statement.TypedRight.{TypedRight}
use Rattle.cxx_program.specs.declared.statement.TypedRight.TheVariants.{Operand, Arithmetic, SamePointer, Not, Read, Address, Call as CallRight, New, Cast, TypeEqual}
use Rattle.cxx_program.specs.declared.statement.TypedKind.{TypedKind}
use Rattle.cxx_program.specs.declared.statement.TypedKind.TheVariants.{Declare, Assign, Write, Copy, Call, Delete, If, While, Return, Print, PrintType, PrintView, Dump}
use Rattle.path_plan.specs.Places.{part, element}
use Rattle.path_plan.specs.Phases.{Phases}
use Rattle.path_plan.specs.Plans.{upto}
use Rattle.path_plan.specs.Views.{view}
use Rattle.path_model.specs.Values.{Value, Unset, Null, Pointer, Objects, Sight, value_of_operand, converted_to, to_base, inner_part}
use Rattle.path_model.specs.Places.{passed_part, leaf_value, address_value, owner_class}
use Rattle.cxx_search.specs.Searches.{is_within, cast_in, has_virtual_base, destructor_of, preorder_of}

pub data StatementUse : Type 0 where
  -- of a variable, parameter or leaf
  Reads : Value → StatementUse
  -- `->`, `*p`, `typeid(*p)` or `dump`
  Follows : Value → StatementUse
  -- a guarded use: `->`, a copy, typeid, `delete`, a cast, a conversion to another class
  Guards : Value → StatementUse
  -- a class member that the written path passes through, or that a copy covers
  Passes : ObjectPart → StatementUse
  -- the step needs the view of the complete object, and starts from this subobject
  Views : Value → StatementUse
  -- a call of the function by the view
  Takes : Value → FunctionId → StatementUse
  -- a static downcast, to the class whose subobject the pointer is to be
  Downs : Value → (target : ClassId) → Subobject → StatementUse
  -- `delete`, through a class whose destructor is virtual or not
  Deletes : Value → (is_virtual : Bool) → StatementUse
  Dumps : Value → StatementUse
  -- the closing step of a function with a result
  Closes : StatementUse
  -- a sum, difference, product or comparison in the common type
  Overflows : Operator → Scalar → Value → Value → StatementUse

-- the view of the complete object that a part belongs to, and of which class that is

-- the class of the complete object that a part belongs to
abbrev pub class_of_owner : Classes → Objects → ObjectPart → Option ClassId
class_of_owner h s p = owner_class h s.classes p.object p.owner

-- its view, where the class is known
abbrev pub view_in : Phases → ℕ → List Step → Option ClassId → Option Subobject
view_in phases k o class = option_and_then (view phases k o) class

-- the view of the complete object that a part belongs to (ISO C++03 12.7)
abbrev pub view_of : Classes → Objects → ObjectPart → Option Subobject
view_of h s p = view_in s.phases p.object p.owner (class_of_owner h s p)

-- behind a virtual base
abbrev pub is_shared : Subobject → Bool
is_shared i = is_shared_root i.root

-- the view is needed if so
abbrev pub uses_of_view : Bool → Value → List StatementUse
uses_of_view needed v = if needed then Views v ∷ [] else []

-- a conversion to another class is a guarded use; that to a subobject behind a virtual base needs the view (ISO C++03 4.10, 12.7 p2)
abbrev pub convert : Value → Conversion → List StatementUse
convert v (ToBase i) = Guards v ∷ uses_of_view (is_shared i) v
convert v other = []

-- `p->`, `*p` or `typeid(*p)`
abbrev pub arrow : Value → List StatementUse
arrow v = Reads v ∷ Follows v ∷ Guards v ∷ []

-- a value that is read and converted
abbrev pub argument_uses : Sight → Argument → List StatementUse
argument_uses s a = Reads (value_of_operand s a.operand) ∷ convert (value_of_operand s a.operand) a.conversion

-- places

-- a path from a part that the pointer names, to its last name, which is found in the subobject `last`
abbrev pub path_uses : ObjectPart → List PassedMember → Subobject → List StatementUse
path_uses p [] last = uses_of_view (is_shared last) (Pointer p)
path_uses p (x ∷ rest) last = uses_of_view (is_shared x.base) (Pointer p) ++ (Passes (passed_part p x) ∷ path_uses (passed_part p x) rest last)

-- the uses of a part, where the value names one
abbrev pub of_part : (ObjectPart → List StatementUse) → Value → List StatementUse
of_part f (Pointer p) = f p
of_part f other = []

-- the uses of a place: its pointer and its path, not its leaf
abbrev pub place_uses : Sight → TypedPlace → List StatementUse
place_uses s place = arrow (value_of_operand s place.pointer) ++ of_part (λ p. path_uses p place.passed place.base) (value_of_operand s place.pointer)

-- casts

-- the subobject of the target class, in the complete object, whose base i is the part
abbrev pub derived_of : Classes → Objects → ClassId → Subobject → ObjectPart → Option Subobject
derived_of h s target i p = find (λ t. is_of_class target t && same_subobject (join t i) p.at) (preorder_of h (class_of_owner h s p))

-- a pointer to the subobject, or another value where there is none
abbrev pub value_or : ObjectPart → Value → Option Subobject → Value
value_or p other found = option_map_or (λ t. Pointer (part p.object p.owner t)) found other

-- what a dynamic_cast gives in this view: null where the cast fails (ISO C++03 5.2.7 p9)
abbrev pub view_cast : Classes → ClassId → ObjectPart → Option Subobject → Value
view_cast h target p view = option_map_or (λ x. if is_within h x p.at then value_or p Null (cast_in h target x p.at) else Unset) view Unset

-- what a static downcast gives (ISO C++03 5.2.9 p8)
abbrev pub down_value : Classes → Objects → ClassId → Subobject → Value → Value
down_value h s target i (Pointer p) = value_or p Unset (derived_of h s target i p)
down_value h s target i Null = Null
down_value h s target i other = Unset

-- what a dynamic_cast gives
abbrev pub dynamic_value : Classes → Objects → ClassId → Value → Value
dynamic_value h s target (Pointer p) = view_cast h target p (view_of h s p)
dynamic_value h s target Null = Null
dynamic_value h s target other = Unset

-- what a cast gives: null of null, and no value where it is refused
abbrev pub cast_value : Classes → Objects → TypedCast → Value → Value
cast_value h s SameClass v = v
cast_value h s (Up i) v = to_base i v
cast_value h s (Down target i) v = down_value h s target i v
cast_value h s (Dynamic target) v = dynamic_value h s target v

-- every cast is a guarded use, also one to the same class
abbrev pub cast_uses : TypedCast → Value → List StatementUse
cast_uses SameClass v = Reads v ∷ Guards v ∷ []
cast_uses (Up i) v = Reads v ∷ Guards v ∷ uses_of_view (is_shared i) v
cast_uses (Down target i) v = Reads v ∷ Guards v ∷ Downs v target i ∷ []
cast_uses (Dynamic target) v = Reads v ∷ Guards v ∷ Views v ∷ []

-- the class members that a copy covers: those of each subobject, and those inside them

-- each element of a member that is an object, and the class members inside it
abbrev pub element_uses : (ClassId → ObjectPart → List StatementUse) → ObjectPart → ℕ → List ℕ → FieldType ClassId → List StatementUse
element_uses inside p m indices (ValueField type) = []
element_uses inside p m indices (Object d) = flat_map (λ i. Passes (element p m i d) ∷ inside d (element p m i d)) indices

-- the same, of a member that is there
abbrev pub member_uses : (ClassId → ObjectPart → List StatementUse) → ObjectPart → ℕ → Option (Member ClassId) → List StatementUse
member_uses inside p m declared = option_map_or (λ member. element_uses inside p m (upto (elements_of member.count)) member.ty) declared []

-- the class members that a part's class declares
abbrev pub own_members : Classes → (ClassId → ObjectPart → List StatementUse) → Option ClassId → ObjectPart → List StatementUse
own_members h inside class p = option_map_or (λ b. flat_map (λ m. member_uses inside p m (slice_get (members_of h b) m)) (upto (length (members_of h b)))) class []

-- the class members in a part, for classes of numbers below n
abbrev pub covers : Classes → ℕ → ClassId → ObjectPart → List StatementUse
covers h zero c p = []
covers h (suc n) c p = flat_map (λ i. own_members h (covers h n) (class_of i) (inner_part p i)) (preorder h c)

-- a member object is of a class before
abbrev pub covered : Classes → ClassId → Value → List StatementUse
covered h c v = of_part (covers h (c.0 + 1) c) v

-- calls

-- the subobject to which a call's pointer goes
abbrev pub goes_to : Option Subobject → Value → Value
goes_to qualifier v = option_map_or (λ i. to_base i v) qualifier v

-- the class before `::` is behind a virtual base
abbrev pub is_shared_way : Option Subobject → Bool
is_shared_way qualifier = option_map_or is_shared qualifier false

-- the subobject of the class in which the function was found
abbrev pub receiver_value : Sight → TypedCall → Value
receiver_value s call = to_base call.base (goes_to call.qualifier (value_of_operand s call.pointer))

-- the function is found by the view if the call is dispatched
abbrev pub takes : Bool → Value → FunctionId → List StatementUse
takes is_dispatched v f = if is_dispatched then Takes v f ∷ [] else []

-- the view is needed for dispatch, for the way to the class before `::`, and for the way from there to the function
abbrev pub call_uses : Sight → TypedCall → List StatementUse
call_uses s call =
    arrow (value_of_operand s call.pointer) ++ (uses_of_view (call.is_dispatched || is_shared_way call.qualifier) (value_of_operand s call.pointer) ++ (uses_of_view (is_shared call.base) (goes_to call.qualifier (value_of_operand s call.pointer))
    ++ (flat_map (argument_uses s) call.arguments ++ takes call.is_dispatched (receiver_value s call) call.function)))

-- right sides and statements. `clear` tells whether no rule is broken by uses: what rests on the value of a leaf is asked only
-- where its pointer and its path are clear

-- the value of a leaf, and its conversion
abbrev pub leaf_uses : Bool → Value → Conversion → List StatementUse
leaf_uses clear v c = if clear then Reads v ∷ convert v c else []

-- the uses of a right side; a result of a call is converted in the step of its `return`, that of a `new` in its last event
abbrev pub right_uses : Classes → (List StatementUse → Bool) → Sight → TypedRight → Conversion → List StatementUse
right_uses h clear s (Operand x) c = Reads (value_of_operand s x) ∷ convert (value_of_operand s x) c
right_uses h clear s (Arithmetic op t x y) c = Reads (value_of_operand s x) ∷ Reads (value_of_operand s y) ∷ Overflows op t (value_of_operand s x) (value_of_operand s y) ∷ []
right_uses h clear s (SamePointer differ a b) c = argument_uses s a ++ argument_uses s b
right_uses h clear s (Not x) c = Reads (value_of_operand s x) ∷ []
right_uses h clear s (Read place) c = place_uses s place ++ leaf_uses (clear (place_uses s place)) (leaf_value s place (value_of_operand s place.pointer)) c
right_uses h clear s (Address place d) c = place_uses s place ++ convert (address_value place d (value_of_operand s place.pointer)) c
right_uses h clear s (CallRight call) c = call_uses s call
right_uses h clear s (New d) c = []
right_uses h clear s (Cast cast x) c = cast_uses cast (value_of_operand s x) ++ convert (cast_value h s.objects cast (value_of_operand s x)) c
right_uses h clear s (TypeEqual x d) c = arrow (value_of_operand s x) ++ Views (value_of_operand s x) ∷ []

-- what a return does with a result: how it becomes one of the class of the declaration that was found, and then one of the
-- type of the variable that takes it
pub record Wanted : Type 0 where
  pub found : Conversion
  pub target : Conversion

-- the uses of a `return`
abbrev pub return_uses : Sight → Wanted → Option Argument → List StatementUse
return_uses s w None = []
return_uses s w (Some a) =
    argument_uses s a ++ (convert (converted_to (value_of_operand s a.operand) a.conversion) w.found ++ convert (converted_to (converted_to (value_of_operand s a.operand) a.conversion) w.found) w.target)

-- the uses of a statement
abbrev pub kind_uses : Classes → (List StatementUse → Bool) → Sight → Wanted → TypedKind → List StatementUse
kind_uses h clear s w (Declare n right) = option_map_or (λ x. right_uses h clear s x.right x.conversion) right []
kind_uses h clear s w (Assign variable x) = right_uses h clear s x.right x.conversion
kind_uses h clear s w (Write place x) = place_uses s place ++ argument_uses s x
kind_uses h clear s w (Copy to from c) =
    arrow (value_of_operand s to) ++ (arrow (value_of_operand s from) ++ (uses_of_view (has_virtual_base h c) (value_of_operand s to) ++ (uses_of_view (has_virtual_base h c) (value_of_operand s from) ++ (covered h c (value_of_operand s to) ++ covered h c (value_of_operand s from)))))
kind_uses h clear s w (Call call) = call_uses s call
kind_uses h clear s w (Delete x c) = Reads (value_of_operand s x) ∷ Guards (value_of_operand s x) ∷ (uses_of_view (is_virtual h (destructor_of h c)) (value_of_operand s x) ++ Deletes (value_of_operand s x) (is_virtual h (destructor_of h c)) ∷ [])
kind_uses h clear s w (If x other behind) = Reads (value_of_operand s x) ∷ []
kind_uses h clear s w (While x behind) = Reads (value_of_operand s x) ∷ []
kind_uses h clear s w (Return x) = return_uses s w x
kind_uses h clear s w (Print x) = Reads (value_of_operand s x) ∷ []
kind_uses h clear s w (PrintType x c) = arrow (value_of_operand s x) ++ Views (value_of_operand s x) ∷ []
kind_uses h clear s w (PrintView x c) = Reads (value_of_operand s x) ∷ Guards (value_of_operand s x) ∷ Views (value_of_operand s x) ∷ []
kind_uses h clear s w (Dump x c) = Reads (value_of_operand s x) ∷ Follows (value_of_operand s x) ∷ Dumps (value_of_operand s x) ∷ []
