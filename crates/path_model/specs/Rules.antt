-- When a use breaks a rule, and which rule refuses a step.
use Rattle.std.specs.Prelude.{◌≡◌, ◌<◌, ℕ, ℤ, ◌+ℤ◌, ◌-ℤ◌, ◌*ℤ◌, int_lt, Bool, true, false, ◌&&◌, ◌||◌, not, Option, Some, None, List, [], ◌∷◌, find, slice_get, option_and_then, is_none, if◌then◌else◌}
use Rattle.std.specs.Option.{option_map_or}
use Rattle.std.specs.List.{list_any}
use Rattle.cxx_hierarchy.specs.declared.records.ClassId.{ClassId}
use Rattle.cxx_hierarchy.specs.declared.records.Scalar.{Scalar}
use Rattle.cxx_hierarchy.specs.declared.records.ReturnType.{ReturnType}
use Rattle.cxx_hierarchy.specs.declared.records.ReturnType.TheVariants.{Value as ValueReturn}
use Rattle.cxx_hierarchy.specs.Scalars.{is_signed, wrapped}
use Rattle.cxx_hierarchy.specs.Classes.{Classes}
use Rattle.cxx_subobject.specs.declared.Subobject.{Subobject}
use Rattle.cxx_subobject.specs.Subobjects.{whole_of, same_subobject}
use Rattle.cxx_subobject.specs.Locations.{Step, ObjectPart}
use Rattle.cxx_overrider.specs.declared.FunctionId.{FunctionId}
use Rattle.cxx_overrider.specs.Functions.{return_of}
use Rattle.cxx_program.specs.declared.statement.Arithmetic.{Arithmetic as Operator}
use Rattle.cxx_program.specs.declared.statement.Arithmetic.TheVariants.{Add, Subtract, Multiply}
use Rattle.cxx_program.specs.declared.statement.TypedKind.{TypedKind}
use Rattle.path_rules.specs.declared.Undefined.{Undefined}
use Rattle.path_rules.specs.declared.Undefined.TheVariants.{NullUse, Dangling, NotReady, OutsideView, Unset as UnsetUse, PureCall, BadDowncast, NonVirtualDelete, NotHeapObject, NotComplete, MissingReturn, Overflow}
use Rattle.path_rules.specs.Rules.{undefined_no}
use Rattle.path_plan.specs.Places.{part}
use Rattle.path_plan.specs.Phases.{is_ready, is_complete}
use Rattle.path_model.specs.Values.{Value, Unset, Number, Null, Pointer, Objects, Sight}
use Rattle.cxx_search.specs.Searches.{is_within, final_in, is_pure_overrider}
use Rattle.path_model.specs.Uses.{StatementUse, Reads, Follows, Guards, Passes, Views, Takes, Downs, Deletes, Dumps, Closes, Overflows, class_of_owner, view_of, derived_of, Wanted, kind_uses}

-- in the order in which they are asked
abbrev pub rules : List Undefined
rules = NullUse ∷ Dangling ∷ NotReady ∷ OutsideView ∷ UnsetUse ∷ PureCall ∷ BadDowncast ∷ NonVirtualDelete ∷ NotHeapObject ∷ NotComplete ∷ MissingReturn ∷ Overflow ∷ []

-- a null pointer
abbrev pub is_null : Value → Bool
is_null Null = true
is_null other = false

-- no value yet
abbrev pub is_unset : Value → Bool
is_unset Unset = true
is_unset other = false

-- a condition that rests on an unset value, or on what null names, does not hold
abbrev pub names : (ObjectPart → Bool) → Value → Bool
names f (Pointer p) = f p
names f other = false

-- the subobject is not ready
abbrev pub is_unready : Objects → ObjectPart → Bool
is_unready s p = not (is_ready (s.phases.phase p))

-- neither the view nor one of the view's bases
abbrev pub is_outside_of : Classes → Option Subobject → Subobject → Bool
is_outside_of h view y = option_map_or (λ x. not (is_within h x y)) view true

-- the part is not in the view of its complete object
abbrev pub is_outside : Classes → Objects → ObjectPart → Bool
is_outside h s p = is_outside_of h (view_of h s p) p.at

-- the final overrider in the view of the complete object is pure
abbrev pub is_pure_in_view : Classes → Objects → FunctionId → ObjectPart → Bool
is_pure_in_view h s f p = is_pure_overrider h (option_and_then (λ x. final_in h x p.at f) (view_of h s p))

-- the complete object is the heap object itself
abbrev pub is_in_heap_object : List Step → Bool
is_in_heap_object [] = true
is_in_heap_object (step ∷ rest) = false

-- the part is a proper base of its complete object
abbrev pub is_no_whole : Classes → Objects → ObjectPart → Bool
is_no_whole h s p = not (option_map_or (λ d. same_subobject p.at (whole_of d)) (class_of_owner h s p) false)

-- the whole of heap object k is complete
abbrev pub is_whole_complete : Objects → ℕ → Option ClassId → Bool
is_whole_complete s k class = option_map_or (λ d. is_complete (s.phases.phase (part k [] (whole_of d)))) class false

-- the heap object of the part is not complete
abbrev pub is_incomplete : Objects → ObjectPart → Bool
is_incomplete s p = not (is_whole_complete s p.object (slice_get s.classes p.object))

-- two numbers are not the same
abbrev pub differ : ℤ → ℤ → Bool
differ a b = int_lt a b || int_lt b a

-- the exact result is no number of the type
abbrev pub is_over : Scalar → ℤ → Bool
is_over t z = differ (wrapped t z) z

-- a sum, difference or product is no number of the type; a comparison has a result in every case
abbrev pub is_result_over : Operator → Scalar → ℤ → ℤ → Bool
is_result_over Add t a b = is_over t (a +ℤ b)
is_result_over Subtract t a b = is_over t (a -ℤ b)
is_result_over Multiply t a b = is_over t (a *ℤ b)
is_result_over comparison t a b = false

-- the same of two values that are numbers, where the type is signed (ISO C++03 5 p5)
abbrev pub overflows : Operator → Scalar → Value → Value → Bool
overflows op t (Number a) (Number b) = is_signed t && is_result_over op t (wrapped t a) (wrapped t b)
overflows op t a b = false

abbrev pub breaks : Classes → Objects → Undefined → StatementUse → Bool
-- U1: the pointer of `->`, `*p`, `typeid(*p)` or `dump` is null
breaks h s NullUse (Follows v) = is_null v
-- U2: the step reads a pointer value that names a closed heap object
breaks h s Dangling (Reads v) = names (λ p. s.is_closed p.object) v
-- U3: a guarded use of a pointer that is not null, and its subobject is not ready; a class member that the written path
-- passes through, or that a copy covers, is not ready
breaks h s NotReady (Guards v) = names (is_unready s) v
breaks h s NotReady (Passes p) = is_unready s p
-- U4: the step needs the view of a complete object, and the subobject it starts from is neither the view nor one of the
-- view's bases
breaks h s OutsideView (Views v) = names (is_outside h s) v
-- U5: the step reads an unset variable or leaf
breaks h s UnsetUse (Reads v) = is_unset v
-- U6: the final overrider in the view is pure
breaks h s PureCall (Takes v f) = names (is_pure_in_view h s f) v
-- U7: a static downcast from X to T, and the subobject is not that base of any T subobject of its complete object
breaks h s BadDowncast (Downs v target i) = names (λ p. is_none (derived_of h s target i p)) v
-- U8: `delete` through a class whose destructor is not virtual, and the subobject is not the whole of its complete object
breaks h s NonVirtualDelete (Deletes v false) = names (is_no_whole h s) v
-- U9: `delete` of a subobject whose complete object is a member or element
breaks h s NotHeapObject (Deletes v is_virtual) = names (λ p. not (is_in_heap_object p.owner)) v
-- U10: `delete` or `dump`, and the whole of the heap object is not complete
breaks h s NotComplete (Deletes v is_virtual) = names (is_incomplete s) v
breaks h s NotComplete (Dumps v) = names (is_incomplete s) v
-- U11: the closing step of a function with a result, other than `main`
breaks h s MissingReturn Closes = true
-- U12: a signed result outside its type
breaks h s Overflow (Overflows op t a b) = overflows op t a b
breaks h s rule other = false

-- some use breaks the rule
abbrev pub is_broken : Classes → Objects → List StatementUse → Undefined → Bool
is_broken h s uses rule = list_any (breaks h s rule) uses

-- the first of U1 to U12 that some of the uses breaks
unfoldable pub refused : Classes → Objects → List StatementUse → Option Undefined
refused h s uses = find (is_broken h s uses) rules

-- the uses break no rule
abbrev pub is_clear : Classes → Objects → List StatementUse → Bool
is_clear h s uses = is_none (refused h s uses)

-- the uses of a statement
abbrev pub uses_of : Classes → Sight → Wanted → TypedKind → List StatementUse
uses_of h s w kind = kind_uses h (is_clear h s.objects) s w kind

-- the rule that refuses a statement
abbrev pub statement_refusal : Classes → Sight → Wanted → TypedKind → Option Undefined
statement_refusal h s w kind = refused h s.objects (uses_of h s w kind)

-- the function has a result
abbrev pub returns_value : Option (ReturnType ClassId) → Bool
returns_value (Some (ValueReturn t)) = true
returns_value other = false

-- the use that a closing step makes
abbrev pub closes : Bool → List StatementUse
closes has_result = if has_result then Closes ∷ [] else []

-- the rule that refuses the closing step of a function's body
abbrev pub closing_refusal : Classes → Objects → FunctionId → Option Undefined
closing_refusal h s g = refused h s (closes (returns_value (return_of h g)))

-- some use breaks the rule, and none a rule of a smaller number; where there is no rule, no use breaks any
abbrev pub IsLeast : (Undefined → Bool) → Option Undefined → Type 0
IsLeast f None = (r : Undefined) → f r ≡ false
IsLeast f (Some r) = (f r ≡ true) × ((smaller : Undefined) → undefined_no smaller < undefined_no r → f smaller ≡ false)
