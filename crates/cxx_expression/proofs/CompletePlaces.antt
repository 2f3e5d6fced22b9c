-- Places and calls are refused, or typed.
use Rattle.std.proofs.Common.{ℕ, ◌+◌, nat_eq, nat_lt, Option, Some, None, Result, List, [], ◌∷◌, length, slice_get, refl}
use Rattle.cxx_hierarchy.specs.declared.records.ClassId.{ClassId}
use Rattle.cxx_hierarchy.specs.declared.records.ValueType.{ValueType}
use Rattle.cxx_hierarchy.specs.declared.records.FieldType.{FieldType}
use Rattle.cxx_hierarchy.specs.declared.records.FieldType.TheVariants as field
use Rattle.cxx_hierarchy.specs.declared.records.Member.{Member}
use Rattle.cxx_hierarchy.specs.declared.records.Function.{Function}
use Rattle.cxx_hierarchy.specs.declared.stop.Rule.TheVariants as rule
use Rattle.cxx_hierarchy.specs.Classes.{Classes}
use Rattle.cxx_subobject.specs.declared.Subobject.{Subobject}
use Rattle.cxx_subobject.specs.Subobjects.{class_of as class_of_subobject}
use Rattle.cxx_overrider.specs.declared.FunctionId.{FunctionId}
use Rattle.cxx_overrider.specs.Virtuals.{function_at, is_virtual}
use Rattle.cxx_syntax.specs.declared.tree.Spot.{Spot}
use Rattle.cxx_syntax.specs.declared.tree.Operand.{Operand}
use Rattle.cxx_syntax.specs.declared.tree.PointerText.{PointerText}
use Rattle.cxx_syntax.specs.declared.tree.PlacePart.{PlacePart}
use Rattle.cxx_syntax.specs.declared.tree.PlaceText.{PlaceText}
use Rattle.cxx_syntax.specs.declared.tree.CallText.{CallText}
use Rattle.cxx_program.specs.declared.statement.TypedPlace.{TypedPlace}
use Rattle.cxx_expression.specs.declared.look_up.Looked.{Looked}
use Rattle.cxx_expression.specs.declared.look_up.Looked.TheVariants as looked
use Rattle.cxx_expression.specs.declared.faults.Fault.{Fault}
use Rattle.cxx_expression.specs.declared.scene.Scene.{Scene}
use Rattle.cxx_expression.specs.declared.scene.Setting.{Setting}
use Rattle.cxx_expression.specs.declared.typed.FieldPlace.{FieldPlace}
use Rattle.cxx_expression.specs.declared.typed.FoundFunction.{FoundFunction}
use Rattle.cxx_expression.specs.declared.typed.Reached.{Reached}
use Rattle.cxx_expression.specs.Checked.{pure, warn, ◌>>=◌, both, beside, kept}
use Rattle.cxx_expression.specs.Lookups.{looked_up, member_record, function_record}
use Rattle.cxx_expression.specs.Values.{class_of_spot}
use Rattle.cxx_expression.specs.Places.{as_found, member_in, as_member, member_of, checked_index, object_of, step_of, steps_of, begun, with_last, ended, place_of, as_leaf, leaf_of, as_object, object_place_of}
use Rattle.cxx_expression.specs.Calls as calls
use Rattle.cxx_expression.specs.Calls.{function_in, as_function, function_of, counted, target_of, plain_operand, argument_of, arguments_of, target_parameters, plain_value, plain_call, defined, named_function, receiver_of, found_parameters, qualified_value, qualified_call, call_by, call_of, whole_call}
use Rattle.cxx_expression.specs.Laws.{IsComplete}
use Rattle.cxx_expression.proofs.Complete.{complete_pure, complete_fail, complete_warn, complete_bind, complete_both, complete_if, complete_nested, beside_whole}
use Rattle.cxx_expression.proofs.CompleteValues.{c_class_of, c_operand, c_pointer, c_path, c_converted_operand}

c_found : (name_at : ℕ) (s : Subobject) (n : ℕ) (o : Option (Member ClassId)) → IsComplete (as_found name_at s n o)
c_found name_at s n None = complete_fail _ _
c_found name_at s n (Some member) = complete_pure _

c_member_in : (h : Classes) (name_at : ℕ) (s : Subobject) (n : ℕ) (o : Option ClassId) → IsComplete (member_in h name_at s n o)
unfolding member_in
c_member_in h name_at s n None = complete_fail _ _
c_member_in h name_at s n (Some d) = c_found name_at s n (member_record h d n)

c_as_member : (h : Classes) (at name_at : ℕ) (l : Looked) → IsComplete (as_member h at name_at l)
c_as_member h at name_at looked.Missing = complete_fail _ _
c_as_member h at name_at looked.Ambiguous = complete_fail _ _
c_as_member h at name_at (looked.Member s n) = c_member_in h name_at s n (class_of_subobject s)
c_as_member h at name_at (looked.Function s n) = complete_fail _ _

c_member : (h : Classes) (at : ℕ) (c : ClassId) (x : Spot) → IsComplete (member_of h at c x)
unfolding member_of
c_member h at c x = c_as_member h at x.at (looked_up h c x.name)

c_index : (at : ℕ) (count : Option ℕ) (index : Option (ℕ × ℕ)) → IsComplete (checked_index at count index)
unfolding checked_index
c_index at None None = complete_pure _
c_index at None (Some index) = complete_fail _ _
c_index at (Some count) None = complete_fail _ _
c_index at (Some count) (Some index) = complete_if (nat_lt index.0 count) _ _ (complete_pure _) (complete_warn _ _ _)

c_object : (at : ℕ) (t : FieldType ClassId) → IsComplete (object_of at t)
unfolding object_of
c_object at (field.Value t) = complete_fail _ _
c_object at (field.Object c) = complete_pure _

c_step : (h : Classes) (at : ℕ) (c : ClassId) (part : PlacePart) → IsComplete (step_of h at c part)
unfolding step_of
c_step h at c part = complete_bind _ _ (c_member h at c part.name) (λ found. complete_bind _ _ (c_index at found.count part.index) (λ i. complete_pure _))

c_steps : (h : Classes) (at : ℕ) (r : Reached) (parts : List PlacePart) → IsComplete (steps_of h at r parts)
unfolding steps_of
c_steps h at r [] = complete_pure _
c_steps h at r (part ∷ parts) = complete_bind _ _ (c_object at r.ty) (λ c. complete_bind _ _ (c_step h at c part) (λ step. c_steps h at _ parts))

c_ended : (at : ℕ) (o : Option FieldPlace) → IsComplete (ended at o)
c_ended at None = complete_fail _ _
c_ended at (Some place) = complete_pure _

c_place : (h : Classes) (e : Setting) (s : Scene) (at : ℕ) (text : PlaceText) → IsComplete (place_of h e s at text)
unfolding place_of
c_place h e s at text = complete_bind _ _ (c_pointer e s at text.pointer) (λ p. complete_bind _ _ (c_steps h at (begun p.class) text.parts) (λ r. c_ended at (with_last p r.passed r.last)))

c_as_leaf : (at : ℕ) (place : TypedPlace) (t : FieldType ClassId) → IsComplete (as_leaf at place t)
c_as_leaf at place (field.Value t) = complete_pure _
c_as_leaf at place (field.Object c) = complete_fail _ _

pub c_leaf : (h : Classes) (e : Setting) (s : Scene) (at : ℕ) (text : PlaceText) → IsComplete (leaf_of h e s at text)
unfolding leaf_of
c_leaf h e s at text = complete_bind _ _ (c_place h e s at text) (λ found. c_as_leaf at found.place found.ty)

c_as_object : (at : ℕ) (place : TypedPlace) (t : FieldType ClassId) → IsComplete (as_object at place t)
c_as_object at place (field.Value t) = complete_fail _ _
c_as_object at place (field.Object c) = complete_pure _

pub c_object_place : (h : Classes) (e : Setting) (s : Scene) (at : ℕ) (text : PlaceText) → IsComplete (object_place_of h e s at text)
unfolding object_place_of
c_object_place h e s at text = complete_bind _ _ (c_place h e s at text) (λ found. c_as_object at found.place found.ty)

c_found_function : (name_at : ℕ) (s : Subobject) (f : FunctionId) (o : Option (Function ClassId)) → IsComplete (calls.as_found name_at s f o)
c_found_function name_at s f None = complete_fail _ _
c_found_function name_at s f (Some function) = complete_pure _

c_function_in : (h : Classes) (name_at : ℕ) (s : Subobject) (n : ℕ) (o : Option ClassId) → IsComplete (function_in h name_at s n o)
unfolding function_in
c_function_in h name_at s n None = complete_fail _ _
c_function_in h name_at s n (Some d) = c_found_function name_at s (function_at d n) (function_record h d n)

c_as_function : (h : Classes) (at name_at : ℕ) (l : Looked) → IsComplete (as_function h at name_at l)
c_as_function h at name_at looked.Missing = complete_fail _ _
c_as_function h at name_at looked.Ambiguous = complete_fail _ _
c_as_function h at name_at (looked.Member s n) = complete_fail _ _
c_as_function h at name_at (looked.Function s n) = c_function_in h name_at s n (class_of_subobject s)

pub c_function : (h : Classes) (at : ℕ) (c : ClassId) (x : Spot) → IsComplete (function_of h at c x)
unfolding function_of
c_function h at c x = c_as_function h at x.at (looked_up h c x.name)

pub c_counted : (at n : ℕ) (f : FoundFunction) → IsComplete (counted at n f)
c_counted at n f = complete_if (nat_eq n (length f.parameters)) (pure f) (warn rule.TypeMismatch at f) (complete_pure _) (complete_warn _ _ _)

c_target : (h : Classes) (e : Setting) (s : Scene) (at : ℕ) (call : CallText) → IsComplete (target_of h e s at call)
unfolding target_of
c_target h e s at call = complete_bind _ _ (c_pointer e s at call.pointer) (λ p. complete_bind _ _ (c_function h at p.class call.name)
    (λ f. complete_bind (counted at (length call.arguments) f) _ (c_counted at (length call.arguments) f) (λ g. complete_pure _)))

c_plain_operand : (e : Setting) (s : Scene) (at : ℕ) (x : Operand) → IsComplete (plain_operand e s at x)
unfolding plain_operand
c_plain_operand e s at x = complete_bind _ _ (c_operand e s at x) (λ v. complete_pure _)

c_argument : (h : Classes) (e : Setting) (s : Scene) (at : ℕ) (o : Option (ValueType ClassId)) (x : Operand) → IsComplete (argument_of h e s at o x)
unfolding argument_of
c_argument h e s at None x = c_plain_operand e s at x
c_argument h e s at (Some t) x = c_converted_operand h e s at t x

c_arguments : (h : Classes) (e : Setting) (s : Scene) (at : ℕ) (ps : List (ValueType ClassId)) (n : ℕ) (xs : List Operand) → IsComplete (arguments_of h e s at ps n xs)
unfolding arguments_of
c_arguments h e s at ps n [] = complete_pure _
c_arguments h e s at ps n (x ∷ xs) = complete_bind _ _ (complete_both _ _ (c_argument h e s at (slice_get ps n) x) (c_arguments h e s at ps (n + 1) xs)) (λ r. complete_pure _)

c_plain_call : (h : Classes) (e : Setting) (s : Scene) (at : ℕ) (call : CallText) → IsComplete (plain_call h e s at call >>= (λ v. kept v.call))
unfolding plain_call
c_plain_call h e s at call =
    complete_nested (beside (target_of h e s at call) (λ t. arguments_of h e s at (target_parameters t) 0 call.arguments)) (λ r. pure (plain_value r.0 (is_virtual h r.0.found.function) r.1)) (λ v. kept v.call)
    (beside_whole (target_of h e s at call) (λ t. arguments_of h e s at (target_parameters t) 0 call.arguments) (λ t o. plain_value t (is_virtual h t.found.function) o) (λ v. v.call) (λ t list. refl)
    (c_target h e s at call) (λ t. c_arguments h e s at (target_parameters t) 0 call.arguments))

pub c_defined : (at : ℕ) (f : FoundFunction) → IsComplete (defined at f)
c_defined at f = complete_if f.is_pure (warn rule.Abstract at f) (pure f) (complete_warn _ _ _) (complete_pure _)

pub c_named : (h : Classes) (at : ℕ) (k : ClassId) (call : CallText) → IsComplete (named_function h at k call)
unfolding named_function
c_named h at k call = complete_bind _ _ (c_function h at k call.name) (λ f. complete_bind (defined call.name.at f) (λ g. counted at (length call.arguments) g) (c_defined call.name.at f) (λ g. c_counted at (length call.arguments) g))

c_receiver : (h : Classes) (e : Setting) (s : Scene) (at : ℕ) (k : ClassId) (x : PointerText) → IsComplete (receiver_of h e s at k x)
unfolding receiver_of
c_receiver h e s at k x = complete_bind _ _ (c_pointer e s at x) (λ p. complete_bind _ _ (c_path h at p.class k) (λ path. complete_pure _))

c_passed : (h : Classes) (e : Setting) (s : Scene) (at : ℕ) (k : ClassId) (call : CallText) (f : Result FoundFunction Fault) → IsComplete (both (receiver_of h e s at k call.pointer) (arguments_of h e s at (found_parameters f) 0 call.arguments))
c_passed h e s at k call f = complete_both _ _ (c_receiver h e s at k call.pointer) (c_arguments h e s at (found_parameters f) 0 call.arguments)

c_qualified : (h : Classes) (e : Setting) (s : Scene) (at : ℕ) (call : CallText) (x : Spot) → IsComplete (qualified_call h e s at call x >>= (λ v. kept v.call))
unfolding qualified_call
c_qualified h e s at call x = complete_nested (class_of_spot h x) _ (λ v. kept v.call) (complete_bind _ _ (c_class_of h x) (λ k.
    let passed = λ (f : Result FoundFunction Fault). both (receiver_of h e s at k call.pointer) (arguments_of h e s at (found_parameters f) 0 call.arguments) in
    complete_nested (beside (named_function h at k call) passed) (λ r. pure (qualified_value r.0 r.1)) (λ v. kept v.call)
    (beside_whole (named_function h at k call) passed (λ f o. qualified_value f o) (λ v. v.call) (λ f r. refl) (c_named h at k call) (c_passed h e s at k call))))

c_call_by : (h : Classes) (e : Setting) (s : Scene) (at : ℕ) (call : CallText) (o : Option Spot) → IsComplete (call_by h e s at call o >>= (λ v. kept v.call))
c_call_by h e s at call None = c_plain_call h e s at call
c_call_by h e s at call (Some x) = c_qualified h e s at call x

-- a call has a fault, or its receiver and its arguments are typed
pub c_call : (h : Classes) (e : Setting) (s : Scene) (at : ℕ) (call : CallText) → IsComplete (call_of h e s at call >>= (λ v. kept v.call))
unfolding call_of
c_call h e s at call = c_call_by h e s at call call.class

pub c_whole_call : (h : Classes) (e : Setting) (s : Scene) (at : ℕ) (call : CallText) → IsComplete (whole_call h e s at call)
unfolding whole_call
c_whole_call h e s at call = c_call h e s at call
