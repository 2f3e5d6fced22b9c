-- What a call returns is known where its function is.
use Rattle.std.proofs.Common.{◌≡◌, ℕ, Bool, true, false, Option, Some, None, Result, Ok, Err, List, length, refl, ◌∙◌, ap}
use Rattle.std.specs.Prelude.{if◌then◌else◌, nat_eq}
use Rattle.cxx_hierarchy.specs.declared.records.ClassId.{ClassId}
use Rattle.cxx_hierarchy.specs.declared.records.ValueType.{ValueType}
use Rattle.cxx_hierarchy.specs.declared.records.ReturnType.{ReturnType}
use Rattle.cxx_hierarchy.specs.declared.records.ReturnType.TheVariants as returns
use Rattle.cxx_hierarchy.specs.declared.stop.Rule.{Rule}
use Rattle.cxx_hierarchy.specs.declared.stop.Rule.TheVariants as rule
use Rattle.cxx_hierarchy.specs.Classes.{Classes}
use Rattle.cxx_overrider.specs.Virtuals.{is_virtual}
use Rattle.cxx_syntax.specs.declared.tree.Spot.{Spot}
use Rattle.cxx_syntax.specs.declared.tree.CallText.{CallText}
use Rattle.cxx_syntax.specs.declared.tree.Right.TheVariants as right
use Rattle.cxx_program.specs.declared.operand.Argument.{Argument}
use Rattle.cxx_program.specs.declared.operand.Conversion.{Conversion}
use Rattle.cxx_program.specs.declared.statement.TypedCall.{TypedCall}
use Rattle.cxx_program.specs.declared.statement.TypedRight.{TypedRight}
use Rattle.cxx_expression.specs.declared.faults.Fault.{Fault}
use Rattle.cxx_expression.specs.declared.scene.Scene.{Scene}
use Rattle.cxx_expression.specs.declared.scene.Setting.{Setting}
use Rattle.cxx_expression.specs.declared.typed.Pointer.{Pointer}
use Rattle.cxx_expression.specs.declared.typed.FoundFunction.{FoundFunction}
use Rattle.cxx_expression.specs.declared.typed.Target.{Target}
use Rattle.cxx_expression.specs.declared.typed.Receiver.{Receiver}
use Rattle.cxx_expression.specs.declared.typed.CallValue.{CallValue}
use Rattle.cxx_expression.specs.declared.typed.RightValue.{RightValue}
use Rattle.cxx_expression.specs.Checked.{Checked, pure, warn, ◌>>=◌, then_typed, then_faults, with_outcome, both, beside, kept, where_typed}
use Rattle.cxx_expression.specs.Values.{pointer_of, class_of_spot, conversion_of}
use Rattle.cxx_expression.specs.Calls.{function_of, counted, target, target_of, arguments_of, target_parameters, plain_value, plain_call, defined, named_function, receiver_of, found_parameters, qualified_value, qualified_call, call_by, call_of, whole_call}
use Rattle.cxx_expression.specs.Rights.{result_value, as_result, call_right, right_of, converted, converted_value, converted_right}
use Rattle.cxx_expression.specs.Laws.{class_asked, result_in, result_known, result_faults, ResultsAreAsked}

-- the piece is typed, to something that returns this
record Returns {X : Type 0} (returned : X → ReturnType ClassId) (o : Result X Fault) (r : ReturnType ClassId) : Type 0 where
  value : X
  there : o ≡ Ok value
  same : returned value ≡ r

abbrev function_returns : FoundFunction → ReturnType ClassId
function_returns f = f.returns

abbrev target_returns : Target → ReturnType ClassId
target_returns t = t.found.returns

abbrev call_returns : CallValue → ReturnType ClassId
call_returns v = v.returns

-- a wrong count of arguments and a pure function are faults, and the function is known all the same

unless_noted : (t : Bool) (r : Rule) (at : ℕ) (f : FoundFunction) → (if t then pure f else warn r at f).typed ≡ Ok f
unless_noted true r at f = refl
unless_noted false r at f = refl

if_noted : (t : Bool) (r : Rule) (at : ℕ) (f : FoundFunction) → (if t then warn r at f else pure f).typed ≡ Ok f
if_noted true r at f = refl
if_noted false r at f = refl

counted_known : (at n : ℕ) (f : FoundFunction) → (counted at n f).typed ≡ Ok f
counted_known at n f = unless_noted (nat_eq n (length f.parameters)) rule.TypeMismatch at f

-- a call without a class before `::`

target_known : (at n : ℕ) (p : Pointer) (o : Result FoundFunction Fault) (r : ReturnType ClassId) → where_typed function_returns o ≡ Ok r → Returns target_returns (then_typed o (λ f. counted at n f >>= (λ g. pure (target p g)))) r
target_known at n p (Err f) r is = absurd (cc)
target_known at n p (Ok f) r is = record { value = target p f; there = ap (λ (o : Result FoundFunction Fault). then_typed o (λ g. pure (target p g))) (counted_known at n f); same = cc }

pointer_known : (h : Classes) (at n : ℕ) (name : Spot) (o : Result Pointer Fault) (r : ReturnType ClassId) → result_in h at name (where_typed (λ (p : Pointer). p.class) o) ≡ Ok r →
    Returns target_returns (then_typed o (λ p. function_of h at p.class name >>= (λ f. counted at n f >>= (λ g. pure (target p g))))) r
pointer_known h at n name (Err f) r is = absurd (cc)
pointer_known h at n name (Ok p) r is = target_known at n p (function_of h at p.class name).typed r is

plain_by : (h : Classes) (o : Result Target Fault) (arguments : Result (List Argument) Fault) (r : ReturnType ClassId) → Returns target_returns o r →
    Returns call_returns (then_typed (with_outcome o arguments) (λ x. pure (plain_value x.0 (is_virtual h x.0.found.function) x.1))) r
plain_by h o arguments r i = record {
  value = plain_value i.value (is_virtual h i.value.found.function) arguments;
  there = ap (λ (q : Result Target Fault). then_typed (with_outcome q arguments) (λ x. pure (plain_value x.0 (is_virtual h x.0.found.function) x.1))) i.there;
  same = i.same;
}

plain_known : (h : Classes) (e : Setting) (s : Scene) (at : ℕ) (call : CallText) (r : ReturnType ClassId) → result_in h at call.name (class_asked h e s at call.pointer None) ≡ Ok r → Returns call_returns (plain_call h e s at call).typed r
unfolding plain_call target_of
plain_known h e s at call r is =
    let t = target_of h e s at call in
    plain_by h t.typed (arguments_of h e s at (target_parameters t.typed) 0 call.arguments).typed r (pointer_known h at (length call.arguments) call.name (pointer_of e s at call.pointer).typed r is)

-- a call with one

named_known : (at name_at n : ℕ) (o : Result FoundFunction Fault) (r : ReturnType ClassId) → where_typed function_returns o ≡ Ok r → Returns function_returns (then_typed o (λ f. defined name_at f >>= (λ g. counted at n g))) r
named_known at name_at n (Err f) r is = absurd (cc)
named_known at name_at n (Ok f) r is = record {
  value = f;
  there = ap (λ (o : Result FoundFunction Fault). then_typed o (λ g. counted at n g)) (if_noted f.is_pure rule.Abstract name_at f) ∙ counted_known at n f;
  same = cc;
}

qualified_by : (o : Result FoundFunction Fault) (passed : Result (Receiver × List Argument) Fault) (r : ReturnType ClassId) → Returns function_returns o r → Returns call_returns (then_typed (with_outcome o passed) (λ x. pure (qualified_value x.0 x.1))) r
qualified_by o passed r i = record {
  value = qualified_value i.value passed;
  there = ap (λ (q : Result FoundFunction Fault). then_typed (with_outcome q passed) (λ x. pure (qualified_value x.0 x.1))) i.there;
  same = i.same;
}

class_known : (h : Classes) (e : Setting) (s : Scene) (at : ℕ) (call : CallText) (o : Result ClassId Fault) (r : ReturnType ClassId) → result_in h at call.name o ≡ Ok r →
    Returns call_returns (then_typed o (λ k. beside (named_function h at k call) (λ f. both (receiver_of h e s at k call.pointer) (arguments_of h e s at (found_parameters f) 0 call.arguments)) >>= (λ x. pure (qualified_value x.0 x.1)))) r
unfolding named_function
class_known h e s at call (Err f) r is = absurd (cc)
class_known h e s at call (Ok k) r is =
    let f = named_function h at k call in
    qualified_by f.typed (both (receiver_of h e s at k call.pointer) (arguments_of h e s at (found_parameters f.typed) 0 call.arguments)).typed r (named_known at call.name.at (length call.arguments) (function_of h at k call.name).typed r is)

qualified_known : (h : Classes) (e : Setting) (s : Scene) (at : ℕ) (call : CallText) (x : Spot) (r : ReturnType ClassId) → result_in h at call.name (class_asked h e s at call.pointer (Some x)) ≡ Ok r → Returns call_returns (qualified_call h e s at call x).typed r
unfolding qualified_call
qualified_known h e s at call x r is = class_known h e s at call (class_of_spot h x).typed r is

-- a call of either kind

known_by : (h : Classes) (e : Setting) (s : Scene) (at : ℕ) (call : CallText) (o : Option Spot) (r : ReturnType ClassId) → result_in h at call.name (class_asked h e s at call.pointer o) ≡ Ok r → Returns call_returns (call_by h e s at call o).typed r
known_by h e s at call None r is = plain_known h e s at call r is
known_by h e s at call (Some x) r is = qualified_known h e s at call x r is

call_known : (h : Classes) (e : Setting) (s : Scene) (at : ℕ) (call : CallText) (r : ReturnType ClassId) → result_known h e s at call ≡ Ok r → Returns call_returns (call_of h e s at call).typed r
unfolding call_of
call_known h e s at call r is = known_by h e s at call call.class r is

-- its result

returned : (v : CallValue) (r : ReturnType ClassId) → Returns call_returns (Ok v) r → v.returns ≡ r
returned v r i = let there = i.there in let same = i.same in cc

no_fault : (o : Result Conversion Fault) (right : Result TypedRight Fault) (b : List Fault) → then_faults o (λ c. kept right >>= (λ x. pure (converted x c))) b ≡ b
no_fault (Err e) right b = refl
no_fault (Ok c) (Err e) b = refl
no_fault (Ok c) (Ok x) b = refl

conversion_faults : (h : Classes) (at : ℕ) (to : ValueType ClassId) (v : RightValue) (b : List Fault) → (converted_value h at to v).faults b ≡ (conversion_of h at v.ty v.is_null to).faults b
unfolding converted_value
conversion_faults h at to v b = let c = conversion_of h at v.ty v.is_null to in no_fault c.typed v.right (c.faults b)

-- what is asked of the right side is its conversion
abbrev pub Takes : {X : Type 0} → Classes → ℕ → ValueType ClassId → (RightValue → Checked X) → Type 0
Takes h at to next = (v : RightValue) (b : List Fault) → (next v).faults b ≡ (converted_value h at to v).faults b

result_by : {X : Type 0} (h : Classes) (at : ℕ) (r : ReturnType ClassId) (to : ValueType ClassId) (next : RightValue → Checked X) → Takes h at to next → (call : Result TypedCall Fault) (b : List Fault) →
    then_faults (as_result at call r).typed next ((as_result at call r).faults b) ≡ result_faults h at r to b
result_by h at returns.Void to next takes call b = refl
result_by h at (returns.Value from) to next takes call b = takes (result_value call from) b ∙ conversion_faults h at to (result_value call from) b

taken_by : {X : Type 0} (h : Classes) (at : ℕ) (r : ReturnType ClassId) (to : ValueType ClassId) (next : RightValue → Checked X) → Takes h at to next → (o : Result CallValue Fault) (b : List Fault) → Returns call_returns o r →
    then_faults (then_typed o (λ v. as_result at v.call v.returns)) next (then_faults o (λ v. as_result at v.call v.returns) b) ≡ result_faults h at r to (then_faults o (λ v. kept v.call) b)
taken_by h at r to next takes (Err f) b i = let there = i.there in absurd (cc)
taken_by h at r to next takes (Ok v) b i =
    ap (λ (x : ReturnType ClassId). then_faults (as_result at v.call x).typed next ((as_result at v.call x).faults b)) (returned v r i) ∙ result_by h at r to next takes v.call b

-- the faults of a call that is taken, and behind them those of its result
pub call_taken : {X : Type 0} (h : Classes) (e : Setting) (s : Scene) (at : ℕ) (text : CallText) (r : ReturnType ClassId) (to : ValueType ClassId) (next : RightValue → Checked X) → Takes h at to next → (b : List Fault) → result_known h e s at text ≡ Ok r →
    then_faults (right_of h e s at (right.Call text)).typed next ((right_of h e s at (right.Call text)).faults b) ≡ result_faults h at r to ((whole_call h e s at text).faults b)
unfolding right_of call_right whole_call
call_taken h e s at text r to next takes b is = let c = call_of h e s at text in taken_by h at r to next takes c.typed (c.faults b) (call_known h e s at text r is)

result_asked : (h : Classes) (e : Setting) (s : Scene) (at : ℕ) (text : CallText) (r : ReturnType ClassId) (to : ValueType ClassId) (b : List Fault) → result_known h e s at text ≡ Ok r →
    (converted_right h e s at to (right.Call text)).faults b ≡ result_faults h at r to ((whole_call h e s at text).faults b)
unfolding converted_right
result_asked h e s at text r to b is = call_taken h e s at text r to (converted_value h at to) (λ v c. refl) b is

pub results_are_asked : ResultsAreAsked
results_are_asked = record { asked = result_asked }
