-- The result of a call is asked by the statement that takes it.
use Rattle.std.proofs.Common.{◌≡◌, ℕ, Some, Result, Ok, Err, List, length, refl, ◌∙◌, ap}
use Rattle.cxx_hierarchy.specs.declared.records.ClassId.{ClassId}
use Rattle.cxx_hierarchy.specs.declared.records.ValueType.{ValueType}
use Rattle.cxx_hierarchy.specs.declared.records.ReturnType.{ReturnType}
use Rattle.cxx_hierarchy.specs.NameTables.{Text}
use Rattle.cxx_hierarchy.specs.Classes.{Classes}
use Rattle.cxx_syntax.specs.declared.tree.Spot.{Spot}
use Rattle.cxx_syntax.specs.declared.tree.CallText.{CallText}
use Rattle.cxx_syntax.specs.declared.tree.Right.TheVariants as right
use Rattle.cxx_program.specs.declared.operand.Variable.{Variable}
use Rattle.cxx_program.specs.declared.statement.TypedKind.TheVariants as typed
use Rattle.cxx_expression.specs.declared.faults.Fault.{Fault}
use Rattle.cxx_expression.specs.declared.scene.Scene.{Scene}
use Rattle.cxx_expression.specs.declared.scene.Setting.{Setting}
use Rattle.cxx_expression.specs.declared.typed.RightValue.{RightValue}
use Rattle.cxx_expression.specs.Checked.{Checked, pure, ◌>>=◌, then_faults, pair_of}
use Rattle.cxx_expression.specs.Scenes.{with_variable}
use Rattle.cxx_expression.specs.Values.{variable_of}
use Rattle.cxx_expression.specs.Calls.{whole_call}
use Rattle.cxx_expression.specs.Rights.{right_of, converted_value, converted_right}
use Rattle.cxx_expression.specs.Laws.{result_known, result_faults, ResultsAreAsked}
use Rattle.cxx_expression.proofs.Results.{call_taken}
use Rattle.cxx_resolve.specs.Statements.{new_variable, first_value, declare_of, with_scene, assign_of}
use Rattle.cxx_resolve.specs.Results.{ResultsAreTaken}

no_fault : {X Y : Type 0} (o : Result X Fault) (f : X → Y) (b : List Fault) → then_faults o (λ x. pure (f x)) b ≡ b
no_fault (Err e) f b = refl
no_fault (Ok x) f b = refl

second_faults : {X Y Z : Type 0} (x : X) (o : Result Y Fault) (next : X × Y → Checked Z) (b : List Fault) → then_faults (pair_of (Ok x) o) next b ≡ then_faults o (λ y. next (x, y)) b
second_faults x (Err e) next b = refl
second_faults x (Ok y) next b = refl

assigned_taken : (h : Classes) (e : Setting) (s : Scene) (at : ℕ) (x : Spot) (text : CallText) (b : List Fault) (v : Variable × ValueType ClassId) (r : ReturnType ClassId) →
    (variable_of e s x).typed ≡ Ok v → result_known h e s at text ≡ Ok r →
    (assign_of h e s at x (right.Call text)).faults b ≡ result_faults h at r v.1 ((whole_call h e s at text).faults ((variable_of e s x).faults b))
unfolding assign_of
assigned_taken h e s at x text b v r there is =
    let q = right_of h e s at (right.Call text) in
    let next = λ (p : (Variable × ValueType ClassId) × RightValue). converted_value h at p.0.1 p.1 >>= (λ c. pure (typed.Assign p.0.0 c)) in
    let asked = (variable_of e s x).faults b in
    ap (λ (o : Result (Variable × ValueType ClassId) Fault). then_faults (pair_of o q.typed) next (q.faults asked)) there
    ∙ second_faults v q.typed next (q.faults asked)
    ∙ call_taken h e s at text r v.1 (λ y. next (v, y)) (λ y c. let p = converted_value h at v.1 y in no_fault p.typed (typed.Assign v.0) (p.faults c)) asked is

first_taken : ResultsAreAsked → (h : Classes) (e : Setting) (s : Scene) (at : ℕ) (t : ValueType ClassId) (n : ℕ) (text : CallText) (b : List Fault) (r : ReturnType ClassId) → result_known h e s at text ≡ Ok r →
    (first_value h e s at t n (Some (right.Call text))).faults b ≡ result_faults h at r t ((whole_call h e s at text).faults b)
unfolding first_value
first_taken law h e s at t n text b r is =
    let c = converted_right h e s at t (right.Call text) in
    no_fault c.typed (λ y. typed.Declare n (Some y)) (c.faults b) ∙ law.asked h e s at text r t b is

declared_taken : ResultsAreAsked → (h : Classes) (e : Setting) (s : Scene) (at : ℕ) (ty : ValueType Text) (ty_at : ℕ) (x : Spot) (text : CallText) (b : List Fault) (t : ValueType ClassId) (r : ReturnType ClassId) →
    (new_variable h s ty ty_at x).typed ≡ Ok t → result_known h e (with_variable s x.name t) at text ≡ Ok r →
    (declare_of h e s at ty ty_at x (Some (right.Call text))).faults b ≡ result_faults h at r t ((whole_call h e (with_variable s x.name t) at text).faults ((new_variable h s ty ty_at x).faults b))
unfolding declare_of
declared_taken law h e s at ty ty_at x text b t r there is =
    let asked = (new_variable h s ty ty_at x).faults b in
    let first = λ (u : ValueType ClassId). first_value h e (with_variable s x.name u) at u (length s.types) (Some (right.Call text)) in
    ap (λ (o : Result (ValueType ClassId) Fault). then_faults o (λ u. first u >>= (λ k. pure (with_scene (with_variable s x.name u) k))) asked) there
    ∙ no_fault (first t).typed (with_scene (with_variable s x.name t)) ((first t).faults asked)
    ∙ first_taken law h e (with_variable s x.name t) at t (length s.types) text asked r is

pub results_are_taken : ResultsAreAsked → ResultsAreTaken
results_are_taken law = record { assigned = assigned_taken; declared = declared_taken law }
