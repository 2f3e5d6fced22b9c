-- The result of two numbers: that no rule refuses it, and the step that assigns it.
use Rattle.std.proofs.Common.{◌≡◌, ℕ, true, false, Option, Some, None, List, [], ◌∷◌, refl, subst, sym}
use Rattle.std.specs.Prelude.{ℤ, IfSome}
use Rattle.cxx_hierarchy.specs.declared.records.ClassId.{ClassId}
use Rattle.cxx_hierarchy.specs.declared.records.Scalar.{Scalar}
use Rattle.cxx_hierarchy.specs.Classes.{Classes}
use Rattle.cxx_program.specs.declared.operand.TypedOperand.{TypedOperand}
use Rattle.cxx_program.specs.declared.operand.Variable.{Variable}
use Rattle.cxx_program.specs.declared.program.TypedProgram.{TypedProgram}
use Rattle.cxx_program.specs.declared.statement.Arithmetic.{Arithmetic as Operator}
use Rattle.cxx_program.specs.declared.statement.Converted.{Converted}
use Rattle.cxx_program.specs.declared.statement.TypedRight.TheVariants.{Arithmetic}
use Rattle.cxx_program.specs.declared.statement.TypedKind.{TypedKind}
use Rattle.cxx_program.specs.declared.statement.TypedKind.TheVariants.{Assign}
use Rattle.cxx_program.specs.declared.statement.TypedStatement.{TypedStatement}
use Rattle.path_rules.specs.declared.Undefined.{Undefined}
use Rattle.path_model.specs.Values.{Value, Number, Objects, Sight, value_of_operand, converted_to}
use Rattle.path_model.specs.Uses.{Reads, Overflows, right_uses}
use Rattle.path_model.specs.Rules.{refused, is_clear, overflows, statement_refusal}
use Rattle.path_model.specs.States.{RunningBody, Frame, InBody, ProgramState, at_statement, sight, wanted_result, with_frames}
use Rattle.path_model.specs.Effects.{arithmetic_value, kind_effect, right_side_value}
use Rattle.path_model.specs.Runs.{move_by, limit_of, demand_of}
use Rattle.path_model.specs.Steps.{step_of_statement, unless}
use Rattle.path_heap.specs.declared.state.Value.{Value as ValueCode}
use Rattle.path_heap.specs.declared.heap.Heap.{Heap}
use Rattle.path_heap.specs.Stands.{Means}
use Rattle.path_values.specs.Held.{HoldsResult}
use Rattle.path_values.specs.declared.scene.Scene.{Scene}
use Rattle.path_values.specs.Scenes.{SceneStands}
use Rattle.path_machine.specs.declared.frames.BodyFrame.{BodyFrame}
use Rattle.path_machine.specs.declared.machine.Machine.{Machine}
use Rattle.path_machine.specs.declared.next.Next.{Next as NextCode}
use Rattle.path_machine.specs.declared.telling.Telling.{Telling}
use Rattle.path_machine.specs.invariants.Setups.{is_plain}
use Rattle.path_machine.specs.invariants.Steps.{IsTaken, MoveAgrees}
use Rattle.path_machine.specs.invariants.NumberSteps.{IsResultOf, IsResultFor, TakesResult, PutsValue}
use Rattle.path_refusals.proofs.Refused.{goes_on}
use Rattle.path_refusals.proofs.Reading.{over_is}
use Rattle.path_machine.proofs.Effecting.{plain_agrees}
use Rattle.path_machine.proofs.Tellings.{nothing_more}

reads_clear : (h : Classes) (s : Objects) (a b : ℤ) → None ≡ refused h s (Reads (Number a) ∷ Reads (Number b) ∷ [])
unfolding refused
reads_clear h s a b = refl

numbers_clear : (h : Classes) (s : Objects) (op : Operator) (t : Scalar) (a b : ℤ) → overflows op t (Number a) (Number b) ≡ false → refused h s (Reads (Number a) ∷ Reads (Number b) ∷ Overflows op t (Number a) (Number b) ∷ []) ≡ None
numbers_clear h s op t a b e = sym (goes_on h s (Reads (Number a) ∷ Reads (Number b) ∷ []) (Overflows op t (Number a) (Number b) ∷ []) None (reads_clear h s a b) (sym (over_is h s op t (Number a) (Number b) false e)))

-- two numbers whose result their type holds break no rule
pub held_clear : (h : Classes) (s : Objects) (op : Operator) (t : Scalar) (v w : Value) (code : ValueCode) → HoldsResult h s.classes op t v w code → refused h s (Reads v ∷ Reads w ∷ Overflows op t v w ∷ []) ≡ None
held_clear h s op t v w code held =
    let a = held.first in
    let b = held.second in
    let fits : overflows op t (Number a) (Number b) ≡ false = subst (λ k. overflows op t (Number a) k ≡ false) held.second_is (subst (λ k. overflows op t k w ≡ false) held.first_is held.fits) in
    subst (λ k. refused h s (Reads k ∷ Reads w ∷ Overflows op t k w ∷ []) ≡ None) (sym held.first_is)
    (subst (λ k. refused h s (Reads (Number a) ∷ Reads k ∷ Overflows op t (Number a) k ∷ []) ≡ None) (sym held.second_is) (numbers_clear h s op t a b fits))

pub some_more : {X : Type 0} (P Q : X → Type 0) → ((x : X) → P x → Q x) → (o : Option X) → IfSome o P → IfSome o Q
some_more P Q f None a = a
some_more P Q f (Some x) a = f x a

-- a right side that is such a result, converted
pub calculated : (scene : Scene) (x : Converted) (op : Operator) (t : Scalar) (a b : TypedOperand) (left right code given : ValueCode) → x.right ≡ Arithmetic op t a b →
    ((h : Classes) (heap : Heap) (s : Sight) → SceneStands h heap scene s → Means h s.objects.classes left (value_of_operand s a)) → ((h : Classes) (heap : Heap) (s : Sight) → SceneStands h heap scene s → Means h s.objects.classes right (value_of_operand s b)) →
    ((h : Classes) (classes : List ClassId) (v w : Value) → Means h classes left v → Means h classes right w → HoldsResult h classes op t v w code) → ((h : Classes) (classes : List ClassId) (w : Value) → Means h classes code w → Means h classes given (converted_to w x.conversion)) →
    IsResultOf scene x given
calculated scene x op t a b left right code given is first second held converts = record {
  plain = subst (λ r. is_plain r ≡ true) (sym is) refl;
  clear = λ h heap s stands.
      subst (λ r. refused h s.objects (right_uses h (is_clear h s.objects) s r x.conversion) ≡ None) (sym is)
      (held_clear h s.objects op t (value_of_operand s a) (value_of_operand s b) code (held h s.objects.classes (value_of_operand s a) (value_of_operand s b) (first h heap s stands) (second h heap s stands)));
  means = λ h heap s stands.
      subst (λ r. Means h s.objects.classes given (converted_to (right_side_value h s r) x.conversion)) (sym is)
      (converts h s.objects.classes (arithmetic_value op t (value_of_operand s a) (value_of_operand s b)) (held h s.objects.classes (value_of_operand s a) (value_of_operand s b) (first h heap s stands) (second h heap s stands)).means);
}

-- what is seen by the scene is seen by the frame
pub taken_by : (machine : Machine) (frame : BodyFrame) (scene : Scene) (kind : TypedKind) (variable : Variable) (code : ValueCode) →
    ((h : Classes) (sizes : ClassId → ℕ) (program : TypedProgram) (s : ProgramState) (f : RunningBody) (below : List Frame) → IsTaken h sizes program machine frame s f below → SceneStands h machine.heap scene (sight s f)) →
    IsResultFor scene kind variable code → TakesResult machine frame kind variable code
taken_by machine frame scene kind variable code sees a = record {
  side = a.side;
  is = a.is;
  plain = a.number.plain;
  clear = λ h sizes program s f below t. a.number.clear h machine.heap (sight s f) (sees h sizes program s f below t);
  means = λ h sizes program s f below t. a.number.means h machine.heap (sight s f) (sees h sizes program s f below t);
}

-- a statement of this kind, which this rule refuses or none
abbrev Stepped : Classes → (ClassId → ℕ) → TypedProgram → ProgramState → RunningBody → List Frame → TypedStatement → Machine → Telling → NextCode → TypedKind → Option Undefined → Type 0
Stepped h sizes program s f below statement new outs code kind rule =
    MoveAgrees h sizes program (move_by (unless rule statement.line (kind_effect h program (sight s f) (with_frames s (InBody (at_statement f statement.next) ∷ below)) f below f.next statement.next kind)) (limit_of sizes (with_frames s (InBody f ∷ below)) (demand_of (sight s f) kind))) new outs outs code

-- the step of a statement that assigns such a result
pub number_does : (h : Classes) (sizes : ClassId → ℕ) (program : TypedProgram) (machine new : Machine) (frame : BodyFrame) (s : ProgramState) (f : RunningBody) (below : List Frame) (statement : TypedStatement) (variable : Variable) (value : ValueCode) (outs : Telling) (code : NextCode) →
    IsTaken h sizes program machine frame s f below → TakesResult machine frame statement.kind variable value → PutsValue machine new frame statement.next variable value code →
    MoveAgrees h sizes program (move_by (step_of_statement h program s f below f.next statement) (limit_of sizes (with_frames s (InBody f ∷ below)) (demand_of (sight s f) statement.kind))) new outs outs code
number_does h sizes program machine new frame s f below statement variable value outs code t takes puts =
    let see = sight s f in
    let at = with_frames s (InBody f ∷ below) in
    let on = with_frames s (InBody (at_statement f statement.next) ∷ below) in
    let x = takes.side in
    let stands = puts.stands h sizes program s f below (converted_to (right_side_value h see x.right) x.conversion) t (takes.means h sizes program s f below t) in
    let goes = plain_agrees h sizes program new see on at variable x.right x.conversion outs outs code takes.plain (puts.goes, stands, nothing_more outs) in
    subst (λ k. Stepped h sizes program s f below statement new outs code k (statement_refusal h see (wanted_result f) k)) (sym takes.is)
    (subst (λ r. Stepped h sizes program s f below statement new outs code (Assign variable x) r) (sym (takes.clear h sizes program s f below t)) goes)
