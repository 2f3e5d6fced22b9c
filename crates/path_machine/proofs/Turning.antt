-- A turn of the machine, by what the step of the frame on top came to.
use Rattle.std.proofs.Common.{◌≡◌, ◌<◌, ◌≤◌, ℕ, ◌+◌, Some, None, List, [], ◌∷◌, refl, ap, subst, sym, ◌∙◌, arith}
use Rattle.cxx_hierarchy.specs.declared.records.ClassId.{ClassId}
use Rattle.cxx_hierarchy.specs.Classes.{Classes}
use Rattle.cxx_hierarchy.specs.declared.stop.LimitNo.{LimitNo}
use Rattle.path_rules.specs.declared.Undefined.{Undefined}
use Rattle.cxx_program.specs.declared.program.TypedProgram.{TypedProgram}
use Rattle.path_model.specs.declared.outs.Turn.{Turn}
use Rattle.path_model.specs.declared.outs.Turn.TheVariants.{Went, Ended, Refused, OutOfSteps as IsOutOfSteps, Limit}
use Rattle.path_plan.specs.Phases.{PartEvent}
use Rattle.path_plan.specs.Views.{Fits}
use Rattle.cxx_overrider.specs.Faults.{HasNoFault}
use Rattle.path_model.specs.Typed.{AllSettled}
use Rattle.path_model.specs.TypedStates.{IsTypedState}
use Rattle.path_model.specs.States.{RunningBody, Planned, Frame, InBody, InPlan}
use Rattle.path_model.specs.Runs.{Move, Moves, IsRefused, IsLimited, IsOver, IsWrong, Ran, move, run_of, state_at, outs_at, outs_in}
use Rattle.path_tables.specs.Asked.{AreAnswers}
use Rattle.path_tables.specs.declared.asked.Answers.{Answers}
use Rattle.path_machine.specs.declared.machine.Machine.{Machine}
use Rattle.path_machine.specs.Machines.{MachineStands}
use Rattle.path_machine.specs.declared.state.PathState.{PathState}
use Rattle.path_machine.specs.declared.next.Next.{Next as NextCode}
use Rattle.path_machine.specs.declared.next.Next.TheVariants.{Goes as GoesCode, Refuses as RefusesCode, Limited, Ends as EndsCode, Wrong as WrongCode}
use Rattle.path_machine.specs.Turns.{IsAtStep, IsInRun, TurnAgrees, ending_of, ended_with}
use Rattle.path_machine.specs.invariants.Ends.{step_counted, Steps, EndsRun, Leaves, HasMoved, IsFinished}
use Rattle.path_machine.specs.invariants.Setups.{IsStateNext}
use Rattle.path_machine.specs.invariants.Steps.{MoveAgrees}
use Rattle.path_machine.proofs.Running.{GoesOn, ran, runs_longer, state_is, spent, ended_by}
use Rattle.path_machine.specs.declared.telling.Telling.{Telling}
use Rattle.path_machine.specs.Tellings.{TellsMore}

-- the machine after a step that is not counted yet
abbrev pub moved : PathState → Machine → Answers → PathState
moved before machine answers = record { machine = machine; answers = answers; taken = before.taken; budget = before.budget; end = before.end; failed = before.failed }

steps_by : (h : Classes) (sizes : ClassId → ℕ) (program : TypedProgram) (before : PathState) (machine : Machine) (answers : Answers) (told telling : Telling) (m : Move) → move h sizes program (state_at h sizes program before.taken) ≡ m → (m ≡ IsWrong → ⊥) →
    IsAtStep h sizes program before → before.taken < before.budget → AreAnswers h answers → MoveAgrees h sizes program m machine told telling GoesCode → Steps h sizes program before (moved before machine answers) told telling
steps_by h sizes program before machine answers told telling (IsRefused rule line) is right a lt right_answers g = absurd (let f : GoesCode ≡ RefusesCode rule line = g.0 in cc)
steps_by h sizes program before machine answers told telling (IsLimited limit) is right a lt right_answers g = absurd (let f : GoesCode ≡ Limited limit = g.0 in cc)
steps_by h sizes program before machine answers told telling IsOver is right a lt right_answers g = absurd (let f : GoesCode ≡ EndsCode = g.0 in cc)
steps_by h sizes program before machine answers told telling IsWrong is right a lt right_answers g = absurd (right refl)
steps_by h sizes program before machine answers told telling (Moves s outs) is right a lt right_answers (same, stands, tells) = record {
  at = record {
    machine_stands = subst (MachineStands h sizes program machine) (sym (state_is h sizes program before.taken s outs is)) stands;
    running = runs_longer h sizes program before.taken s outs a.running is;
    within = omega arith;
    few = a.few;
    answers_right = right_answers;
  };
  tells = subst (λ m. TellsMore told telling (outs_in m)) (sym is) tells;
}

-- a step that was taken
steps : (h : Classes) (sizes : ClassId → ℕ) (program : TypedProgram) (before : PathState) (machine : Machine) (answers : Answers) (told telling : Telling) (next : NextCode) → next ≡ GoesCode → (move h sizes program (state_at h sizes program before.taken) ≡ IsWrong → ⊥) →
    IsAtStep h sizes program before → before.taken < before.budget → AreAnswers h answers → MoveAgrees h sizes program (move h sizes program (state_at h sizes program before.taken)) machine told telling next → Steps h sizes program before (moved before machine answers) told telling
steps h sizes program before machine answers told telling next same right a lt right_answers g =
    steps_by h sizes program before machine answers told telling (move h sizes program (state_at h sizes program before.taken)) refl right a lt right_answers (subst (MoveAgrees h sizes program (move h sizes program (state_at h sizes program before.taken)) machine told telling) same g)

-- no step goes wrong
wrong_never : (h : Classes) (sizes : ClassId → ℕ) (program : TypedProgram) (machine : Machine) (told telling : Telling) (m : Move) (next : NextCode) → next ≡ WrongCode → (m ≡ IsWrong → ⊥) → MoveAgrees h sizes program m machine told telling next → ⊥
wrong_never h sizes program machine told telling (IsRefused rule line) next same right g = let f : WrongCode ≡ RefusesCode rule line = sym same ∙ g.0 in cc
wrong_never h sizes program machine told telling (IsLimited limit) next same right g = let f : WrongCode ≡ Limited limit = sym same ∙ g.0 in cc
wrong_never h sizes program machine told telling IsOver next same right g = let f : WrongCode ≡ EndsCode = sym same ∙ g.0 in cc
wrong_never h sizes program machine told telling IsWrong next same right g = right refl
wrong_never h sizes program machine told telling (Moves s outs) next same right g = let f : WrongCode ≡ GoesCode = sym same ∙ g.0 in cc

none_more : (k : ℕ) → k ≡ k + 0
none_more k = omega arith

-- the budget is spent
pub no_steps : (h : Classes) (sizes : ClassId → ℕ) (program : TypedProgram) (before : PathState) (told : Telling) → GoesOn h sizes program → IsAtStep h sizes program before → before.budget ≤ before.taken → EndsRun h sizes program before IsOutOfSteps 0 told told
no_steps h sizes program before told goes a le = record { run = spent h sizes program before.taken before.budget goes a.running a.within le ∙ ap (ran (outs_at h sizes program before.taken) (ending_of IsOutOfSteps)) (none_more before.taken); same = refl }

-- the run is over
overs : (h : Classes) (sizes : ClassId → ℕ) (program : TypedProgram) (before : PathState) (machine : Machine) (told telling : Telling) (m : Move) (next : NextCode) → move h sizes program (state_at h sizes program before.taken) ≡ m → next ≡ EndsCode → (m ≡ IsWrong → ⊥) →
    GoesOn h sizes program → IsAtStep h sizes program before → before.taken < before.budget → MoveAgrees h sizes program m machine told telling next → EndsRun h sizes program before Ended 1 told telling
overs h sizes program before machine told telling (IsRefused rule line) next is same right goes a lt g = absurd (let f : EndsCode ≡ RefusesCode rule line = sym same ∙ g.0 in cc)
overs h sizes program before machine told telling (IsLimited limit) next is same right goes a lt g = absurd (let f : EndsCode ≡ Limited limit = sym same ∙ g.0 in cc)
overs h sizes program before machine told telling IsWrong next is same right goes a lt g = absurd (right refl)
overs h sizes program before machine told telling (Moves s outs) next is same right goes a lt g = absurd (let f : EndsCode ≡ GoesCode = sym same ∙ g.0 in cc)
overs h sizes program before machine told telling IsOver next is same right goes a lt g = record { run = ended_by h sizes program before.taken before.budget IsOver (ending_of Ended) 1 goes a.running lt is (λ rest. refl); same = g.1 }

-- a rule refuses the step
refuses : (h : Classes) (sizes : ClassId → ℕ) (program : TypedProgram) (before : PathState) (machine : Machine) (told telling : Telling) (m : Move) (next : NextCode) (rule : Undefined) (line : ℕ) → move h sizes program (state_at h sizes program before.taken) ≡ m → next ≡ RefusesCode rule line → (m ≡ IsWrong → ⊥) →
    GoesOn h sizes program → IsAtStep h sizes program before → before.taken < before.budget → MoveAgrees h sizes program m machine told telling next → EndsRun h sizes program before (Refused rule line) 0 told telling
refuses h sizes program before machine told telling (IsLimited limit) next rule line is same right goes a lt g = absurd (let f : RefusesCode rule line ≡ Limited limit = sym same ∙ g.0 in cc)
refuses h sizes program before machine told telling IsOver next rule line is same right goes a lt g = absurd (let f : RefusesCode rule line ≡ EndsCode = sym same ∙ g.0 in cc)
refuses h sizes program before machine told telling IsWrong next rule line is same right goes a lt g = absurd (right refl)
refuses h sizes program before machine told telling (Moves s outs) next rule line is same right goes a lt g = absurd (let f : RefusesCode rule line ≡ GoesCode = sym same ∙ g.0 in cc)
refuses h sizes program before machine told telling (IsRefused rule2 line2) next rule line is same right goes a lt g =
    let f : RefusesCode rule line ≡ RefusesCode rule2 line2 = sym same ∙ g.0 in
    let e1 : rule ≡ rule2 = cc in
    let e2 : line ≡ line2 = cc in
    record { run = ended_by h sizes program before.taken before.budget (IsRefused rule2 line2) (ending_of (Refused rule line)) 0 goes a.running lt is (λ rest. ap (λ x. ran [] (ending_of (Refused x line2)) 0) (sym e1) ∙ ap (λ x. ran [] (ending_of (Refused rule x)) 0) (sym e2)); same = g.1 }

-- the step would pass a limit
limits : (h : Classes) (sizes : ClassId → ℕ) (program : TypedProgram) (before : PathState) (machine : Machine) (told telling : Telling) (m : Move) (next : NextCode) (limit : LimitNo) → move h sizes program (state_at h sizes program before.taken) ≡ m → next ≡ Limited limit → (m ≡ IsWrong → ⊥) →
    GoesOn h sizes program → IsAtStep h sizes program before → before.taken < before.budget → MoveAgrees h sizes program m machine told telling next → EndsRun h sizes program before (Limit limit) 0 told telling
limits h sizes program before machine told telling (IsRefused rule line) next limit is same right goes a lt g = absurd (let f : Limited limit ≡ RefusesCode rule line = sym same ∙ g.0 in cc)
limits h sizes program before machine told telling IsOver next limit is same right goes a lt g = absurd (let f : Limited limit ≡ EndsCode = sym same ∙ g.0 in cc)
limits h sizes program before machine told telling IsWrong next limit is same right goes a lt g = absurd (right refl)
limits h sizes program before machine told telling (Moves s outs) next limit is same right goes a lt g = absurd (let f : Limited limit ≡ GoesCode = sym same ∙ g.0 in cc)
limits h sizes program before machine told telling (IsLimited limit2) next limit is same right goes a lt g =
    let f : Limited limit ≡ Limited limit2 = sym same ∙ g.0 in
    let e : limit ≡ limit2 = cc in
    record { run = ended_by h sizes program before.taken before.budget (IsLimited limit2) (ending_of (Limit limit)) 0 goes a.running lt is (λ rest. ap (λ x. ran [] (ending_of (Limit x)) 0) (sym e)); same = g.1 }

-- what a step leaves behind
pub leaves : (h : Classes) (sizes : ClassId → ℕ) (program : TypedProgram) (before : PathState) (machine : Machine) (answers : Answers) (told telling : Telling) (next : NextCode) → (move h sizes program (state_at h sizes program before.taken) ≡ IsWrong → ⊥) → GoesOn h sizes program →
    IsAtStep h sizes program before → before.taken < before.budget → AreAnswers h answers → MoveAgrees h sizes program (move h sizes program (state_at h sizes program before.taken)) machine told telling next → Leaves h sizes program before (moved before machine answers) told telling next
leaves h sizes program before machine answers told telling GoesCode right goes a lt right_answers g = steps h sizes program before machine answers told telling GoesCode refl right a lt right_answers g
leaves h sizes program before machine answers told telling (RefusesCode rule line) right goes a lt right_answers g =
    refuses h sizes program before machine told telling (move h sizes program (state_at h sizes program before.taken)) (RefusesCode rule line) rule line refl refl right goes a lt g
leaves h sizes program before machine answers told telling (Limited limit) right goes a lt right_answers g =
    limits h sizes program before machine told telling (move h sizes program (state_at h sizes program before.taken)) (Limited limit) limit refl refl right goes a lt g
leaves h sizes program before machine answers told telling EndsCode right goes a lt right_answers g = overs h sizes program before machine told telling (move h sizes program (state_at h sizes program before.taken)) EndsCode refl refl right goes a lt g
leaves h sizes program before machine answers told telling WrongCode right goes a lt right_answers g = wrong_never h sizes program machine told telling (move h sizes program (state_at h sizes program before.taken)) WrongCode refl right g

-- the end of a run

-- an answer that ends the run
abbrev pub IsEnd : Turn → Type 0
IsEnd turn = turn ≡ Went → ⊥

ends_agree : (h : Classes) (sizes : ClassId → ℕ) (program : TypedProgram) (before after : PathState) (told telling : Telling) (turn : Turn) → IsEnd turn → (run_of h sizes program before.budget).outs ≡ outs_at h sizes program before.taken → after.budget ≡ before.budget → after.end ≡ Some turn → telling ≡ told →
    TurnAgrees h sizes program before after told telling None turn
ends_agree h sizes program before after told telling Went end outs budget is same = absurd (end refl)
ends_agree h sizes program before after told telling Ended end outs budget is same = (outs, budget, is, same)
ends_agree h sizes program before after told telling (Refused rule line) end outs budget is same = (outs, budget, is, same)
ends_agree h sizes program before after told telling IsOutOfSteps end outs budget is same = (outs, budget, is, same)
ends_agree h sizes program before after told telling (Limit limit) end outs budget is same = (outs, budget, is, same)

-- the run has ended with the answer, which is kept
ends : (h : Classes) (sizes : ClassId → ℕ) (program : TypedProgram) (before middle after : PathState) (turn result : Turn) (more : ℕ) (told telling : Telling) → IsEnd turn → EndsRun h sizes program before turn more told telling →
    middle.budget ≡ before.budget → middle.taken ≡ before.taken + more → IsFinished middle after turn result → IsInRun h sizes program after (ended_with after) × TurnAgrees h sizes program before after told telling None result
ends h sizes program before middle after turn result more told telling end a budget taken done =
    let runs : run_of h sizes program middle.budget ≡ ran (outs_at h sizes program before.taken) (ending_of turn) (before.taken + more) = ap (run_of h sizes program) budget ∙ a.run in (
      subst (λ x. IsInRun h sizes program x (ended_with x)) (sym done.is) (record { ending = ap (λ (r : Ran). r.ending) runs; steps = ap (λ (r : Ran). r.steps) runs ∙ sym taken }),
      subst (λ t. TurnAgrees h sizes program before after told telling None t) (sym done.answer)
          (ends_agree h sizes program before after told telling turn end (ap (λ (r : Ran). r.outs) a.run) (ap (λ (x : PathState). x.budget) done.is ∙ budget) (ap (λ (x : PathState). x.end) done.is) a.same),
    )

-- what a step leaves behind that came to this
pub left_by : (h : Classes) (sizes : ClassId → ℕ) (program : TypedProgram) (before after : PathState) (told telling : Telling) {next known : NextCode} → next ≡ known → HasMoved h sizes program before after told telling next → Leaves h sizes program before after told telling known
left_by h sizes program before after told telling is k = subst (Leaves h sizes program before after told telling) is k.leaves

-- a turn that takes a step
pub goes_on : (h : Classes) (sizes : ClassId → ℕ) (program : TypedProgram) (before after : PathState) (told telling : Telling) (next : NextCode) → before.end ≡ None → HasMoved h sizes program before after told telling next → next ≡ GoesCode →
    IsInRun h sizes program (step_counted after) after.end × TurnAgrees h sizes program before (step_counted after) told telling before.end Went
goes_on h sizes program before after told telling next none k is =
    let steps : Steps h sizes program before after told telling = left_by h sizes program before after told telling is k in (
      subst (IsInRun h sizes program (step_counted after)) (sym (k.end ∙ none)) steps.at,
      subst (λ o. TurnAgrees h sizes program before (step_counted after) told telling o Went) (sym none) (ap (λ n. n + 1) k.taken, k.budget, k.end ∙ none, steps.tells),
    )

-- a turn that ends the run
pub ends_now : (h : Classes) (sizes : ClassId → ℕ) (program : TypedProgram) (before middle after : PathState) (turn result : Turn) (more : ℕ) (told telling : Telling) → before.end ≡ None → IsEnd turn → EndsRun h sizes program before turn more told telling →
    middle.budget ≡ before.budget → middle.taken ≡ before.taken + more → IsFinished middle after turn result → IsInRun h sizes program after (ended_with after) × TurnAgrees h sizes program before after told telling before.end result
ends_now h sizes program before middle after turn result more told telling none end a budget taken done =
    let r = ends h sizes program before middle after turn result more told telling end a budget taken done in
    (r.0, subst (λ o. TurnAgrees h sizes program before after told telling o result) (sym none) r.1)

-- what is known of each state of a run
pub next_at : (h : Classes) (sizes : ClassId → ℕ) (program : TypedProgram) (n : ℕ) → HasNoFault h → IsTypedState h program (state_at h sizes program n) →
    ((f : RunningBody) (below : List Frame) → (state_at h sizes program n).frames ≡ InBody f ∷ below → AllSettled h (state_at h sizes program n).objects) →
    ((f : Planned) (e : PartEvent) (events : List PartEvent) (below : List Frame) → (state_at h sizes program n).frames ≡ InPlan f ∷ below → f.events ≡ e ∷ events → Fits h (state_at h sizes program n).objects.phases e) →
    ((g : RunningBody) (f : Planned) (e : PartEvent) (events : List PartEvent) (below : List Frame) → (state_at h sizes program n).frames ≡ InBody g ∷ (InPlan f ∷ below) → f.events ≡ e ∷ events → Fits h (state_at h sizes program n).objects.phases e) → IsStateNext h program (state_at h sizes program n)
next_at h sizes program n fine typed settled fits behind = record { fine = fine; typed = typed; settled = settled; fits = fits; behind = behind }
