-- What is answered to a run of a program.
use Rattle.std.proofs.Common.{◌≡◌, ◌⊎◌, ⊎_elim, inl, inr, ℕ, true, false, Bool, not, Option, Some, None, Result, Ok, Err, List, ◌++◌, length, refl, sym, ◌∙◌, ap, subst}
use Rattle.std.specs.Prelude.{IfOk, MatchOption, find}
use Rattle.std.specs.Option.{is_some}
use Rattle.foundation.specs.declared.memory.NoMemory.{NoMemory as Want}
use Rattle.cxx_hierarchy.specs.declared.records.ClassId.{ClassId}
use Rattle.cxx_hierarchy.specs.declared.stop.LimitNo.TheVariants.{L9}
use Rattle.cxx_hierarchy.specs.declared.stop.Rule.TheVariants.{UnknownName}
use Rattle.cxx_hierarchy.specs.Classes.{Classes}
use Rattle.cxx_hierarchy.specs.Hierarchies.{IsHierarchy}
use Rattle.cxx_overrider.specs.Faults.{HasNoFault as HasNoMeaning}
use Rattle.cxx_syntax.specs.declared.tree.BodyTree.{BodyTree}
use Rattle.cxx_syntax.specs.declared.source_text.SourceText.{SourceText}
use Rattle.cxx_program.specs.declared.program.TypedProgram.{TypedProgram}
use Rattle.cxx_program.specs.Typed.{IsTypedProgram}
use Rattle.path_plan.specs.Plans.{upto}
use Rattle.path_model.specs.States.{is_body}
use Rattle.path_model.specs.Runs.{Ran, Ending, Done, UndefinedAt, OutOfSteps, LimitMet, WentWrong, run_of}
use Rattle.text_told.specs.declared.ending.End.{End}
use Rattle.text_told.specs.declared.ending.End.TheVariants as ends
use Rattle.text_told.specs.Told.{told, told_by, passes_text_limit, told_ending}
use Rattle.abi_sound.specs.declared.class_layout.ClassLayout.{ClassLayout}
use Rattle.abi_sound.specs.Places.{Places, places_of}
use Rattle.abi_slots.specs.declared.code_numbers.CodeRow.{CodeRow}
use Rattle.code_ops.specs.Setups.{setup}
use Rattle.abi_refine.specs.Executions.{IsExecution}
use Rattle.cxxabi_words.specs.declared.command.Command.{Command}
use Rattle.cxxabi_words.specs.declared.command.Command.TheVariants.{Check, Run, Layout, LayoutOf, Tables, TablesOf, Paths, Gen, Array, MemberPointer, Inspect, Foreign}
use Rattle.cxxabi_cmd.specs.declared.reply.Reply.{Reply}
use Rattle.cxxabi_cmd.specs.declared.status.Status.{Status}
use Rattle.cxxabi_cmd.specs.declared.status.Status.TheVariants.{Refused}
use Rattle.cxxabi_cmd.specs.Statuses.{status_line}
use Rattle.cxxabi_cmd.specs.Commands.{RunsMain, SumsUp}
use Rattle.cxxabi_cmd.specs.Divided.{IsLayoutOf}
use Rattle.cxxabi_cmd.specs.Handed.{SeenMachine, IsMachineOf}
use Rattle.cxxabi_cmd.specs.Output.{Answer, IsRunAnswer, ends_with, summed_up, ended_answer, summary_answer, status_of, Yields, no_main, ran, line_alone, IsAnswerWritten}
use Rattle.cxxabi_cmd.specs.invariants.Replies.{as_answer}
use Rattle.cxxabi_cmd.proofs.AnswerLemmas.{answer_with}

-- an end is told by its ending
abbrev end_by : Ending → End
end_by Done = ends.Done
end_by (UndefinedAt rule line) = ends.Undefined rule line
end_by OutOfSteps = ends.OutOfSteps
end_by (LimitMet limit) = ends.Limit limit
end_by WentWrong = ends.Done

end_is : (e : End) → end_by (told_ending e) ≡ e
end_is ends.Done = refl
end_is (ends.Undefined rule line) = refl
end_is ends.OutOfSteps = refl
end_is (ends.Limit limit) = refl

one_end : (d e : End) → told_ending d ≡ told_ending e → d ≡ e
one_end d e same = sym (end_is d) ∙ ap end_by same ∙ end_is e

-- there is one answer
pub one_answer : (command : Command) (h : Classes) (rows : List ClassLayout) (typed : TypedProgram) (trace : Bool) (steps : ℕ) (a b : Answer) → IsRunAnswer command h rows typed trace steps a → IsRunAnswer command h rows typed trace steps b → a ≡ b
one_answer command h rows typed trace steps _ _ (ends_with d one plain) (ends_with e other plain') = ap (λ (x : End). ended_answer (told h (places_of h rows) typed trace steps).text x steps) (one_end d e (one ∙ sym other))
one_answer command h rows typed trace steps _ _ (ends_with d one plain) (summed_up e other sums) = absurd (plain (subst (SumsUp command) (one_end e d (other ∙ sym one)) sums))
one_answer command h rows typed trace steps _ _ (summed_up d one sums) (ends_with e other plain) = absurd (plain (subst (SumsUp command) (one_end d e (one ∙ sym other)) sums))
one_answer command h rows typed trace steps _ _ (summed_up d one sums) (summed_up e other sums') = refl

-- a command sums up a run with an end, or it does not
sums_decided : (command : Command) (e : End) → SumsUp command e ⊎ (SumsUp command e → ⊥)
sums_decided Check e = inr (λ sums. sums)
sums_decided (Run steps trace) e = inr (λ sums. sums)
sums_decided Layout e = inr (λ sums. sums)
sums_decided (LayoutOf name) e = inr (λ sums. sums)
sums_decided Tables e = inr (λ sums. sums)
sums_decided (TablesOf name) e = inr (λ sums. sums)
sums_decided (Paths steps) e = inr (λ sums. sums)
sums_decided (Array name n) e = inr (λ sums. sums)
sums_decided (MemberPointer named) e = inr (λ sums. sums)
sums_decided Inspect e = inr (λ sums. sums)
sums_decided (Foreign steps) e = inr (λ sums. sums)
sums_decided (Gen n) ends.Done = inl tt
sums_decided (Gen n) (ends.Undefined rule line) = inr (λ sums. sums)
sums_decided (Gen n) ends.OutOfSteps = inr (λ sums. sums)
sums_decided (Gen n) (ends.Limit limit) = inr (λ sums. sums)

-- `gen` sums up no other end than that of `main`
pub gen_ends : (n : ℕ) (e : End) → (e ≡ ends.Done → ⊥) → SumsUp (Gen n) e → ⊥
gen_ends n ends.Done other = λ sums. other refl
gen_ends n (ends.Undefined rule line) other = λ sums. sums
gen_ends n ends.OutOfSteps other = λ sums. sums
gen_ends n (ends.Limit limit) other = λ sums. sums

-- an ending that is not wrong is an end
some_end : (ending : Ending) → (ending ≡ WentWrong → ⊥) → (e : End) × (told_ending e ≡ ending)
some_end Done right = (ends.Done, refl)
some_end (UndefinedAt rule line) right = (ends.Undefined rule line, refl)
some_end OutOfSteps right = (ends.OutOfSteps, refl)
some_end (LimitMet limit) right = (ends.Limit limit, refl)
some_end WentWrong right = absurd (right refl)

told_end : (h : Classes) (l : Places) (typed : TypedProgram) (trace : Bool) (run : Ran) (passed : Option ℕ) → (run.ending ≡ WentWrong → ⊥) → (e : End) × (told_ending e ≡ (told_by h l typed trace run passed).ending)
told_end h l typed trace run None right = some_end run.ending right
told_end h l typed trace run (Some n) right = (ends.Limit L9, refl)

-- no run of a typed program goes wrong
abbrev pub NeverWrong : Type 0
NeverWrong = (h : Classes) (sizes : ClassId → ℕ) (program : TypedProgram) (steps : ℕ) → IsHierarchy h → HasNoMeaning h → IsTypedProgram h program → is_body program.main ≡ true → (run_of h sizes program steps).ending ≡ WentWrong → ⊥

-- there is an answer
some_answer : NeverWrong → (command : Command) (h : Classes) (rows : List ClassLayout) (typed : TypedProgram) (trace : Bool) (steps : ℕ) → IsHierarchy h → HasNoMeaning h → IsTypedProgram h typed → is_body typed.main ≡ true → (answer : Answer) × IsRunAnswer command h rows typed trace steps answer
some_answer law command h rows typed trace steps keeps fine is main =
    let l = places_of h rows in
    let run = run_of h l.size typed steps in
    let e = told_end h l typed trace run (find (passes_text_limit h l typed trace) (upto run.steps)) (law h l.size typed steps keeps fine is main) in
    ⊎_elim
    (λ sums. (summary_answer h run.steps (told h l typed trace steps).text, summed_up e.0 e.1 sums))
    (λ plain. (ended_answer (told h l typed trace steps).text e.0 steps, ends_with e.0 e.1 plain))
    (sums_decided command e.0)

-- a command that runs `main` has an answer
pub yields_runs : NeverWrong → (front : List ℕ) (size : ℕ) (source : SourceText) (h : Classes) (rows : List ClassLayout) (typed : TypedProgram) (command : Command) (steps : ℕ) (trace : Bool) (main : Option BodyTree) → RunsMain command steps trace → IsHierarchy h → HasNoMeaning h → IsLayoutOf command front h rows →
    IsTypedProgram h typed → is_body typed.main ≡ is_some source.main → source.main ≡ main → (answer : Answer) × Yields front size source h typed command answer
yields_runs law front size source h rows typed command steps trace None runs keeps fine laid is tie main = (line_alone (Refused UnknownName size), no_main command steps trace runs main)
yields_runs law front size source h rows typed command steps trace (Some tree) runs keeps fine laid is tie main =
    let a = some_answer law command h rows typed trace steps keeps fine is (tie ∙ ap is_some main) in (a.0, ran command steps trace tree rows a.0 runs main laid a.1)

-- the text of a run and its last line
pub ended_is : (text line whole : List ℕ) (e : End) (steps : ℕ) (status : Status) → whole ≡ text ++ line → line ≡ status_line status steps → status ≡ status_of e → answer_with whole status ≡ ended_answer text e steps
ended_is text line whole e steps status joined last same = rw (joined, last, same) refl

pub run_answer_is : (command : Command) (h : Classes) (rows : List ClassLayout) (typed : TypedProgram) (trace : Bool) (steps : ℕ) (text : List ℕ) (e : End) (a : Answer) → (SumsUp command e → ⊥) → a ≡ ended_answer text e steps → text ≡ (told h (places_of h rows) typed trace steps).text →
    told_ending e ≡ (told h (places_of h rows) typed trace steps).ending → IsRunAnswer command h rows typed trace steps a
run_answer_is command h rows typed trace steps text e a plain same is ending =
    subst (λ (b : Answer). IsRunAnswer command h rows typed trace steps b) (sym (same ∙ ap (λ (t : List ℕ). ended_answer t e steps) is)) (ends_with e ending plain)

-- the summary of a run
pub summary_is : (command : Command) (h : Classes) (rows : List ClassLayout) (typed : TypedProgram) (trace : Bool) (steps taken : ℕ) (text : List ℕ) (e : End) (a : Answer) → SumsUp command e → a ≡ summary_answer h taken text → text ≡ (told h (places_of h rows) typed trace steps).text →
    taken ≡ (run_of h (places_of h rows).size typed steps).steps → told_ending e ≡ (told h (places_of h rows) typed trace steps).ending → IsRunAnswer command h rows typed trace steps a
summary_is command h rows typed trace steps taken text e a sums same is counted ending =
    subst (λ (b : Answer). IsRunAnswer command h rows typed trace steps b) (sym (same ∙ (ap (λ (t : List ℕ). summary_answer h taken t) is ∙ ap (λ n. summary_answer h n (told h (places_of h rows) typed trace steps).text) counted))) (summed_up e ending sums)

-- what a run over a layout answers, for a command that does not sum it up
pub at_command : (r : Result Reply Want) (command : Command) (h : Classes) (rows : List ClassLayout) (typed : TypedProgram) (trace : Bool) (steps : ℕ) → ((e : End) → SumsUp command e → ⊥) →
    IfOk r (λ reply. (c : Command) → ((e : End) → SumsUp c e → ⊥) → IsRunAnswer c h rows typed trace steps (as_answer reply)) → IfOk r (λ reply. IsRunAnswer command h rows typed trace steps (as_answer reply))
at_command (Ok reply) command h rows typed trace steps plain is = is command plain
at_command (Err w) command h rows typed trace steps plain is = is

-- an answer that was made for a source with a main
pub yields_ended : (r : Result Reply Want) (front : List ℕ) (size : ℕ) (source : SourceText) (h : Classes) (rows : List ClassLayout) (typed : TypedProgram) (command : Command) (steps : ℕ) (trace : Bool) (tree : BodyTree) → RunsMain command steps trace →
    IfOk r (λ reply. IsRunAnswer command h rows typed trace steps (as_answer reply)) → source.main ≡ Some tree → IsLayoutOf command front h rows → IfOk r (λ reply. Yields front size source h typed command (as_answer reply))
yields_ended (Ok reply) front size source h rows typed command steps trace tree runs is main laid = ran command steps trace tree rows (as_answer reply) runs main laid is
yields_ended (Err w) front size source h rows typed command steps trace tree runs is main laid = is

-- the machine that a run leaves
pub machine_is : (h : Classes) (rows : List ClassLayout) (typed : TypedProgram) (trace : Bool) (steps : ℕ) (numbers : List CodeRow) (text : List ℕ) (e : End) (seen : SeenMachine) (m : Option SeenMachine) → m ≡ Some seen → text ≡ (told h (places_of h rows) typed trace steps).text →
    told_ending e ≡ (told h (places_of h rows) typed trace steps).ending → IsExecution (setup h rows typed) steps trace numbers seen.code seen.image seen.state text e → MatchOption m ⊥ (IsMachineOf h rows typed trace steps)
machine_is h rows typed trace steps numbers text e seen m same is ending executed =
    subst (λ (o : Option SeenMachine). MatchOption o ⊥ (IsMachineOf h rows typed trace steps)) (sym same)
    (record { numbers = numbers; end_is = e; ending = ending; executed = subst (λ (t : List ℕ). IsExecution (setup h rows typed) steps trace numbers seen.code seen.image seen.state t e) is executed })

-- a program has a main where its source has one
pub has_main : (main given none : Bool) → main ≡ given → given ≡ not none → none ≡ false → main ≡ true
has_main main given none tie is off = tie ∙ is ∙ ap not off

end_answered : (e : End) → IsAnswerWritten (status_of e)
end_answered ends.Done = tt
end_answered (ends.Undefined rule line) = tt
end_answered ends.OutOfSteps = tt
end_answered (ends.Limit limit) = tt

pub run_answered : (command : Command) (h : Classes) (rows : List ClassLayout) (typed : TypedProgram) (trace : Bool) (steps : ℕ) (a : Answer) → IsRunAnswer command h rows typed trace steps a → IsAnswerWritten a.status
run_answered command h rows typed trace steps _ (ends_with e is plain) = end_answered e
run_answered command h rows typed trace steps _ (summed_up e is sums) = tt
