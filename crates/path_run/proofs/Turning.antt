-- A turn of a run: a step more with its lines, the end of the run, or a step whose lines pass the limit.
use Rattle.std.proofs.Common.{◌≡◌, ◌∙◌, Bool, refl, ℕ, ◌+◌, ◌-◌, ◌≤◌, ◌<◌, arith, true, false, Option, None, List, [], ◌++◌, length, ap, subst, sym}
use Rattle.std.specs.Prelude.{filter, not}
use Rattle.std.proofs.Math.Bool.{or-true, or-false}
use Rattle.std.proofs.lemmas.List.{append-nil}
use Rattle.foundation.proofs.Chosen.{filter_all, filter_same}
use Rattle.cxx_hierarchy.specs.declared.records.ClassId.{ClassId}
use Rattle.cxx_hierarchy.specs.declared.stop.LimitNo.TheVariants.{L9}
use Rattle.cxx_hierarchy.specs.Classes.{Classes}
use Rattle.cxx_program.specs.declared.program.TypedProgram.{TypedProgram}
use Rattle.path_model.specs.declared.outs.Out.{Out}
use Rattle.path_model.specs.declared.outs.Turn.{Turn}
use Rattle.path_model.specs.Runs.{IsRunning}
use Rattle.path_machine.specs.declared.state.PathState.{PathState}
use Rattle.path_machine.specs.Tellings.{is_told}
use Rattle.path_machine.specs.Turns.{IsInRun, taken_by, budget_of, ended_with}
use Rattle.abi_sound.specs.Places.{Places}
use Rattle.path_model.specs.Outs.{is_traced}
use Rattle.text_told.specs.OutTexts.{outs_to_show, text_of}
use Rattle.text_told.specs.declared.ending.End.{End}
use Rattle.text_told.specs.declared.ending.End.TheVariants.{Limit}
use Rattle.text_told.specs.Told.{IsRun, text_at, text_limit, told}
use Rattle.path_run.specs.invariants.Going.{RunGoesOn, HasEndedBefore, IsTurned, HasGoneOn, Stepped, all_told}
use Rattle.text_told.proofs.Texts.{text_none}
use Rattle.text_told.proofs.Lines.{IsTextOf, ends_with, lines_pass, lines_stand}

in_run_at : (h : Classes) (sizes : ClassId → ℕ) (l : Places) (program : TypedProgram) (state : PathState) (o : Option Turn) → sizes ≡ l.size → IsInRun h sizes program state o → IsInRun h l.size program state o
in_run_at h sizes l program state o is a = subst (λ (z : ClassId → ℕ). IsInRun h z program state o) is a

-- what a step came to, with the trace that was asked for
pub traced : (h : Classes) (l : Places) (program : TypedProgram) (told trace : Bool) (before after : PathState) (outs : List Out) (last o : Option End) → told ≡ trace → last ≡ o → Stepped h l program told before after outs last → Stepped h l program trace before after outs o
traced h l program told trace before after outs last o same ends a = subst (Stepped h l program trace before after outs) ends (subst (λ (b : Bool). Stepped h l program b before after outs last) same a)

-- the text of the steps taken
text_so_far : (h : Classes) (l : Places) (program : TypedProgram) (trace : Bool) (before : PathState) (text : List ℕ) → RunGoesOn h l program trace before text → IsTextOf h l program trace (taken_by before) text
text_so_far h l program trace before text goes = record { text_is = goes.text_is; small = goes.small; room = goes.room }

-- the run has ended with the text so far
pub ends_run : (h : Classes) (l : Places) (program : TypedProgram) (trace : Bool) (before : PathState) (text : List ℕ) (end_is : End) → RunGoesOn h l program trace before text → HasEndedBefore h l program before end_is → IsRun h l program trace (budget_of before) text end_is
ends_run h l program trace before text end_is goes last = ends_with h l program trace (taken_by before) text (budget_of before) end_is (text_so_far h l program trace before text goes) last.outs last.ending

told_shown : (trace : Bool) (xs : List Out) → filter (is_told trace) xs ≡ outs_to_show trace xs
told_shown true xs = filter_all (is_told true) xs (λ x has. or-true (not (is_traced x)))
told_shown false xs = filter_same (is_told false) (λ out. not (is_traced out)) xs (λ x has. or-false (not (is_traced x)))

-- the lines of what was told are those that the step shows
all_lines : (h : Classes) (l : Places) (program : TypedProgram) (trace : Bool) (before after : PathState) (lines : List ℕ) (telling : List Out) → HasGoneOn h l program trace before after telling → lines ≡ text_of h l telling → lines ≡ text_of h l (outs_to_show trace (all_told h l program before))
all_lines h l program trace before after lines telling step adds = adds ∙ ap (text_of h l) (step.tells ∙ told_shown trace (all_told h l program before))

-- the lines pass the limit
pub passes_limit : (h : Classes) (l : Places) (program : TypedProgram) (trace : Bool) (before after : PathState) (text lines : List ℕ) (telling : List Out) → RunGoesOn h l program trace before text → HasGoneOn h l program trace before after telling
    → lines ≡ text_of h l telling → text_limit < length text + length lines → IsRun h l program trace (budget_of before) text (Limit L9)
passes_limit h l program trace before after text lines telling goes step adds long =
    let n = taken_by before in
    let new = step.at_step in
    let within : n + 1 ≤ budget_of before = let a = new.within in let b = step.taken in let c = step.budget in omega (arith, a, b, c) in
    lines_pass h l program trace n text (budget_of before) lines (text_so_far h l program trace before text goes) (subst (λ (k : ℕ). IsRunning h l.size program k) step.taken new.running) within (record { telling = all_told h l program before; tells = refl; are = all_lines h l program trace before after lines telling step adds }) long

-- the lines stand behind the text
pub goes_on : (h : Classes) (l : Places) (program : TypedProgram) (trace : Bool) (before after : PathState) (text lines new : List ℕ) (telling : List Out) → RunGoesOn h l program trace before text → HasGoneOn h l program trace before after telling
    → lines ≡ text_of h l telling → length text + length lines ≤ text_limit → new ≡ text ++ lines → IsTurned h l program trace before after new
goes_on h l program trace before after text lines new telling goes step adds few puts =
    let more = lines_stand h l program trace (taken_by before) text lines new (text_so_far h l program trace before text goes) (record { telling = all_told h l program before; tells = refl; are = all_lines h l program trace before after lines telling step adds }) few puts in
    record {
      goes = record {
        at_step = step.at_step;
        going = step.going;
        text_is = more.text_is ∙ ap (text_at h l program trace) (sym step.taken);
        small = more.small;
        room = λ k lt. more.room k (subst (λ (m : ℕ). k < m) step.taken lt);
      };
      taken = step.taken;
      budget = step.budget;
    }

-- a step that told nothing leaves the text
pub goes_silent : (h : Classes) (l : Places) (program : TypedProgram) (trace : Bool) (before after : PathState) (text : List ℕ) (telling : List Out) → RunGoesOn h l program trace before text → HasGoneOn h l program trace before after telling → telling ≡ [] → IsTurned h l program trace before after text
goes_silent h l program trace before after text telling goes step none =
    let small = goes.small in
    let few : length text + 0 ≤ text_limit = omega (arith, small) in
    goes_on h l program trace before after text [] text telling goes step (sym (ap (text_of h l) none)) few (sym (append-nil text))

-- the lines of what a step tells
pub lines_are : (h : Classes) (l : Places) (old lines : List ℕ) (outs telling : List Out) → old ≡ [] → outs ≡ telling → lines ≡ old ++ text_of h l outs → lines ≡ text_of h l telling
lines_are h l old lines outs telling none same adds = adds ∙ (ap (λ (t : List ℕ). t ++ text_of h l outs) none ∙ ap (λ (xs : List Out). text_of h l xs) same)

-- before the first step
pub starts : (h : Classes) (sizes : ClassId → ℕ) (l : Places) (program : TypedProgram) (trace : Bool) (state : PathState) (text : List ℕ) → sizes ≡ l.size → IsInRun h sizes program state None → taken_by state ≡ 0 → ended_with state ≡ None → text ≡ [] → RunGoesOn h l program trace state text
starts h sizes l program trace state text is in_run none going fresh = record {
  at_step = in_run_at h sizes l program state None is in_run;
  going = going;
  text_is = fresh ∙ sym (ap (text_at h l program trace) none ∙ text_none h l trace);
  small = subst (λ (t : List ℕ). length t ≤ text_limit) (sym fresh) (omega arith);
  room = λ k lt. absurd (omega (arith, lt, none));
}

-- a turn leaves fewer steps
pub less_left : (b t c u : ℕ) → u ≡ t + 1 → c ≡ b → u ≤ c → c - u < b - t
less_left b t c u more same le = omega (arith, more, same, le)

pub run_is : (h : Classes) (l : Places) (program : TypedProgram) (trace : Bool) (left steps : ℕ) (text given : List ℕ) (end_is : End) → left ≡ steps → given ≡ text → IsRun h l program trace left text end_is → IsRun h l program trace steps given end_is
run_is h l program trace left steps text given end_is same is a = record {
  text_is = is ∙ (a.text_is ∙ ap (λ (n : ℕ). (told h l program trace n).text) same);
  ending = a.ending ∙ ap (λ (n : ℕ). (told h l program trace n).ending) same;
}
