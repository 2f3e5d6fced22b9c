-- A text that grows step by step, until the run ends or the lines of a step pass the limit.
use Rattle.std.proofs.Common.{◌≡◌, ◌∙◌, ℕ, suc, ◌+◌, ◌≤◌, ◌<◌, ⊎_elim, arith, Bool, true, false, List, ◌++◌, length, ap, subst, sym, length-append}
use Rattle.std.proofs.lemmas.Bool.{cases_lt, lt-ltb}
use Rattle.cxx_hierarchy.specs.declared.stop.LimitNo.TheVariants.{L9}
use Rattle.cxx_hierarchy.specs.Classes.{Classes}
use Rattle.cxx_program.specs.declared.program.TypedProgram.{TypedProgram}
use Rattle.path_model.specs.declared.outs.Out.{Out}
use Rattle.path_model.specs.Runs.{IsRunning, move, outs_at, outs_in, run_of, state_at}
use Rattle.abi_sound.specs.Places.{Places}
use Rattle.text_told.specs.OutTexts.{outs_to_show, text_of}
use Rattle.text_told.specs.declared.ending.End.{End}
use Rattle.text_told.specs.declared.ending.End.TheVariants.{Limit}
use Rattle.text_told.specs.Told.{IsRun, told_ending, passes_text_limit, text_at, text_limit}
use Rattle.text_told.proofs.Ends.{small_passes, told_to, told_whole}
use Rattle.text_told.proofs.Texts.{text_append}

-- the text is that of the first n steps, none of which passed the limit
pub record IsTextOf (h : Classes) (l : Places) (program : TypedProgram) (trace : Bool) (n : ℕ) (text : List ℕ) : Type 0 where
  pub text_is : text ≡ text_at h l program trace n
  pub small : length text ≤ text_limit
  pub room : (k : ℕ) → k < n → passes_text_limit h l program trace k ≡ false

module _ (h : Classes) (l : Places) (program : TypedProgram) (trace : Bool) (n : ℕ) (text : List ℕ) where
  -- the lines of step n
  pub record AreLinesOf (lines : List ℕ) : Type 0 where
    pub telling : List Out
    pub tells : telling ≡ outs_in (move h l.size program (state_at h l.size program n))
    pub are : lines ≡ text_of h l (outs_to_show trace telling)

  one_more : n + 1 ≡ suc n
  one_more = omega arith

  -- the text with the lines of the next step
  lines_behind : (lines : List ℕ) → text ≡ text_at h l program trace n → AreLinesOf lines → text ++ lines ≡ text_at h l program trace (n + 1)
  lines_behind lines is adds =
      ap (λ (t : List ℕ). t ++ lines) is
      ∙ (ap (λ (t : List ℕ). text_at h l program trace n ++ t) (adds.are ∙ ap (λ (xs : List Out). text_of h l (outs_to_show trace xs)) adds.tells)
      ∙ (sym (text_append h l trace (outs_at h l.size program n) (outs_in (move h l.size program (state_at h l.size program n)))) ∙ ap (text_at h l program trace) (sym one_more)))

  room_more : ((k : ℕ) → k < n → passes_text_limit h l program trace k ≡ false) → length (text_at h l program trace (n + 1)) ≤ text_limit → (k : ℕ) → k < n + 1 → passes_text_limit h l program trace k ≡ false
  room_more room small k lt = ⊎_elim (λ less. room k less) (λ ge. let same : k ≡ n = omega (arith, lt, ge) in ap (passes_text_limit h l program trace) same ∙ small_passes h l program trace n small) (cases_lt k n)

  -- the run has ended with the text so far
  pub ends_with : (budget : ℕ) (end_is : End) → IsTextOf h l program trace n text → (run_of h l.size program budget).outs ≡ outs_at h l.size program n → (run_of h l.size program budget).ending ≡ told_ending end_is → IsRun h l program trace budget text end_is
  ends_with budget end_is is outs ending =
      let text_all : text_of h l (outs_to_show trace (run_of h l.size program budget).outs) ≡ text = ap (λ (xs : List Out). text_of h l (outs_to_show trace xs)) outs ∙ sym is.text_is in
      let whole = told_whole h l program trace budget (subst (λ (t : List ℕ). length t ≤ text_limit) (sym text_all) is.small) in
      record {
        text_is = sym text_all ∙ sym (ap (λ t. t.text) whole);
        ending = sym ending ∙ sym (ap (λ t. t.ending) whole);
      }

  -- the lines of a step that was taken pass the limit
  pub lines_pass : (budget : ℕ) (lines : List ℕ) → IsTextOf h l program trace n text → IsRunning h l.size program (n + 1) → n + 1 ≤ budget → AreLinesOf lines → text_limit < length text + length lines → IsRun h l program trace budget text (Limit L9)
  lines_pass budget lines is running within adds long =
      let all = lines_behind lines is.text_is adds in
      let size = sym (length-append text lines) ∙ ap length all in
      let passed : passes_text_limit h l program trace n ≡ true = lt-ltb text_limit (length (text_at h l program trace (n + 1))) (omega (arith, size, long)) in
      let whole = told_to h l program trace n budget running within is.room passed in
      record {
        text_is = is.text_is ∙ sym (ap (λ t. t.text) whole);
        ending = sym (ap (λ t. t.ending) whole);
      }

  -- the lines stand behind the text
  pub lines_stand : (lines new : List ℕ) → IsTextOf h l program trace n text → AreLinesOf lines → length text + length lines ≤ text_limit → new ≡ text ++ lines → IsTextOf h l program trace (n + 1) new
  lines_stand lines new is adds few puts =
      let all : new ≡ text_at h l program trace (n + 1) = puts ∙ lines_behind lines is.text_is adds in
      let size = ap length puts ∙ length-append text lines in
      let small : length new ≤ text_limit = omega (arith, size, few) in
      record {
        text_is = all;
        small = small;
        room = room_more is.room (subst (λ (t : List ℕ). length t ≤ text_limit) all small);
      }
