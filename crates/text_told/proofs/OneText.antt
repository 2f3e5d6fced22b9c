-- Two layouts give one text, where nothing that is printed has a place.
use Rattle.std.proofs.Common.{◌≡◌, ◌∙◌, ℕ, zero, suc, ◌+◌, ◌≤◌, ◌<◌, ⊎_elim, arith, Bool, true, false, Option, Some, None, List, ◌++◌, length, refl, ap, subst, sym}
use Rattle.std.specs.Prelude.{Contains, find, if◌then◌else◌, nat_lt, not}
use Rattle.std.proofs.lemmas.Bool.{cases_lt}
use Rattle.std.proofs.lemmas.List.{append-nil}
use Rattle.foundation.proofs.Chosen.{filter_has, has_filter}
use Rattle.foundation.proofs.Members.{Has, contains_from_has, flat_map_same, has_left}
use Rattle.foundation.proofs.Truth.{split}
use Rattle.cxx_hierarchy.specs.declared.records.ClassId.{ClassId}
use Rattle.cxx_hierarchy.specs.declared.stop.LimitNo.{LimitNo}
use Rattle.cxx_hierarchy.specs.declared.stop.LimitNo.TheVariants.{L8, L9}
use Rattle.cxx_hierarchy.specs.Classes.{Classes}
use Rattle.cxx_program.specs.declared.program.TypedProgram.{TypedProgram}
use Rattle.path_plan.specs.Plans.{count_from, upto}
use Rattle.path_model.specs.declared.outs.Out.{Out}
use Rattle.path_model.specs.declared.outs.Out.TheVariants.{Number, Pointer, TypeName, Dump, Call, Built, Ending}
use Rattle.path_model.specs.States.{ProgramState}
use Rattle.path_model.specs.Runs.{Done, IsLimited, IsOver, IsRefused, IsRunning, IsWrong, LimitMet, Move, Moves, OutOfSteps, Ran, behind, is_step_taken, move, outs_at, outs_in, ran_by, run_from, run_of, state_at, state_behind}
use Rattle.path_model.proofs.RunLaws.{run_on, runs_alike}
use Rattle.abi_sound.specs.Places.{Places}
use Rattle.path_model.specs.Outs.{is_traced}
use Rattle.text_told.specs.OutTexts.{out_text, printed, text_of}
use Rattle.text_told.specs.Layouts.{TellsNoPlace}
use Rattle.text_told.specs.Told.{passes_text_limit, text_at, text_limit, told, told_by}
use Rattle.text_told.proofs.Ends.{run_front}

-- the steps of a run, as budgets

module _ (h : Classes) (sizes : ClassId → ℕ) (program : TypedProgram) where
  -- the run goes through a budget: it tells what so many steps tell, and meets no limit
  pub record GoesThrough (n : ℕ) : Type 0 where
    pub outs : (run_of h sizes program n).outs ≡ outs_at h sizes program n
    pub free : (limit : LimitNo) → (run_of h sizes program n).ending ≡ LimitMet limit → ⊥

  one_outs : (x : Move) → (ran_by x (run_from h sizes program 0)).outs ≡ outs_in x
  one_outs (Moves s outs) = append-nil outs
  one_outs (IsRefused rule_met line) = refl
  one_outs (IsLimited limit) = refl
  one_outs IsOver = refl
  one_outs IsWrong = refl

  one_free : (x : Move) → 0 < (ran_by x (run_from h sizes program 0)).steps → (limit : LimitNo) → (ran_by x (run_from h sizes program 0)).ending ≡ LimitMet limit → ⊥
  one_free (Moves s outs) lt limit met = let e : OutOfSteps ≡ LimitMet limit = met in cc (e)
  one_free (IsRefused rule_met line) lt limit met = absurd (omega (arith, lt))
  one_free (IsLimited other) lt limit met = absurd (omega (arith, lt))
  one_free IsOver lt limit met = let e : Done ≡ LimitMet limit = met in cc (e)
  one_free IsWrong lt limit met = absurd (omega (arith, lt))

  -- one step behind those that were taken
  through_one : (a : ℕ) → IsRunning h sizes program a → 0 < (ran_by (move h sizes program (state_at h sizes program a)) (run_from h sizes program 0)).steps → GoesThrough (suc a)
  through_one a running lt =
      let one : suc a ≡ a + 1 = omega arith in
      let on : run_of h sizes program (suc a) ≡ behind a (outs_at h sizes program a) (run_from h sizes program 1 (state_at h sizes program a)) = ap (λ (k : ℕ). run_of h sizes program k) one ∙ run_on h sizes program a 1 running in
      record {
        outs = ap (λ (r : Ran). r.outs) on ∙ ap (λ (os : List Out). outs_at h sizes program a ++ os) (one_outs (move h sizes program (state_at h sizes program a)));
        free = λ limit met. one_free (move h sizes program (state_at h sizes program a)) lt limit (sym (ap (λ (r : Ran). r.ending) on) ∙ met);
      }

  running_more : (a : ℕ) → IsRunning h sizes program a → is_step_taken (move h sizes program (state_at h sizes program a)) ≡ true → IsRunning h sizes program (suc a)
  running_more a running here k less = ⊎_elim (λ (low : k < a). running k low) (λ high. let same : k ≡ a = omega (arith, less, high) in ap (λ (n : ℕ). is_step_taken (move h sizes program (state_at h sizes program n))) same ∙ here) (cases_lt k a)

  first_through : (a : ℕ) (x : Move) → IsRunning h sizes program a → move h sizes program (state_at h sizes program a) ≡ x → 0 < (ran_by x (run_from h sizes program 0)).steps → GoesThrough (suc (a + 0))
  first_through a x running is lt =
      let none : a ≡ a + 0 = omega arith in
      subst (λ (n : ℕ). GoesThrough (suc n)) none (through_one a running (subst (λ (y : Move). 0 < (ran_by y (run_from h sizes program 0)).steps) (sym is) lt))

  through_by : (m a j : ℕ) → ((i : ℕ) → IsRunning h sizes program (suc a) → i < (run_from h sizes program m (state_at h sizes program (suc a))).steps → GoesThrough (suc (suc a + i))) → IsRunning h sizes program a → (x : Move) → move h sizes program (state_at h sizes program a) ≡ x
      → j < (ran_by x (run_from h sizes program m)).steps → GoesThrough (suc (a + j))
  through_by m a zero rule running (Moves s outs) is lt = first_through a (Moves s outs) running is (omega arith)
  through_by m a (suc j) rule running (Moves s outs) is lt =
      let here : s ≡ state_at h sizes program (suc a) = sym (ap (λ (x : Move). state_behind x (state_at h sizes program a)) is) in
      let less : j < (run_from h sizes program m s).steps = omega (arith, lt) in
      let next : suc a + j ≡ a + suc j = omega arith in
      subst (λ (n : ℕ). GoesThrough (suc n)) next (rule j (running_more a running (ap is_step_taken is)) (subst (λ (x : ProgramState). j < (run_from h sizes program m x).steps) here less))
  through_by m a j rule running (IsRefused rule_met line) is lt = absurd (omega (arith, lt))
  through_by m a j rule running (IsLimited limit) is lt = absurd (omega (arith, lt))
  through_by m a zero rule running IsOver is lt = first_through a IsOver running is (omega arith)
  through_by m a (suc j) rule running IsOver is lt = absurd (omega (arith, lt))
  through_by m a j rule running IsWrong is lt = absurd (omega (arith, lt))

  through : (m a j : ℕ) → IsRunning h sizes program a → j < (run_from h sizes program m (state_at h sizes program a)).steps → GoesThrough (suc (a + j))
  through zero a j running lt = absurd (omega (arith, lt))
  through (suc m) a j running lt = through_by m a j (λ i more less. through m (suc a) i more less) running (move h sizes program (state_at h sizes program a)) refl lt

  -- each step of a run
  goes_through : (steps j : ℕ) → j < (run_of h sizes program steps).steps → GoesThrough (suc j)
  goes_through steps j lt =
      let none : 0 + j ≡ j = omega arith in
      subst (λ (n : ℕ). GoesThrough (suc n)) none (through steps 0 j (λ k less. absurd (omega (arith, less))) lt)

-- the first number that passes a test

find_same : (p q : ℕ → Bool) (a n : ℕ) → ((k : ℕ) → k < a + n → p k ≡ q k) → find p (count_from a n) ≡ find q (count_from a n)
find_same p q a zero same = refl
find_same p q a (suc n) same =
    ap (λ b. if b then Some a else find p (count_from (suc a) n)) (same a (omega arith)) ∙ ap (λ (o : Option ℕ). if q a then Some a else o) (find_same p q (suc a) n (λ k lt. same k (omega (arith, lt))))

find_below : (p : ℕ → Bool) (a n k : ℕ) → find p (count_from a n) ≡ Some k → k < a + n
find_below p a zero k e = absurd (let f : None ≡ Some k = e in cc (f))
find_below p a (suc n) k e = split (p a) (λ b. (if b then Some a else find p (count_from (suc a) n)) ≡ Some k → k < a + suc n)
    (λ _ f. let same : a ≡ k = cc in omega (arith, same))
    (λ _ f. let low = find_below p (suc a) n k f in omega (arith, low))
    e

-- texts without places

plain_out : (h : Classes) (one other : Places) (out : Out) → TellsNoPlace out → out_text h one out ≡ out_text h other out
plain_out h one other (Number z) plain = refl
plain_out h one other (Pointer at_part) plain = absurd plain
plain_out h one other (TypeName c) plain = refl
plain_out h one other (Dump number c leaves) plain = absurd plain
plain_out h one other (Call f at_part) plain = absurd plain
plain_out h one other (Built c at_part) plain = absurd plain
plain_out h one other (Ending c at_part) plain = absurd plain

plain_text : (h : Classes) (one other : Places) (outs : List Out) → ((out : Out) → Has outs out → TellsNoPlace out) → text_of h one outs ≡ text_of h other outs
plain_text h one other outs plain = flat_map_same (out_text h one) (out_text h other) outs (λ out has. plain_out h one other out (plain out has))

-- what is printed of a front is printed of the whole
front_printed : (front rest all : List Out) (out : Out) → all ≡ front ++ rest → Has (printed front) out → Has (printed all) out
front_printed front rest all out is has =
    let here = has_filter (λ x. not (is_traced x)) front out has in
    filter_has (λ x. not (is_traced x)) all out (subst (λ (xs : List Out). Has xs out) (sym is) (has_left front rest out here.0)) here.1

module _ (h : Classes) (one other : Places) (program : TypedProgram) (steps : ℕ) (one_fits : (run_of h one.size program steps).ending ≡ LimitMet L8 → ⊥) (other_fits : (run_of h other.size program steps).ending ≡ LimitMet L8 → ⊥) (plain : (out : Out) → Contains (printed (run_of h one.size program steps).outs) out → TellsNoPlace out) where
  same : run_of h one.size program steps ≡ run_of h other.size program steps
  same = runs_alike h one.size other.size program steps one_fits other_fits

  plain_run : (out : Out) → Has (printed (run_of h one.size program steps).outs) out → TellsNoPlace out
  plain_run out has = plain out (contains_from_has (printed (run_of h one.size program steps).outs) out has)

  outs_same : (j : ℕ) → j < (run_of h one.size program steps).steps → outs_at h one.size program (suc j) ≡ outs_at h other.size program (suc j)
  outs_same j lt =
      let a = goes_through h one.size program steps j lt in
      let b = goes_through h other.size program steps j (subst (λ (r : Ran). j < r.steps) same lt) in
      sym a.outs ∙ (ap (λ (r : Ran). r.outs) (runs_alike h one.size other.size program (suc j) (a.free L8) (b.free L8)) ∙ b.outs)

  -- the text of the first steps
  text_same : (j : ℕ) → j ≤ (run_of h one.size program steps).steps → text_at h one program false j ≡ text_at h other program false j
  text_same zero le = refl
  text_same (suc j) le =
      let lt : j < (run_of h one.size program steps).steps = omega (arith, le) in
      let front = run_front h one.size program steps j lt in
      plain_text h one other (printed (outs_at h one.size program (suc j))) (λ out has. plain_run out (front_printed (outs_at h one.size program (suc j)) front.0 (run_of h one.size program steps).outs out front.1 has))
      ∙ ap (λ (os : List Out). text_of h other (printed os)) (outs_same j lt)

  passes_same : (j : ℕ) → j < (run_of h one.size program steps).steps → passes_text_limit h one program false j ≡ passes_text_limit h other program false j
  passes_same j lt =
      let more : suc j ≡ j + 1 = omega arith in
      ap (λ (t : List ℕ). nat_lt text_limit (length t)) (subst (λ (n : ℕ). text_at h one program false n ≡ text_at h other program false n) more (text_same (suc j) (omega (arith, lt))))

  found_same : (o : Option ℕ) → find (passes_text_limit h one program false) (upto (run_of h one.size program steps).steps) ≡ o → told_by h one program false (run_of h one.size program steps) o ≡ told_by h other program false (run_of h one.size program steps) o
  found_same None is = ap (λ (t : List ℕ). record { text = t; ending = (run_of h one.size program steps).ending }) (plain_text h one other (printed (run_of h one.size program steps).outs) plain_run)
  found_same (Some j) is =
      let low = find_below (passes_text_limit h one program false) 0 (run_of h one.size program steps).steps j is in
      ap (λ (t : List ℕ). record { text = t; ending = LimitMet L9 }) (text_same j (omega (arith, low)))

  pub one_text : told h one program false steps ≡ told h other program false steps
  one_text =
      found_same (find (passes_text_limit h one program false) (upto (run_of h one.size program steps).steps)) refl
      ∙ (ap (told_by h other program false (run_of h one.size program steps)) (find_same (passes_text_limit h one program false) (passes_text_limit h other program false) 0 (run_of h one.size program steps).steps (λ j lt. passes_same j (omega (arith, lt))))
      ∙ ap (λ (r : Ran). told_by h other program false r (find (passes_text_limit h other program false) (upto r.steps))) same)
