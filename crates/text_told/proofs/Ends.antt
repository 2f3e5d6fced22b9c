-- What a run tells at its end: the first step that passes the limit, or none.
use Rattle.std.proofs.Common.{◌≡◌, ◌∙◌, ℕ, zero, suc, ◌+◌, ◌≤◌, ◌<◌, arith, Bool, true, false, Some, None, List, [], ◌++◌, length, refl, ap, subst, sym, append_assoc, length-append}
use Rattle.std.specs.Prelude.{find, if◌then◌else◌}
use Rattle.std.proofs.lemmas.List.{append-nil}
use Rattle.std.proofs.lemmas.Bool.{ltb-true}
use Rattle.foundation.proofs.Truth.{is_false}
use Rattle.cxx_hierarchy.specs.declared.records.ClassId.{ClassId}
use Rattle.cxx_hierarchy.specs.Classes.{Classes}
use Rattle.cxx_program.specs.declared.program.TypedProgram.{TypedProgram}
use Rattle.path_plan.specs.Plans.{count_from}
use Rattle.path_model.specs.declared.outs.Out.{Out}
use Rattle.path_model.specs.States.{ProgramState}
use Rattle.path_model.specs.Runs.{Move, Moves, IsRefused, IsLimited, IsOver, IsWrong, IsRunning, move, ran_by, run_from, run_of, state_at, state_behind, outs_at, outs_in}
use Rattle.path_model.proofs.RunLaws.{run_on}
use Rattle.abi_sound.specs.Places.{Places}
use Rattle.text_told.specs.OutTexts.{outs_to_show, text_of}
use Rattle.text_told.specs.Told.{passes_text_limit, text_at, text_limit, told, told_by}
use Rattle.text_told.proofs.Texts.{text_append}

-- the first number that passes a test

find_none : (p : ℕ → Bool) (a n : ℕ) → ((k : ℕ) → a ≤ k → k < a + n → p k ≡ false) → find p (count_from a n) ≡ None
find_none p a zero fails = refl
find_none p a (suc n) fails = ap (λ q. if q then Some a else find p (count_from (suc a) n)) (fails a (omega arith) (omega arith)) ∙ find_none p (suc a) n (λ k le lt. fails k (omega arith) (omega arith))

find_at : (p : ℕ → Bool) (a n b k : ℕ) → k ≡ a + b → b < n → ((j : ℕ) → a ≤ j → j < k → p j ≡ false) → p k ≡ true → find p (count_from a n) ≡ Some k
find_at p a zero b k is lt fails passed = absurd (omega arith)
find_at p a (suc n) zero k is lt fails passed =
    let same : k ≡ a = omega arith in
    ap (λ q. if q then Some a else find p (count_from (suc a) n)) (ap p (sym same) ∙ passed) ∙ ap (λ (j : ℕ). Some j) (sym same)
find_at p a (suc n) (suc b) k is lt fails passed =
    ap (λ q. if q then Some a else find p (count_from (suc a) n)) (fails a (omega arith) (omega arith)) ∙ find_at p (suc a) n b k (omega arith) (omega arith) (λ j le less. fails j (omega arith) less) passed

-- what the first steps of a run tell stands at the front of all that it tells

module _ (h : Classes) (sizes : ClassId → ℕ) (program : TypedProgram) where
  abbrev Front : ℕ → ℕ → ℕ → Type 0
  Front m n k = (rest : List Out) × (outs_at h sizes program n ++ (run_from h sizes program m (state_at h sizes program n)).outs ≡ outs_at h sizes program (suc (n + k)) ++ rest)

  -- the same, of a first move
  abbrev FrontBy : ℕ → ℕ → ℕ → Move → Type 0
  FrontBy m n k x = (rest : List Out) × (outs_at h sizes program n ++ (ran_by x (run_from h sizes program m)).outs ≡ outs_at h sizes program (suc (n + k)) ++ rest)

  no_more : (n : ℕ) → n + 0 ≡ n
  no_more n = omega arith

  none_more : (k : ℕ) → 0 + k ≡ k
  none_more k = omega arith

  one_less : (n k : ℕ) → suc n + k ≡ n + suc k
  one_less n k = omega arith

  front_first : (m n : ℕ) (s : ProgramState) (outs : List Out) → move h sizes program (state_at h sizes program n) ≡ Moves s outs → FrontBy m n 0 (Moves s outs)
  front_first m n s outs is =
      let told : outs_at h sizes program (suc (n + 0)) ≡ outs_at h sizes program n ++ outs = ap (λ j. outs_at h sizes program (suc j)) (no_more n) ∙ ap (λ x. outs_at h sizes program n ++ outs_in x) is in
      ((run_from h sizes program m s).outs, sym (append_assoc (outs_at h sizes program n) outs (run_from h sizes program m s).outs) ∙ ap (λ (xs : List Out). xs ++ (run_from h sizes program m s).outs) (sym told))

  front_later : (m n k : ℕ) (s : ProgramState) (outs : List Out) → move h sizes program (state_at h sizes program n) ≡ Moves s outs → Front m (suc n) k → FrontBy m n (suc k) (Moves s outs)
  front_later m n k s outs is (rest, e) =
      let here : state_at h sizes program (suc n) ≡ s = ap (λ x. state_behind x (state_at h sizes program n)) is in
      let told : outs_at h sizes program (suc n) ≡ outs_at h sizes program n ++ outs = ap (λ x. outs_at h sizes program n ++ outs_in x) is in
      let f : (outs_at h sizes program n ++ outs) ++ (run_from h sizes program m s).outs ≡ outs_at h sizes program (suc (suc n + k)) ++ rest =
      ap (λ (xs : List Out). xs ++ (run_from h sizes program m s).outs) (sym told) ∙ (ap (λ (x : ProgramState). outs_at h sizes program (suc n) ++ (run_from h sizes program m x).outs) (sym here) ∙ e) in
      (rest, sym (append_assoc (outs_at h sizes program n) outs (run_from h sizes program m s).outs) ∙ (f ∙ ap (λ j. outs_at h sizes program (suc j) ++ rest) (one_less n k)))

  front_over : (m n : ℕ) → move h sizes program (state_at h sizes program n) ≡ IsOver → FrontBy m n 0 IsOver
  front_over m n is =
      let told : outs_at h sizes program (suc (n + 0)) ≡ outs_at h sizes program n ++ [] = ap (λ j. outs_at h sizes program (suc j)) (no_more n) ∙ ap (λ x. outs_at h sizes program n ++ outs_in x) is in
      ([], sym told ∙ sym (append-nil (outs_at h sizes program (suc (n + 0)))))

  front_by : (m n k : ℕ) → ((j : ℕ) → j < (run_from h sizes program m (state_at h sizes program (suc n))).steps → Front m (suc n) j) → (x : Move) → move h sizes program (state_at h sizes program n) ≡ x → k < (ran_by x (run_from h sizes program m)).steps → FrontBy m n k x
  front_by m n zero rule (Moves s outs) is lt = front_first m n s outs is
  front_by m n (suc k) rule (Moves s outs) is lt =
      let here : s ≡ state_at h sizes program (suc n) = sym (ap (λ x. state_behind x (state_at h sizes program n)) is) in
      let less : k < (run_from h sizes program m s).steps = omega (arith, lt) in
      front_later m n k s outs is (rule k (subst (λ (x : ProgramState). k < (run_from h sizes program m x).steps) here less))
  front_by m n k rule (IsRefused rule_met line) is lt = absurd (omega (arith, lt))
  front_by m n k rule (IsLimited limit) is lt = absurd (omega (arith, lt))
  front_by m n zero rule IsOver is lt = front_over m n is
  front_by m n (suc k) rule IsOver is lt = absurd (omega (arith, lt))
  front_by m n k rule IsWrong is lt = absurd (omega (arith, lt))

  front : (m n k : ℕ) → k < (run_from h sizes program m (state_at h sizes program n)).steps → Front m n k
  front zero n k lt = absurd (omega (arith, lt))
  front (suc m) n k lt = front_by m n k (λ j less. front m (suc n) j less) (move h sizes program (state_at h sizes program n)) refl lt

  pub run_front : (steps k : ℕ) → k < (run_of h sizes program steps).steps → (rest : List Out) × ((run_of h sizes program steps).outs ≡ outs_at h sizes program (suc k) ++ rest)
  run_front steps k lt = let f = front steps 0 k lt in (f.0, f.1 ∙ ap (λ j. outs_at h sizes program (suc j) ++ f.0) (none_more k))

-- what is left of a budget
more_of : (a b : ℕ) → a ≤ b → (m : ℕ) × (b ≡ a + m)
more_of zero b le = (b, omega arith)
more_of (suc a) zero le = absurd (omega (arith, le))
more_of (suc a) (suc b) le = let r = more_of a b (omega (arith, le)) in let m = r.0 in let e : b ≡ a + m = r.1 in (m, omega (arith, e))

-- the text

more_left : (xs ys : List ℕ) (n : ℕ) → length (xs ++ ys) ≤ n → length xs ≤ n
more_left xs ys n le = let e = length-append xs ys in omega (arith, e, le)

one_more : (n : ℕ) → n + 1 ≡ suc n
one_more n = omega arith

-- a text that is short does not pass the limit
pub small_passes : (h : Classes) (l : Places) (program : TypedProgram) (trace : Bool) (k : ℕ) → length (text_at h l program trace (k + 1)) ≤ text_limit → passes_text_limit h l program trace k ≡ false
small_passes h l program trace k le = is_false (passes_text_limit h l program trace k) (λ t. let lt = ltb-true text_limit (length (text_at h l program trace (k + 1))) t in omega (arith, lt, le))

module _ (h : Classes) (l : Places) (program : TypedProgram) (trace : Bool) where
  -- where all that is told is short, no step passes the limit
  short : (steps k : ℕ) → length (text_of h l (outs_to_show trace (run_of h l.size program steps).outs)) ≤ text_limit → k < (run_of h l.size program steps).steps → passes_text_limit h l program trace k ≡ false
  short steps k le lt =
      let f = run_front h l.size program steps k lt in
      let told_is : text_of h l (outs_to_show trace (run_of h l.size program steps).outs) ≡ text_at h l program trace (suc k) ++ text_of h l (outs_to_show trace f.0) = ap (λ (xs : List Out). text_of h l (outs_to_show trace xs)) f.1 ∙ text_append h l trace (outs_at h l.size program (suc k)) f.0 in
      let all : length (text_at h l program trace (suc k) ++ text_of h l (outs_to_show trace f.0)) ≤ text_limit = subst (λ (t : List ℕ). length t ≤ text_limit) told_is le in
      small_passes h l program trace k (subst (λ (j : ℕ). length (text_at h l program trace j) ≤ text_limit) (sym (one_more k)) (more_left (text_at h l program trace (suc k)) (text_of h l (outs_to_show trace f.0)) text_limit all))

  -- the run ends within the limit
  pub told_whole : (steps : ℕ) → length (text_of h l (outs_to_show trace (run_of h l.size program steps).outs)) ≤ text_limit → told h l program trace steps ≡ told_by h l program trace (run_of h l.size program steps) None
  told_whole steps le = ap (told_by h l program trace (run_of h l.size program steps)) (find_none (passes_text_limit h l program trace) 0 (run_of h l.size program steps).steps (λ k low lt. short steps k le (omega (arith, lt))))

  -- step n was taken
  taken_more : (n m : ℕ) → IsRunning h l.size program (n + 1) → n < (run_of h l.size program ((n + 1) + m)).steps
  taken_more n m running = let e = ap (λ ran. ran.steps) (run_on h l.size program (n + 1) m running) in omega (arith, e)

  -- step n is the first that passes the limit
  pub told_to : (n steps : ℕ) → IsRunning h l.size program (n + 1) → n + 1 ≤ steps → ((k : ℕ) → k < n → passes_text_limit h l program trace k ≡ false) → passes_text_limit h l program trace n ≡ true → told h l program trace steps ≡ told_by h l program trace (run_of h l.size program steps) (Some n)
  told_to n steps running le room passed =
      let left = more_of (n + 1) steps le in
      let lt : n < (run_of h l.size program steps).steps = subst (λ (j : ℕ). n < (run_of h l.size program j).steps) (sym left.1) (taken_more n left.0 running) in
      ap (told_by h l program trace (run_of h l.size program steps)) (find_at (passes_text_limit h l program trace) 0 (run_of h l.size program steps).steps n n (omega arith) lt (λ j low less. room j less) passed)
