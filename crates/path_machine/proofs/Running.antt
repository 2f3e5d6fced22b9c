-- The steps of a run, one by one: a step more, and the end behind the steps that were taken.
use Rattle.std.proofs.Common.{◌≡◌, ◌<◌, ◌≤◌, ℕ, zero, suc, ◌+◌, ◌⊎◌, inl, inr, true, List, [], refl, ap, ◌∙◌, arith}
use Rattle.std.proofs.lemmas.List.{append-nil}
use Rattle.cxx_hierarchy.specs.declared.records.ClassId.{ClassId}
use Rattle.cxx_hierarchy.specs.Classes.{Classes}
use Rattle.cxx_program.specs.declared.program.TypedProgram.{TypedProgram}
use Rattle.path_model.specs.declared.outs.Out.{Out}
use Rattle.path_model.specs.States.{ProgramState}
use Rattle.path_model.specs.Runs.{Move, Moves, Ending, OutOfSteps, Ran, IsRunning, is_step_taken, move, behind, ran_by, run_from, run_of, state_at, state_behind, outs_at}

same_or_more : (k n : ℕ) → (k < n) ⊎ (k ≡ n) → (suc k < suc n) ⊎ (suc k ≡ suc n)
same_or_more k n (inl less) = inl (omega arith)
same_or_more k n (inr same) = inr (ap suc same)

less_or_same : (k n : ℕ) → k < n + 1 → (k < n) ⊎ (k ≡ n)
less_or_same zero zero lt = inr refl
less_or_same zero (suc n) lt = inl (omega arith)
less_or_same (suc k) zero lt = absurd (omega arith)
less_or_same (suc k) (suc n) lt = same_or_more k n (less_or_same k n (omega arith))

runs_case : (h : Classes) (sizes : ClassId → ℕ) (program : TypedProgram) (n k : ℕ) (s : ProgramState) (outs : List Out) → IsRunning h sizes program n → move h sizes program (state_at h sizes program n) ≡ Moves s outs → (k < n) ⊎ (k ≡ n) → is_step_taken (move h sizes program (state_at h sizes program k)) ≡ true
runs_case h sizes program n k s outs runs is (inl less) = runs k less
runs_case h sizes program n k s outs runs is (inr same) = ap (λ j. is_step_taken (move h sizes program (state_at h sizes program j))) same ∙ ap is_step_taken is

-- one step more was taken
pub runs_longer : (h : Classes) (sizes : ClassId → ℕ) (program : TypedProgram) (n : ℕ) (s : ProgramState) (outs : List Out) → IsRunning h sizes program n → move h sizes program (state_at h sizes program n) ≡ Moves s outs → IsRunning h sizes program (n + 1)
runs_longer h sizes program n s outs runs is k lt = runs_case h sizes program n k s outs runs is (less_or_same k n lt)

-- what a run is that goes on from its n-th state
abbrev pub GoesOn : Classes → (ClassId → ℕ) → TypedProgram → Type 0
GoesOn h sizes program = (n m : ℕ) → IsRunning h sizes program n → run_of h sizes program (n + m) ≡ behind n (outs_at h sizes program n) (run_from h sizes program m (state_at h sizes program n))

-- a run by its parts
abbrev pub ran : List Out → Ending → ℕ → Ran
ran outs ending steps = record { outs = outs; ending = ending; steps = steps }

no_more : (k : ℕ) → k + 0 ≡ k
no_more k = omega arith

no_less : (n budget : ℕ) → n ≤ budget → budget ≤ n → budget ≡ n + 0
no_less n budget le ge = omega arith

-- what is left of a budget
left_of : (n budget : ℕ) → n < budget → (k : ℕ) × (budget ≡ n + suc k)
left_of zero zero lt = absurd (omega arith)
left_of zero (suc b) lt = (b, omega arith)
left_of (suc n) zero lt = absurd (omega arith)
left_of (suc n) (suc b) lt =
    let r = left_of n b (omega arith) in
    let k = r.0 in
    let e : b ≡ n + suc k = r.1 in
    (k, omega arith)

-- the run of a budget that was spent
pub spent : (h : Classes) (sizes : ClassId → ℕ) (program : TypedProgram) (n budget : ℕ) → GoesOn h sizes program → IsRunning h sizes program n → n ≤ budget → budget ≤ n →
    run_of h sizes program budget ≡ ran (outs_at h sizes program n) OutOfSteps n
spent h sizes program n budget goes runs le ge =
    ap (run_of h sizes program) (no_less n budget le ge) ∙ (goes n 0 runs ∙ (ap (λ xs. ran xs OutOfSteps (n + 0)) (append-nil (outs_at h sizes program n)) ∙ ap (ran (outs_at h sizes program n) OutOfSteps) (no_more n)))

-- the run that a move ends
pub ended_by : (h : Classes) (sizes : ClassId → ℕ) (program : TypedProgram) (n budget : ℕ) (m : Move) (ending : Ending) (steps : ℕ) → GoesOn h sizes program → IsRunning h sizes program n → n < budget → move h sizes program (state_at h sizes program n) ≡ m →
    ((rest : ProgramState → Ran) → ran_by m rest ≡ ran [] ending steps) →
    run_of h sizes program budget ≡ ran (outs_at h sizes program n) ending (n + steps)
ended_by h sizes program n budget m ending steps goes runs lt is by =
    let left = left_of n budget lt in
    ap (run_of h sizes program) left.1 ∙ (goes n (suc left.0) runs ∙ (ap (λ x. behind n (outs_at h sizes program n) (ran_by x (run_from h sizes program left.0))) is ∙ (ap (behind n (outs_at h sizes program n)) (by (run_from h sizes program left.0)) ∙ ap (λ xs. ran xs ending (n + steps)) (append-nil (outs_at h sizes program n)))))

one_more : (n : ℕ) → n + 1 ≡ suc n
one_more n = omega arith

-- the state behind a step
pub state_is : (h : Classes) (sizes : ClassId → ℕ) (program : TypedProgram) (n : ℕ) (s : ProgramState) (outs : List Out) → move h sizes program (state_at h sizes program n) ≡ Moves s outs → state_at h sizes program (n + 1) ≡ s
state_is h sizes program n s outs is = ap (state_at h sizes program) (one_more n) ∙ ap (λ m. state_behind m (state_at h sizes program n)) is
