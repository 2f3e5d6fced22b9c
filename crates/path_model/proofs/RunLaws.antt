-- A run from its front, one step after the other; and what of it depends on the sizes of classes.
use Rattle.std.proofs.Common.{arith, ◌≡◌, ℕ, zero, suc, ◌+◌, ◌-◌, ◌<◌, ◌≤◌, Bool, true, false, ltb, Option, Some, None, List, [], ◌∷◌, ◌++◌, refl, ap, subst, sym, ◌∙◌, append_assoc}
use Rattle.std.proofs.lemmas.Bool.{ltb-true, ltb-false}
use Rattle.std.specs.Prelude.{if◌then◌else◌, nat_lt, ◌↔◌, slice_get}
use Rattle.cxx_hierarchy.specs.declared.records.ClassId.{ClassId}
use Rattle.cxx_hierarchy.specs.declared.stop.LimitNo.{LimitNo}
use Rattle.cxx_hierarchy.specs.declared.stop.LimitNo.TheVariants.{L8}
use Rattle.cxx_hierarchy.specs.Classes.{Classes}
use Rattle.foundation.proofs.Truth.{split}
use Rattle.cxx_program.specs.declared.program.TypedProgram.{TypedProgram}
use Rattle.cxx_program.specs.declared.program.TypedBody.{TypedBody}
use Rattle.cxx_program.specs.declared.statement.TypedStatement.{TypedStatement}
use Rattle.path_model.specs.declared.outs.Out.{Out}
use Rattle.path_model.specs.States.{ProgramState, RunningBody, Frame, InBody, InPlan, owned_body, sight}
use Rattle.path_model.specs.Effects.{Next, Goes, Refuses, Ends, Wrong}
use Rattle.path_model.specs.Steps.{step}
use Rattle.path_model.specs.Runs.{start, size_in_heap, heap_total, most_heap_bytes, call_limit, Demand, asks_nothing, asks_call, asks_object, demand_of, limit_of, statement_limit, body_limit, frame_limit, limit_at, Move, Moves, IsRefused, IsLimited, IsOver, IsWrong, within, move, move_by, OutOfSteps, LimitMet, Ran, ran_by, run_from, run_of, state_at, state_behind, outs_at, outs_in, is_step_taken, IsRunning, behind}

-- one step more
ran_taken : (m : Move) (s : ProgramState) (rest : ProgramState → Ran) → is_step_taken m ≡ true → ran_by m rest ≡ behind 1 (outs_in m) (rest (state_behind m s))
ran_taken (Moves new outs) s rest e = refl
ran_taken (IsRefused rule line) s rest e = absurd (cc)
ran_taken (IsLimited limit) s rest e = absurd (cc)
ran_taken IsOver s rest e = absurd (cc)
ran_taken IsWrong s rest e = absurd (cc)

behind_more : (n : ℕ) (a b : List Out) (ran : Ran) → behind n a (behind 1 b ran) ≡ behind (suc n) (a ++ b) ran
behind_more n a b ran =
    let outs : a ++ (b ++ ran.outs) ≡ (a ++ b) ++ ran.outs = sym (append_assoc a b ran.outs) in
    let steps : n + (1 + ran.steps) ≡ suc n + ran.steps = omega arith in
    ap (λ (x : List Out). record { outs = x; ending = ran.ending; steps = n + (1 + ran.steps) }) outs ∙ ap (λ (x : ℕ). record { outs = (a ++ b) ++ ran.outs; ending = ran.ending; steps = x }) steps

behind_none : (ran : Ran) → ran ≡ behind 0 [] ran
behind_none ran = ap (λ (x : ℕ). record { outs = ran.outs; ending = ran.ending; steps = x }) (omega arith)

-- a run whose first n steps are taken is what they tell, and the run from the state behind them
pub run_on : (h : Classes) (sizes : ClassId → ℕ) (program : TypedProgram) (n m : ℕ) → IsRunning h sizes program n → run_of h sizes program (n + m) ≡ behind n (outs_at h sizes program n) (run_from h sizes program m (state_at h sizes program n))
run_on h sizes program zero m running = ap (λ k. run_of h sizes program k) (omega arith) ∙ behind_none (run_of h sizes program m)
run_on h sizes program (suc n) m running =
    let s = state_at h sizes program n in
    let one = ran_taken (move h sizes program s) s (run_from h sizes program m) (running n (omega arith)) in
    ap (λ k. run_of h sizes program k) (omega arith) ∙ (run_on h sizes program n (suc m) (λ k l. running k (omega (arith, l)))
    ∙ (ap (λ ran. behind n (outs_at h sizes program n) ran) one ∙ behind_more n (outs_at h sizes program n) (outs_in (move h sizes program s)) (run_from h sizes program m (state_at h sizes program (suc n)))))

-- a move that is not taken ends the run in another way than by the number of steps
ran_ended : (m : Move) (rest : ProgramState → Ran) → is_step_taken m ≡ false → (ran_by m rest).ending ≡ OutOfSteps → ⊥
ran_ended (Moves new outs) rest e f = cc
ran_ended (IsRefused rule line) rest e f = cc
ran_ended (IsLimited limit) rest e f = cc
ran_ended IsOver rest e f = cc
ran_ended IsWrong rest e f = cc

taken_in : (h : Classes) (sizes : ClassId → ℕ) (program : TypedProgram) (n : ℕ) → (run_of h sizes program n).ending ≡ OutOfSteps → (k : ℕ) → k < suc n → IsRunning h sizes program k
taken_in h sizes program n e zero l = λ j less. absurd (omega (arith, less))
taken_in h sizes program n e (suc k) l =
    let before = taken_in h sizes program n e k (omega (arith, l)) in
    λ j less. by_place j less before
  where
    s : ProgramState
    s = state_at h sizes program k

    last : IsRunning h sizes program k → is_step_taken (move h sizes program s) ≡ true
    last before = split (is_step_taken (move h sizes program s)) (λ b. is_step_taken (move h sizes program s) ≡ b → b ≡ true) (λ _ _. refl)
        (λ _ f. absurd (ran_ended (move h sizes program s) (run_from h sizes program (n - suc k)) f
        (sym (ap (λ (x : Ran). x.ending) (ap (λ m. run_of h sizes program m) (omega (arith, l)) ∙ run_on h sizes program k (suc (n - suc k)) before)) ∙ e))) refl

    by_place : (j : ℕ) → j < suc k → IsRunning h sizes program k → is_step_taken (move h sizes program (state_at h sizes program j)) ≡ true
    by_place j less before = split (ltb j k) (λ b. is_step_taken (move h sizes program (state_at h sizes program j)) ≡ true)
        (λ e. before j (ltb-true j k e))
        (λ e. let more : k ≤ j = ltb-false j k e in let same : k ≡ j = omega (arith, more, less) in subst (λ i. is_step_taken (move h sizes program (state_at h sizes program i)) ≡ true) same (last before))

-- a run is out of steps exactly where all of them are taken
pub out_of_steps : (h : Classes) (sizes : ClassId → ℕ) (program : TypedProgram) (n : ℕ) → ((run_of h sizes program n).ending ≡ OutOfSteps) ↔ IsRunning h sizes program n
out_of_steps h sizes program n = (λ e. taken_in h sizes program n e n (omega arith), λ running. ap (λ (x : Ran). x.ending) (ap (λ m. run_of h sizes program m) (omega arith) ∙ run_on h sizes program n 0 running))

-- sizes

-- two sizes give one limit, where neither gives the limit on the heap
limit_by : (sizes sizes' : ClassId → ℕ) (s : ProgramState) (demand : Demand) → (limit_of sizes s demand ≡ Some L8 → ⊥) → (limit_of sizes' s demand ≡ Some L8 → ⊥) → limit_of sizes s demand ≡ limit_of sizes' s demand
limit_by sizes sizes' s asks_nothing off off' = refl
limit_by sizes sizes' s asks_call off off' = refl
limit_by sizes sizes' s (asks_object c) off off' = at_heap (over sizes) (over sizes') off off'
  where
    over : (ClassId → ℕ) → Bool
    over z = nat_lt most_heap_bytes (heap_total z s.objects.classes + size_in_heap (z c))

    at_heap : (a b : Bool) → ((if a then Some L8 else call_limit s) ≡ Some L8 → ⊥) → ((if b then Some L8 else call_limit s) ≡ Some L8 → ⊥) → (if a then Some L8 else call_limit s) ≡ (if b then Some L8 else call_limit s)
    at_heap true b off off' = absurd (off refl)
    at_heap false true off off' = absurd (off' refl)
    at_heap false false off off' = refl

limit_same : (sizes sizes' : ClassId → ℕ) (program : TypedProgram) (s : ProgramState) → (limit_at sizes program s ≡ Some L8 → ⊥) → (limit_at sizes' program s ≡ Some L8 → ⊥) → limit_at sizes program s ≡ limit_at sizes' program s
limit_same sizes sizes' program s off off' = of_frames s.frames off off'
  where
    of_statement : (f : RunningBody) (o : Option TypedStatement) → (statement_limit sizes s f o ≡ Some L8 → ⊥) → (statement_limit sizes' s f o ≡ Some L8 → ⊥) → statement_limit sizes s f o ≡ statement_limit sizes' s f o
    of_statement f None off off' = refl
    of_statement f (Some statement) off off' = limit_by sizes sizes' s (demand_of (sight s f) statement.kind) off off'

    of_body : (f : RunningBody) (o : Option TypedBody) → (body_limit sizes s f o ≡ Some L8 → ⊥) → (body_limit sizes' s f o ≡ Some L8 → ⊥) → body_limit sizes s f o ≡ body_limit sizes' s f o
    of_body f None off off' = refl
    of_body f (Some body) off off' = of_statement f (slice_get body.statements f.next) off off'

    of_frames : (frames : List Frame) → (frame_limit sizes program s frames ≡ Some L8 → ⊥) → (frame_limit sizes' program s frames ≡ Some L8 → ⊥) → frame_limit sizes program s frames ≡ frame_limit sizes' program s frames
    of_frames [] off off' = refl
    of_frames (InBody f ∷ below) off off' = of_body f (owned_body program f.owner) off off'
    of_frames (InPlan f ∷ below) off off' = refl

abbrev NotFull : Ran → Type 0
NotFull ran = ran.ending ≡ LimitMet L8 → ⊥

by_next : (next : Next) (l l' : Option LimitNo) (rest rest' : ProgramState → Ran) → ((l ≡ Some L8 → ⊥) → (l' ≡ Some L8 → ⊥) → l ≡ l') → ((s : ProgramState) → NotFull (rest s) → NotFull (rest' s) → rest s ≡ rest' s)
    → NotFull (ran_by (move_by next l) rest) → NotFull (ran_by (move_by next l') rest') → ran_by (move_by next l) rest ≡ ran_by (move_by next l') rest'
by_next (Goes s outs) l l' rest rest' same more a b = at_limits l l' same a b
  where
    met : (limit : LimitNo) → (LimitMet limit ≡ LimitMet L8 → ⊥) → Some limit ≡ Some L8 → ⊥
    met limit off e = let same : limit ≡ L8 = cc in off (ap LimitMet same)

    at_limits : (l l' : Option LimitNo) → ((l ≡ Some L8 → ⊥) → (l' ≡ Some L8 → ⊥) → l ≡ l') → NotFull (ran_by (within l s outs) rest) → NotFull (ran_by (within l' s outs) rest') → ran_by (within l s outs) rest ≡ ran_by (within l' s outs) rest'
    at_limits None None same a b = ap (λ (x : Ran). behind 1 outs x) (more s a b)
    at_limits None (Some k) same a b = let e : None ≡ Some k = same (λ f. absurd (cc)) (met k b) in absurd (cc)
    at_limits (Some k) None same a b = let e : Some k ≡ None = same (met k a) (λ f. absurd (cc)) in absurd (cc)
    at_limits (Some k) (Some j) same a b = let e : Some k ≡ Some j = same (met k a) (met j b) in let f : k ≡ j = cc in ap (λ (x : LimitNo). record { outs = []; ending = LimitMet x; steps = 0 }) f
by_next (Refuses rule line) l l' rest rest' same more a b = refl
by_next Ends l l' rest rest' same more a b = refl
by_next Wrong l l' rest rest' same more a b = refl

run_alike : (h : Classes) (sizes sizes' : ClassId → ℕ) (program : TypedProgram) (n : ℕ) (s : ProgramState) → NotFull (run_from h sizes program n s) → NotFull (run_from h sizes' program n s) → run_from h sizes program n s ≡ run_from h sizes' program n s
run_alike h sizes sizes' program zero s a b = refl
run_alike h sizes sizes' program (suc n) s a b = by_next (step h program s) (limit_at sizes program s) (limit_at sizes' program s) (run_from h sizes program n) (run_from h sizes' program n) (limit_same sizes sizes' program s) (λ s'. run_alike h sizes sizes' program n s') a b

-- the sizes of classes decide nothing but the limit on the heap
pub runs_alike : (h : Classes) (sizes sizes' : ClassId → ℕ) (program : TypedProgram) (n : ℕ) → ((run_of h sizes program n).ending ≡ LimitMet L8 → ⊥) → ((run_of h sizes' program n).ending ≡ LimitMet L8 → ⊥) → run_of h sizes program n ≡ run_of h sizes' program n
runs_alike h sizes sizes' program n a b = run_alike h sizes sizes' program n (start program) a b

move_bounded : (m : Move) (rest : ProgramState → Ran) (n : ℕ) → ((s : ProgramState) → (rest s).steps ≤ n) → (ran_by m rest).steps ≤ suc n
move_bounded (Moves new outs) rest n a = let l = a new in omega (arith, l)
move_bounded (IsRefused rule line) rest n a = omega arith
move_bounded (IsLimited limit) rest n a = omega arith
move_bounded IsOver rest n a = omega arith
move_bounded IsWrong rest n a = omega arith

from_bounded : (h : Classes) (sizes : ClassId → ℕ) (program : TypedProgram) (n : ℕ) (s : ProgramState) → (run_from h sizes program n s).steps ≤ n
from_bounded h sizes program zero s = omega arith
from_bounded h sizes program (suc n) s = move_bounded (move h sizes program s) (run_from h sizes program n) n (λ s'. from_bounded h sizes program n s')

pub run_bounded : (h : Classes) (sizes : ClassId → ℕ) (program : TypedProgram) (n : ℕ) → (run_of h sizes program n).steps ≤ n
run_bounded h sizes program n = from_bounded h sizes program n (start program)
