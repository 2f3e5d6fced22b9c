-- A run, turn by turn.
use Rattle.std.proofs.Common.{◌≡◌, ℕ, suc, ◌+◌, ◌-◌, ◌<◌, ⊎_elim, Bool, true, false, List, [], ◌++◌, refl, sym, ap, subst, ◌∙◌, arith}
use Rattle.std.specs.Prelude.{nat_eq}
use Rattle.std.proofs.lemmas.Bool.{eqb-true, eqb-false, cases_lt}
use Rattle.std.proofs.lemmas.List.{append-nil}
use Rattle.cxx_hierarchy.specs.declared.records.ClassId.{ClassId}
use Rattle.cxx_hierarchy.specs.Stops.{limit_no}
use Rattle.path_rules.specs.Rules.{undefined_no}
use Rattle.path_model.specs.declared.outs.Out.{Out}
use Rattle.path_model.specs.States.{ProgramState as PathState}
use Rattle.path_model.specs.Runs.{Move, Moves, IsRefused, IsLimited, IsOver, IsWrong, Ran, IsRunning, is_step_taken, outs_at, ran_by, run_from, run_of, state_behind}
use Rattle.path_model.proofs.RunLaws.{run_on}
use Rattle.byte_code.specs.declared.code.Code.{Code}
use Rattle.byte_machine.specs.declared.turn.MachineTurn.{MachineTurn}
use Rattle.byte_machine.specs.declared.turn.MachineTurn.TheVariants.{Went, Ended, Refused, OutOfSteps as NoSteps, Limit as LimitTurn}
use Rattle.byte_machine.specs.declared.turn.RawOut.{RawOut}
use Rattle.byte_machine.specs.Running.{Fixed}
use Rattle.byte_machine.specs.Turn.{ByteState as Bytes}
use Rattle.code_ops.specs.Setups.{Setup, places}
use Rattle.abi_slots.specs.declared.code_numbers.CodeRow.{CodeRow}
use Rattle.text_told.specs.declared.ending.End.{End}
use Rattle.text_told.specs.declared.ending.End.TheVariants.{Done, Undefined, OutOfSteps, Limit}
use Rattle.text_told.specs.Told.{IsRun, told_ending}
use Rattle.text_told.proofs.Lines.{IsTextOf, ends_with}
use Rattle.text_told.proofs.Texts.{text_none}
use Rattle.abi_refine.specs.Standing.{StandsInSomeWorld, state_after}
use Rattle.abi_refine.specs.Agreed.{move_after, Agreed, AgreesBy, CountsOn, WentTo}
use Rattle.abi_refine.specs.Endings.{turn_of, counted_by}
use Rattle.abi_refine.specs.Reaches.{Lines, ReachesWith, none}

module _ (x : Setup) (code : Code) (numbers : List CodeRow) (trace : Bool) (f : Fixed) (lines : Lines) (first : Bytes) where
  abbrev sizes : ClassId → ℕ
  sizes = (places x).size

  -- a machine that stands for the state behind the steps that it has taken, with the text so far
  pub record Going (b : Bytes) (text : List ℕ) : Type 0 where
    pub stands : StandsInSomeWorld x code numbers f (state_after x b.taken) b
    pub running : IsRunning x.h sizes x.program b.taken
    pub total : b.taken + b.left ≡ first.left
    pub text_is : IsTextOf x.h (places x) x.program trace b.taken text
    pub reaches : ReachesWith f code lines first b text

  -- before the first turn
  pub starts : StandsInSomeWorld x code numbers f (state_after x 0) first → first.taken ≡ 0 → (text : List ℕ) → text ≡ [] → Going first text
  starts stands zero_taken text empty = subst (λ (t : List ℕ). Going first t) (sym empty) (record {
    stands = subst (λ n. StandsInSomeWorld x code numbers f (state_after x n) first) (sym zero_taken) stands;
    running = λ k less. absurd (omega (arith, zero_taken, less));
    total = omega (arith, zero_taken);
    text_is = subst (λ n. IsTextOf x.h (places x) x.program trace n []) (sym zero_taken) (record { text_is = sym (text_none x.h (places x) trace); small = omega arith; room = λ k less. absurd (omega (arith, less)) });
    reaches = none;
  })

  -- a turn that went on: one more step is taken, and the machine stands for the state behind it
  pub record HasGone (b b' : Bytes) (told : List RawOut) : Type 0 where
    pub new : PathState
    pub outs : List Out
    pub moves : move_after x b.taken ≡ Moves new outs
    pub went : WentTo x code numbers f new outs b' told
    pub counts : CountsOn b b'

  gone_by : (b b' : Bytes) (told : List RawOut) (z : Bool) (m : Move) → move_after x b.taken ≡ m → AgreesBy z x code numbers f m b b' told Went → HasGone b b' told
  gone_by b b' told true m is agreed = absurd (let e : Went ≡ NoSteps = agreed.0 in cc (e))
  gone_by b b' told false (Moves new outs) is agreed = record { new = new; outs = outs; moves = is; went = agreed.0.0; counts = agreed.1 }
  gone_by b b' told false (IsRefused rule line) is agreed = absurd (let e : Went ≡ Refused (undefined_no rule) line = agreed.0 in cc (e))
  gone_by b b' told false (IsLimited limit) is agreed = absurd (let e : Went ≡ LimitTurn (limit_no limit) = agreed.0 in cc (e))
  gone_by b b' told false IsOver is agreed = absurd (let e : Went ≡ Ended = agreed.0 in cc (e))
  gone_by b b' told false IsWrong is agreed = absurd agreed.0

  pub gone : (b b' : Bytes) (told : List RawOut) (turn : MachineTurn) → turn ≡ Went → Agreed x code numbers f (move_after x b.taken) b b' told turn → HasGone b b' told
  gone b b' told turn is agreed = gone_by b b' told (nat_eq b.left 0) (move_after x b.taken) refl (subst (λ (t : MachineTurn). Agreed x code numbers f (move_after x b.taken) b b' told t) is agreed)

  -- the state behind the step, and the steps so far
  module _ (b b' : Bytes) (told : List RawOut) (a : HasGone b b' told) where
    next_state : state_after x (b.taken + 1) ≡ a.new
    next_state = let e : suc b.taken ≡ b.taken + 1 = omega arith in ap (state_after x) (sym e) ∙ ap (λ (m : Move). state_behind m (state_after x b.taken)) a.moves

    pub one_more : IsRunning x.h sizes x.program b.taken → IsRunning x.h sizes x.program (b.taken + 1)
    one_more running k less = ⊎_elim (λ (low : k < b.taken). running k low) (λ high. let same : k ≡ b.taken = omega (arith, less, high) in ap (λ n. is_step_taken (move_after x n)) same ∙ ap is_step_taken a.moves) (cases_lt k b.taken)

    pub stands_on : StandsInSomeWorld x code numbers f (state_after x b'.taken) b'
    stands_on = subst (λ (s : PathState). StandsInSomeWorld x code numbers f s b') (sym next_state ∙ ap (state_after x) (sym a.counts.taken)) a.went.stands

  -- an answer that ends the run
  pub record IsEndOf (b : Bytes) (turn : MachineTurn) (e : End) : Type 0 where
    pub answer : turn ≡ turn_of e
    pub outs : (run_of x.h sizes x.program first.left).outs ≡ outs_at x.h sizes x.program b.taken
    pub ending : (run_of x.h sizes x.program first.left).ending ≡ told_ending e
    pub steps : (run_of x.h sizes x.program first.left).steps ≡ counted_by b.taken e

  ended_as : (b : Bytes) (text : List ℕ) → Going b text → (turn : MachineTurn) (e : End) (ran : Ran) → turn ≡ turn_of e → run_from x.h sizes x.program b.left (state_after x b.taken) ≡ ran → ran.outs ≡ [] → ran.ending ≡ told_ending e → b.taken + ran.steps ≡ counted_by b.taken e → IsEndOf b turn e
  ended_as b text going turn e ran answer from silent ending steps =
      let all = ap (λ n. run_of x.h sizes x.program n) (sym going.total) ∙ run_on x.h sizes x.program b.taken b.left going.running in
      record {
        answer = answer;
        outs = ap (λ (r : Ran). r.outs) all ∙ (ap (λ (r : Ran). outs_at x.h sizes x.program b.taken ++ r.outs) from ∙ (ap (λ (os : List Out). outs_at x.h sizes x.program b.taken ++ os) silent ∙ append-nil (outs_at x.h sizes x.program b.taken)));
        ending = ap (λ (r : Ran). r.ending) all ∙ (ap (λ (r : Ran). r.ending) from ∙ ending);
        steps = ap (λ (r : Ran). r.steps) all ∙ (ap (λ (r : Ran). b.taken + r.steps) from ∙ steps);
      }

  -- a run that has a step left, by its first move
  first_move : (b : Bytes) (m : Move) → nat_eq b.left 0 ≡ false → move_after x b.taken ≡ m → run_from x.h sizes x.program b.left (state_after x b.taken) ≡ ran_by m (run_from x.h sizes x.program (b.left - 1))
  first_move b m some is =
      let positive : b.left ≡ 0 → ⊥ = eqb-false b.left 0 some in
      let more : b.left ≡ suc (b.left - 1) = omega (arith, positive) in
      ap (λ n. run_from x.h sizes x.program n (state_after x b.taken)) more ∙ ap (λ (y : Move). ran_by y (run_from x.h sizes x.program (b.left - 1))) is

  over_by : (b b' : Bytes) (text : List ℕ) (told : List RawOut) (turn : MachineTurn) (z : Bool) (m : Move) → Going b text → nat_eq b.left 0 ≡ z → move_after x b.taken ≡ m → (turn ≡ Went → ⊥) → AgreesBy z x code numbers f m b b' told turn → (e : End) × IsEndOf b turn e
  over_by b b' text told turn true m going spent is other agreed =
      let none_left : b.left ≡ 0 = eqb-true b.left 0 spent in
      (OutOfSteps, ended_as b text going turn OutOfSteps _ agreed.0 (ap (λ n. run_from x.h sizes x.program n (state_after x b.taken)) none_left) refl refl (omega arith))
  over_by b b' text told turn false (Moves new outs) going some is other agreed = absurd (other agreed.0.1)
  over_by b b' text told turn false (IsRefused rule line) going some is other agreed = (Undefined rule line, ended_as b text going turn (Undefined rule line) _ agreed.0 (first_move b (IsRefused rule line) some is) refl refl (omega arith))
  over_by b b' text told turn false (IsLimited limit) going some is other agreed = (Limit limit, ended_as b text going turn (Limit limit) _ agreed.0 (first_move b (IsLimited limit) some is) refl refl (omega arith))
  over_by b b' text told turn false IsOver going some is other agreed = (Done, ended_as b text going turn Done _ agreed.0 (first_move b IsOver some is) refl refl refl)
  over_by b b' text told turn false IsWrong going some is other agreed = absurd agreed.0

  pub over : (b b' : Bytes) (text : List ℕ) (told : List RawOut) (turn : MachineTurn) → Going b text → (turn ≡ Went → ⊥) → Agreed x code numbers f (move_after x b.taken) b b' told turn → (e : End) × IsEndOf b turn e
  over b b' text told turn going other agreed = over_by b b' text told turn (nat_eq b.left 0) (move_after x b.taken) going refl refl other agreed

  -- the run of the program, where the answer ended it
  pub run_ended : (b : Bytes) (text : List ℕ) (turn : MachineTurn) (e : End) → Going b text → IsEndOf b turn e → IsRun x.h (places x) x.program trace first.left text e
  run_ended b text turn e going is = ends_with x.h (places x) x.program trace b.taken text first.left e going.text_is is.outs is.ending
