-- Each turn from a state without an answer is one step, unless none is left.
use Rattle.std.proofs.Common.{◌≡◌, ℕ, ◌+◌, Bool, true, false, Option, Some, None, List, [], ◌∷◌, refl, sym, ap, subst, arith}
use Rattle.std.specs.Prelude.{nat_eq, slice_get, ◌-◌}
use Rattle.std.proofs.lemmas.Bool.{eqb-true, eqb-false}
use Rattle.byte_code.specs.declared.code.Block.{Block}
use Rattle.byte_code.specs.declared.code.Code.{Code}
use Rattle.byte_code.specs.declared.code.ImageBytes.{ImageBytes}
use Rattle.byte_memory.specs.Store.{empty}
use Rattle.cxx_subobject.specs.Parts.{most_subobjects}
use Rattle.byte_machine.specs.declared.turn.MachineTurn.{MachineTurn}
use Rattle.byte_machine.specs.declared.turn.MachineTurn.TheVariants.{Went, Ended, Refused, OutOfSteps as NoSteps, Limit as LimitTurn}
use Rattle.byte_machine.specs.declared.turn.RawOut.{RawOut}
use Rattle.byte_machine.specs.Frames.{MachineFrame}
use Rattle.byte_machine.specs.Running.{Fixed}
use Rattle.byte_machine.specs.Turn.{ByteState, start_state, fixed_of, at_block, kept_answer, Turns, TurnsBy, TurnsFrom, TurnsIn}
use Rattle.code_ops.specs.Setups.{Setup}
use Rattle.abi_slots.specs.declared.code_numbers.CodeRow.{CodeRow}
use Rattle.text_told.specs.declared.ending.End.{End}
use Rattle.text_told.specs.declared.ending.End.TheVariants.{Done, Undefined, OutOfSteps, Limit}
use Rattle.abi_refine.specs.Endings.{turn_of}
use Rattle.abi_refine.specs.Reaches.{Lines, ReachesWith, none, further, EndsWith, by_answer, by_length, Executes}
use Rattle.abi_refine.specs.Executions.{IsExecution, text_of_turn}
use Rattle.run_laws.specs.Steps.{turn_count, closing_step, step_count, TakesSteps, HasTaken}
use Rattle.run_laws.proofs.Stopping.{block_is_timeless}

-- one turn

abbrev turn_step : MachineTurn → ℕ
turn_step Went = 1
turn_step Ended = 1
turn_step (Refused rule line) = 1
turn_step NoSteps = 0
turn_step (LimitTurn number) = 1

one_step : (turn : MachineTurn) → (turn ≡ NoSteps → ⊥) → turn_step turn ≡ 1
one_step Went timeless = refl
one_step Ended timeless = refl
one_step (Refused rule line) timeless = refl
one_step NoSteps timeless = absurd (timeless refl)
one_step (LimitTurn number) timeless = refl

record HasStepped (b b' : ByteState) (turn : MachineTurn) : Type 0 where
  pub steps : TakesSteps (turn_step turn) b b'
  pub answer : b'.answer ≡ kept_answer turn
  pub spent : turn ≡ NoSteps → b'.left ≡ 0

module _ (f : Fixed) (code : Code) (b b' : ByteState) (told : List RawOut) (turn : MachineTurn) where
  by_block : (top : MachineFrame) (below : List MachineFrame) (block : Option Block) → nat_eq b.left 0 ≡ false → TurnsIn f b top below block [] b' told turn → HasStepped b b' turn
  by_block top below None some t = absurd t
  by_block top below (Some block) some t =
      let timeless : turn ≡ NoSteps → ⊥ = block_is_timeless f block.ops (at_block b top below [] block.line) t.0 turn t.1.0 in
      let positive : b.left ≡ 0 → ⊥ = eqb-false b.left 0 some in
      let one_more : b'.taken ≡ b.taken + 1 = ap (λ (x : ByteState). x.taken) t.1.1 in
      let one_less : b'.left ≡ b.left - 1 = ap (λ (x : ByteState). x.left) t.1.1 in
      let rejoined : b'.left + 1 ≡ b.left = omega (arith, positive, one_less) in
      record {
        steps = subst (λ n. TakesSteps n b b') (sym (one_step turn timeless)) (record { taken = one_more; left = rejoined });
        answer = ap (λ (x : ByteState). x.answer) t.1.1;
        spent = λ e. absurd (timeless e);
      }

  by_frames : (frames : List MachineFrame) → nat_eq b.left 0 ≡ false → TurnsFrom f code b frames [] b' told turn → HasStepped b b' turn
  by_frames [] some t = absurd t
  by_frames (top ∷ below) some t = by_block top below (slice_get code.blocks top.block) some t

  by_state : (answer : Option MachineTurn) (spent : Bool) → answer ≡ None → nat_eq b.left 0 ≡ spent → TurnsBy answer spent f code b [] b' told turn → HasStepped b b' turn
  by_state (Some answer) spent going is t = cc
  by_state None true going is t =
      let none_left : b.left ≡ 0 = eqb-true b.left 0 is in
      subst (λ (k : MachineTurn). HasStepped b b' k) (sym t.2)
      (subst (λ (x : ByteState). HasStepped b x NoSteps) (sym t.0) (record { steps = record { taken = omega arith; left = omega arith }; answer = refl; spent = λ e. none_left }))
  by_state None false going is t = by_frames b.frames is t

one_turn : (f : Fixed) (code : Code) (b b' : ByteState) (told : List RawOut) (turn : MachineTurn) → b.answer ≡ None → Turns f code b [] b' told turn → HasStepped b b' turn
one_turn f code b b' told turn going t = by_state f code b b' told turn b.answer (nat_eq b.left 0) going refl t

-- many turns

more_steps : (n k : ℕ) (b mid b' : ByteState) → TakesSteps n b mid → TakesSteps k mid b' → TakesSteps (n + k) b b'
more_steps n k b mid b' first last =
    let taken : mid.taken ≡ b.taken + n = first.taken in
    let left : mid.left + n ≡ b.left = first.left in
    let taken' : b'.taken ≡ mid.taken + k = last.taken in
    let left' : b'.left + k ≡ mid.left = last.left in
    record { taken = omega arith; left = omega arith }

reached : (f : Fixed) (code : Code) (lines : Lines) (b b' : ByteState) (text : List ℕ) (turns : ReachesWith f code lines b b' text) → b.answer ≡ None → TakesSteps (turn_count turns) b b' × (b'.answer ≡ None)
reached f code lines b b' text none going = (record { taken = omega arith; left = omega arith }, going)
reached f code lines b b' text (further mid last so_far told before t) going =
    let earlier = reached f code lines b mid so_far before going in
    let turned = one_turn f code mid last told Went earlier.1 t in
    (more_steps (turn_count before) 1 b mid last earlier.0 turned.steps, turned.answer)

-- the end

closing : (end_is : End) → turn_step (turn_of end_is) ≡ closing_step end_is
closing Done = refl
closing (Undefined rule line) = refl
closing OutOfSteps = refl
closing (Limit limit) = refl

closes : (f : Fixed) (code : Code) (lines : Lines) (mid b' : ByteState) (text : List ℕ) (end_is : End) → mid.answer ≡ None → EndsWith f code lines mid text b' end_is → TakesSteps (closing_step end_is) mid b' × (end_is ≡ OutOfSteps → b'.left ≡ 0)
closes f code lines mid b' text end_is going (by_answer last told other t) =
    let turned = one_turn f code mid last told (turn_of other) going t in
    (subst (λ n. TakesSteps n mid last) (closing other) turned.steps, λ e. turned.spent (ap turn_of e))
closes f code lines mid b' text end_is going (by_length last told t long) = ((one_turn f code mid last told Went going t).steps, λ e. cc)

-- the laws

pub turns_law : (f : Fixed) (code : Code) (lines : Lines) (b b' : ByteState) (text : List ℕ) (turns : ReachesWith f code lines b b' text) → b.answer ≡ None → TakesSteps (turn_count turns) b b'
turns_law f code lines b b' text turns going = (reached f code lines b b' text turns going).0

pub run_law : (f : Fixed) (code : Code) (lines : Lines) (b b' : ByteState) (text : List ℕ) (end_is : End) (run : Executes f code lines b b' text end_is) → b.answer ≡ None → TakesSteps (step_count run) b b'
run_law f code lines b b' text end_is run going =
    let before = reached f code lines b run.mid text run.reaches going in
    more_steps (turn_count run.reaches) (closing_step end_is) b run.mid b' before.0 (closes f code lines run.mid b' text end_is before.1 run.ends).0

spent_law : (f : Fixed) (code : Code) (lines : Lines) (b b' : ByteState) (text : List ℕ) (end_is : End) → Executes f code lines b b' text end_is → b.answer ≡ None → end_is ≡ OutOfSteps → b'.left ≡ 0
spent_law f code lines b b' text end_is run going = (closes f code lines run.mid b' text end_is (reached f code lines b run.mid text run.reaches going).1 run.ends).1

pub execution_law : (x : Setup) (steps : ℕ) (trace : Bool) (numbers : List CodeRow) (code : Code) (image : ImageBytes) (b : ByteState) (text : List ℕ) (end_is : End) (run : IsExecution x steps trace numbers code image b text end_is) → HasTaken steps (step_count run.executes) b end_is
execution_law x steps trace numbers code image b text end_is run =
    let f = fixed_of image code most_subobjects in
    let lines = text_of_turn x numbers image trace in
    let all = run_law f code lines (start_state empty code steps) b text end_is run.executes refl in
    let n = step_count run.executes in
    let from_none : b.taken ≡ 0 + n = all.taken in
    let left : b.left + n ≡ steps = all.left in
    record {
      taken = omega arith;
      all = omega arith;
      spent = λ e. let none_left : b.left ≡ 0 = spent_law f code lines (start_state empty code steps) b text end_is run.executes refl e in omega arith;
    }
