-- What the turns of a run make: its text, its end, and the machine that they leave.
use Rattle.std.proofs.Common.{◌≡◌, ℕ, ◌+◌, ◌<◌, ◌≤◌, Bool, inl, inr, Some, List, [], ◌++◌, length, refl, sym, ap, subst, ◌∙◌, arith}
use Rattle.std.specs.Prelude.{◌⊎◌}
use Rattle.cxx_hierarchy.specs.declared.stop.LimitNo.TheVariants.{L9}
use Rattle.path_model.specs.Runs.{IsRunning, outs_in, run_of}
use Rattle.byte_code.specs.declared.code.Code.{Code}
use Rattle.byte_code.specs.declared.code.ImageBytes.{ImageBytes}
use Rattle.byte_machine.specs.declared.turn.MachineTurn.{MachineTurn}
use Rattle.byte_machine.specs.declared.turn.MachineTurn.TheVariants.{Went, Ended, Refused, OutOfSteps as NoSteps, Limit as LimitTurn}
use Rattle.byte_machine.specs.declared.turn.RawOut.{RawOut}
use Rattle.byte_machine.specs.Running.{Fixed}
use Rattle.byte_machine.specs.Turn.{ByteState as Bytes, Turns, fixed_of, kept_answer, start_state}
use Rattle.byte_machine.proofs.TurnLeads.{answer_kept}
use Rattle.foundation.proofs.Members.{Has}
use Rattle.text_bytes.specs.RawTexts.{HasText, raw_texts, raw_outs_to_show}
use Rattle.code_ops.specs.Setups.{Setup, places}
use Rattle.code_blocks.specs.Lowered.{IsLowered}
use Rattle.abi_world.specs.Made.{HasImage}
use Rattle.byte_memory.specs.Store.{Store, empty}
use Rattle.cxx_subobject.specs.Parts.{most_subobjects}
use Rattle.abi_slots.specs.declared.code_numbers.CodeRow.{CodeRow}
use Rattle.text_told.specs.declared.ending.End.{End}
use Rattle.text_told.specs.declared.ending.End.TheVariants.{Done, Undefined, OutOfSteps, Limit}
use Rattle.text_told.specs.Told.{IsRun, text_limit}
use Rattle.text_told.proofs.Lines.{AreLinesOf, IsTextOf, lines_pass, lines_stand}
use Rattle.abi_refine.specs.Agreed.{Agreed, move_after}
use Rattle.abi_refine.specs.Endings.{counted_by, turn_of}
use Rattle.abi_refine.specs.Executions.{text_of_turn, IsExecution}
use Rattle.abi_refine.specs.Reaches.{ReachesWith, further, by_answer, by_length, Executes}
use Rattle.abi_refine.specs.Standing.{StandsInSomeWorld, state_after}
use Rattle.abi_refine.proofs.EndNumbers.{same_end}
use Rattle.abi_refine.proofs.Going.{Going, HasGone, IsEndOf, gone, one_more, over, run_ended, stands_on}
use Rattle.abi_refine.proofs.TurnLines.{turn_lines, turn_texts}

-- the answer that ends a run is no step
no_step : (e : End) → turn_of e ≡ Went → ⊥
no_step Done is = cc
no_step (Undefined rule line) is = cc
no_step OutOfSteps is = cc
no_step (Limit limit) is = cc

kept_end : (e : End) → kept_answer (turn_of e) ≡ Some (turn_of e)
kept_end Done = refl
kept_end (Undefined rule line) = refl
kept_end OutOfSteps = refl
kept_end (Limit limit) = refl

-- a machine with the same image, code and room
pub fixed_same : (image image' : ImageBytes) (code code' : Code) (parts parts' : ℕ) → image ≡ image' → code ≡ code' → parts ≡ parts' → fixed_of image code parts ≡ fixed_of image' code' parts'
fixed_same image image' code code' parts parts' a b c = ap (λ i. fixed_of i code parts) a ∙ (ap (λ k. fixed_of image' k parts) b ∙ ap (fixed_of image' code') c)

-- before each turn: the machine has the image, code and room with which it was made, and the run goes on
pub record IsAtTurn (x : Setup) (numbers : List CodeRow) (trace : Bool) (image : ImageBytes) (code : Code) (parts : ℕ) (first : Bytes) (image' : ImageBytes) (code' : Code) (parts' : ℕ) (b : Bytes) (text : List ℕ) : Type 0 where
  pub image_is : image' ≡ image
  pub code_is : code' ≡ code
  pub parts_are : parts' ≡ parts
  pub going : Going x code numbers trace (fixed_of image code parts) (text_of_turn x numbers image trace) first b text

-- what a turn of a run gave: it agrees with the next move, and is a turn of the machine's own meaning
pub record HasTurned (x : Setup) (numbers : List CodeRow) (trace : Bool) (code : Code) (f : Fixed) (first b : Bytes) (text : List ℕ) (b' : Bytes) (told : List RawOut) (turn : MachineTurn) : Type 0 where
  pub going : Going x code numbers trace f (text_of_turn x numbers f.image trace) first b text
  pub agreed : Agreed x code numbers f (move_after x b.taken) b b' told turn
  pub turned : Turns f code b [] b' told turn

-- it stands for the state behind the steps so far
pub stands_now : {x : Setup} {numbers : List CodeRow} {trace : Bool} {image : ImageBytes} {code : Code} {parts : ℕ} {first : Bytes} {image' : ImageBytes} {code' : Code} {parts' : ℕ} {b : Bytes} {text : List ℕ} → IsAtTurn x numbers trace image code parts first image' code' parts' b text
    → StandsInSomeWorld x code' numbers (fixed_of image' code' parts') (state_after x b.taken) b
stands_now {x} {numbers} {trace} {image} {code} {parts} {first} {image'} {code'} {parts'} {b} at_turn =
    subst (λ (y : Fixed). StandsInSomeWorld x code' numbers y (state_after x b.taken) b) (sym (fixed_same image' image code' code parts' parts at_turn.image_is at_turn.code_is at_turn.parts_are))
    (subst (λ (k : Code). StandsInSomeWorld x k numbers (fixed_of image code parts) (state_after x b.taken) b) (sym at_turn.code_is) at_turn.going.stands)

pub has_turned : {x : Setup} {numbers : List CodeRow} {trace : Bool} {image : ImageBytes} {code : Code} {parts : ℕ} {first : Bytes} {image' : ImageBytes} {code' : Code} {parts' : ℕ} {b : Bytes} {text : List ℕ} → IsAtTurn x numbers trace image code parts first image' code' parts' b text
    → (b' : Bytes) (told : List RawOut) (turn : MachineTurn) → Agreed x code' numbers (fixed_of image' code' parts') (move_after x b.taken) b b' told turn → Turns (fixed_of image' code' parts') code' b [] b' told turn
    → HasTurned x numbers trace code (fixed_of image code parts) first b text b' told turn
has_turned {x} {numbers} {trace} {image} {code} {parts} {first} {image'} {code'} {parts'} {b} at_turn b' told turn agreed turned =
    let fixed_is = fixed_same image' image code' code parts' parts at_turn.image_is at_turn.code_is at_turn.parts_are in
    record {
      going = at_turn.going;
      agreed = subst (λ (k : Code). Agreed x k numbers (fixed_of image code parts) (move_after x b.taken) b b' told turn) at_turn.code_is (subst (λ (y : Fixed). Agreed x code' numbers y (move_after x b.taken) b b' told turn) fixed_is agreed);
      turned = subst (λ (k : Code). Turns (fixed_of image code parts) k b [] b' told turn) at_turn.code_is (subst (λ (y : Fixed). Turns y code' b [] b' told turn) fixed_is turned);
    }

-- the lines of a turn, by the rows that calls look up
pub lines_are : (x : Setup) (numbers rows : List CodeRow) (image seen : ImageBytes) (trace : Bool) (b : Bytes) (lines : List ℕ) (outs told : List RawOut) → rows ≡ numbers → seen ≡ image → outs ≡ told → lines ≡ raw_texts x.h (places x) rows seen b.memory b.objects (raw_outs_to_show trace outs) → lines ≡ text_of_turn x numbers image trace b told
lines_are x numbers rows image seen trace b lines outs told same sees all are =
    are ∙ (ap (λ (os : List RawOut). raw_texts x.h (places x) rows seen b.memory b.objects (raw_outs_to_show trace os)) all ∙ (ap (λ (i : ImageBytes). text_of_turn x rows i trace b told) sees ∙ ap (λ (ns : List CodeRow). text_of_turn x ns image trace b told) same))

module _ {x : Setup} {numbers : List CodeRow} {trace : Bool} {code : Code} {f : Fixed} {first b : Bytes} {text : List ℕ} {b' : Bytes} {told : List RawOut} {turn : MachineTurn} (given : HasTurned x numbers trace code f first b text b' told turn) where
  -- the turn went on, or it ended the run
  decided : (t : MachineTurn) → turn ≡ t → (turn ≡ Went) ⊎ ((e : End) × (turn ≡ turn_of e))
  decided Went is = inl is
  decided Ended is = inr (let r = over x code numbers trace f (text_of_turn x numbers f.image trace) first b b' text told turn given.going (λ w. let g : Ended ≡ Went = sym is ∙ w in cc (g)) given.agreed in (r.0, r.1.answer))
  decided (Refused rule line) is = inr (let r = over x code numbers trace f (text_of_turn x numbers f.image trace) first b b' text told turn given.going (λ w. let g : Refused rule line ≡ Went = sym is ∙ w in cc (g)) given.agreed in (r.0, r.1.answer))
  decided NoSteps is = inr (let r = over x code numbers trace f (text_of_turn x numbers f.image trace) first b b' text told turn given.going (λ w. let g : NoSteps ≡ Went = sym is ∙ w in cc (g)) given.agreed in (r.0, r.1.answer))
  decided (LimitTurn limit) is = inr (let r = over x code numbers trace f (text_of_turn x numbers f.image trace) first b b' text told turn given.going (λ w. let g : LimitTurn limit ≡ Went = sym is ∙ w in cc (g)) given.agreed in (r.0, r.1.answer))

  pub answers : (turn ≡ Went) ⊎ ((e : End) × (turn ≡ turn_of e))
  answers = decided turn refl

  -- an answer ended the run
  module _ (e : End) (is : turn_of e ≡ turn) where
    its_end : IsEndOf x code numbers trace f (text_of_turn x numbers f.image trace) first b turn e
    its_end =
        let r = over x code numbers trace f (text_of_turn x numbers f.image trace) first b b' text told turn given.going (λ went. no_step e (is ∙ went)) given.agreed in
        subst (λ (y : End). IsEndOf x code numbers trace f (text_of_turn x numbers f.image trace) first b turn y) (same_end r.0 e (sym r.1.answer ∙ sym is)) r.1

    pub ends_run : IsRun x.h (places x) x.program trace first.left text e
    ends_run = run_ended x code numbers trace f (text_of_turn x numbers f.image trace) first b text turn e given.going its_end

    by_end : Turns f code b [] b' told (turn_of e)
    by_end = subst (λ (t : MachineTurn). Turns f code b [] b' told t) (sym is) given.turned

    pub ends_executing : Executes f code (text_of_turn x numbers f.image trace) first b' text e
    ends_executing = record { mid = b; reaches = given.going.reaches; ends = by_answer b' told e by_end }

    pub ends_answered : b'.answer ≡ Some (turn_of e)
    ends_answered = answer_kept f code b b' [] told (turn_of e) by_end (kept_end e)

    pub ends_counted : (steps counted : ℕ) → steps ≡ b.taken → counted ≡ counted_by steps e → counted ≡ (run_of x.h (places x).size x.program first.left).steps
    ends_counted steps counted same by_steps = by_steps ∙ (ap (λ n. counted_by n e) same ∙ sym its_end.steps)

  -- the turn went on
  module _ (is : turn ≡ Went) where
    went : HasGone x code numbers trace f (text_of_turn x numbers f.image trace) first b b' told
    went = gone x code numbers trace f (text_of_turn x numbers f.image trace) first b b' told turn is given.agreed

    by_step : Turns f code b [] b' told Went
    by_step = subst (λ (t : MachineTurn). Turns f code b [] b' told t) is given.turned

    its_lines : (lines : List ℕ) → lines ≡ text_of_turn x numbers f.image trace b' told → AreLinesOf x.h (places x) x.program trace b.taken text lines
    its_lines lines are = record { telling = went.outs; tells = sym (ap outs_in went.moves); are = are ∙ turn_lines x code numbers f b.taken went.new went.outs went.moves b' told went.went trace }

    runs_on : IsRunning x.h (places x).size x.program (b.taken + 1)
    runs_on = one_more x code numbers trace f (text_of_turn x numbers f.image trace) first b b' told went given.going.running

    within : b.taken + 1 ≤ first.left
    within = let c = went.counts.left in let t = given.going.total in omega (arith, c, t)

    -- its lines pass the limit
    pub passes_run : (lines : List ℕ) → lines ≡ text_of_turn x numbers f.image trace b' told → text_limit < length text + length lines → IsRun x.h (places x) x.program trace first.left text (Limit L9)
    passes_run lines are long = lines_pass x.h (places x) x.program trace b.taken text first.left lines given.going.text_is runs_on within (its_lines lines are) long

    pub passes_executing : (lines : List ℕ) → lines ≡ text_of_turn x numbers f.image trace b' told → text_limit < length text + length lines → Executes f code (text_of_turn x numbers f.image trace) first b' text (Limit L9)
    passes_executing lines are long = record { mid = b; reaches = given.going.reaches; ends = by_length b' told by_step (subst (λ (ls : List ℕ). text_limit < length text + length ls) are long) }

    -- they stand behind the text
    pub goes_on : (lines new : List ℕ) → lines ≡ text_of_turn x numbers f.image trace b' told → length text + length lines ≤ text_limit → new ≡ text ++ lines → Going x code numbers trace f (text_of_turn x numbers f.image trace) first b' new
    goes_on lines new are few puts =
        let more = lines_stand x.h (places x) x.program trace b.taken text lines new given.going.text_is (its_lines lines are) few puts in
        record {
          stands = stands_on x code numbers trace f (text_of_turn x numbers f.image trace) first b b' told went;
          running = subst (λ n. IsRunning x.h (places x).size x.program n) (sym went.counts.taken) runs_on;
          total = let c = went.counts.left in let t = given.going.total in let k = went.counts.taken in omega (arith, c, t, k);
          text_is = subst (λ n. IsTextOf x.h (places x) x.program trace n new) (sym went.counts.taken) more;
          reaches = subst (λ (t : List ℕ). ReachesWith f code (text_of_turn x numbers f.image trace) first b' t) (sym (puts ∙ ap (λ (ls : List ℕ). text ++ ls) are)) (further b b' text told given.going.reaches by_step);
        }

    pub less_left : b'.left < b.left
    less_left = let c = went.counts.left in omega (arith, c)

    pub more_taken : b'.taken ≡ b.taken + 1
    more_taken = went.counts.taken

    pub texts_told : (raw : RawOut) → Has told raw → HasText x.h b'.objects raw
    texts_told raw has = turn_texts x code numbers f b.taken went.new went.outs went.moves b' told went.went raw has

-- an execution, by what its program was built into, what its machine was made with, and what that has in the end
pub is_execution : (x : Setup) (steps : ℕ) (trace : Bool) (numbers : List CodeRow) (built first last : Code) (made given left : ImageBytes) (room : ℕ) (memory : Store) (start b : Bytes) (text shown : List ℕ) (end_is : End)
    → IsLowered x built numbers → HasImage x.h (places x) numbers made → first ≡ built → last ≡ first → given ≡ made → left ≡ given → room ≡ most_subobjects
    → start ≡ start_state memory built steps → memory ≡ empty → shown ≡ text
    → Executes (fixed_of given first room) first (text_of_turn x numbers given trace) start b text end_is
    → ((end_is ≡ Limit L9 → ⊥) → b.answer ≡ Some (turn_of end_is))
    → IsExecution x steps trace numbers last left b shown end_is
is_execution x steps trace numbers built first last made given left room memory start b text shown end_is lowered image first_is last_is given_is left_is room_is start_is memory_is shown_is executes ended =
    let begun : start ≡ start_state empty last steps = start_is ∙ (ap (λ m. start_state m built steps) memory_is ∙ ap (λ k. start_state empty k steps) (sym (last_is ∙ first_is))) in
    let in_room : Executes (fixed_of given first most_subobjects) first (text_of_turn x numbers given trace) start b text end_is = subst (λ (n : ℕ). Executes (fixed_of given first n) first (text_of_turn x numbers given trace) start b text end_is) room_is executes in
    let by_image : Executes (fixed_of left first most_subobjects) first (text_of_turn x numbers left trace) start b text end_is = subst (λ (i : ImageBytes). Executes (fixed_of i first most_subobjects) first (text_of_turn x numbers i trace) start b text end_is) (sym left_is) in_room in
    let by_code : Executes (fixed_of left last most_subobjects) last (text_of_turn x numbers left trace) start b text end_is = subst (λ (k : Code). Executes (fixed_of left k most_subobjects) k (text_of_turn x numbers left trace) start b text end_is) (sym last_is) by_image in
    let from_start : Executes (fixed_of left last most_subobjects) last (text_of_turn x numbers left trace) (start_state empty last steps) b text end_is = subst (λ (s : Bytes). Executes (fixed_of left last most_subobjects) last (text_of_turn x numbers left trace) s b text end_is) begun by_code in
    record {
      lowered = subst (λ (k : Code). IsLowered x k numbers) (sym (last_is ∙ first_is)) lowered;
      image_is = subst (λ (i : ImageBytes). HasImage x.h (places x) numbers i) (sym (left_is ∙ given_is)) image;
      executes = subst (λ (t : List ℕ). Executes (fixed_of left last most_subobjects) last (text_of_turn x numbers left trace) (start_state empty last steps) b t end_is) (sym shown_is) from_start;
      ended = ended;
    }
