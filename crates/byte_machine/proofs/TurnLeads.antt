-- What a turn leads to.
use Rattle.std.proofs.Common.{◌≡◌, Option, Some, None, List, [], ◌∷◌, refl, nat_eq, Bool, true, false}
use Rattle.std.specs.List.{slice_get}
use Rattle.byte_code.specs.declared.code.Code.{Code}
use Rattle.byte_code.specs.declared.code.Block.{Block}
use Rattle.byte_machine.specs.declared.turn.RawOut.{RawOut}
use Rattle.byte_machine.specs.declared.turn.MachineTurn.{MachineTurn}
use Rattle.byte_machine.specs.Frames.{MachineFrame}
use Rattle.byte_machine.specs.Running.{Fixed, Running}
use Rattle.byte_machine.specs.Leads.{LeadsBlock}
use Rattle.byte_machine.specs.Turn.{ByteState, after_block, at_block, Turns, TurnsBy, TurnsFrom, TurnsIn, HasTurn, kept_answer}
use Rattle.byte_machine.proofs.Leads.{IsBlockDefined-leads, RunsBlock-leads}

-- in this state a turn runs this block, over the frame `top`
pub record IsNext (code : Code) (b : ByteState) (top : MachineFrame) (below : List MachineFrame) (block : Block) : Type 0 where
  pub going : b.answer ≡ None
  pub left : nat_eq b.left 0 ≡ false
  pub frames : b.frames ≡ top ∷ below
  pub there : slice_get code.blocks top.block ≡ Some block

-- what a turn that runs a block leads to
pub record Ran (b b' : ByteState) (outs' : List RawOut) (turn : MachineTurn) (P : Running → MachineTurn → Type 0) : Type 0 where
  pub new : Running
  pub leads : P new turn
  pub state : b' ≡ after_block b new turn
  pub outs : outs' ≡ new.outs

-- a turn is defined where its block leads anywhere
pub HasTurn-leads : (f : Fixed) {code : Code} {b : ByteState} {outs : List RawOut} {top : MachineFrame} {below : List MachineFrame} {block : Block} {P : Running → MachineTurn → Type 0} → IsNext code b top below block → LeadsBlock f block.ops (at_block b top below outs block.line) P → HasTurn f code b outs
HasTurn-leads f {code} {b} {outs} {top} {below} {block} {P} next h =
    rw (next.going, next.left, next.frames, next.there) (IsBlockDefined-leads f block.ops (at_block b top below outs block.line) P h)

-- and it leads there
pub Turns-leads : (f : Fixed) {code : Code} {b b' : ByteState} {outs outs' : List RawOut} {turn : MachineTurn} {top : MachineFrame} {below : List MachineFrame} {block : Block} {P : Running → MachineTurn → Type 0} → IsNext code b top below block → LeadsBlock f block.ops (at_block b top below outs block.line) P → Turns f code b outs b' outs' turn → Ran b b' outs' turn P
Turns-leads f {code} {b} {b'} {outs} {outs'} {turn} {top} {below} {block} {P} next h t =
    let ran = rw (next.going, next.left, next.frames, next.there) at t in
    record { new = ran.0; leads = RunsBlock-leads f block.ops (at_block b top below outs block.line) ran.0 turn P h ran.1.0; state = ran.1.1; outs = ran.1.2 }

-- the answer that ended a run is kept
pub answer_kept : (f : Fixed) (code : Code) (b b' : ByteState) (outs outs' : List RawOut) (turn : MachineTurn) → Turns f code b outs b' outs' turn → kept_answer turn ≡ Some turn → b'.answer ≡ Some turn
answer_kept f code b b' outs outs' turn t ends = by_answer b.answer (nat_eq b.left 0) refl t
  where
    by_block : (top : MachineFrame) (below : List MachineFrame) (block : Option Block) → TurnsIn f b top below block outs b' outs' turn → b'.answer ≡ Some turn
    by_block top below None t = absurd t
    by_block top below (Some block) t = rw t.1.1 ends

    by_frames : (frames : List MachineFrame) → TurnsFrom f code b frames outs b' outs' turn → b'.answer ≡ Some turn
    by_frames [] t = absurd t
    by_frames (top ∷ below) t = by_block top below (slice_get code.blocks top.block) t

    by_answer : (answer : Option MachineTurn) (spent : Bool) → b.answer ≡ answer → TurnsBy answer spent f code b outs b' outs' turn → b'.answer ≡ Some turn
    by_answer (Some answer) spent e t = rw (t.0, t.2) e
    by_answer None true e t = rw (t.0, t.2) refl
    by_answer None false e t = by_frames b.frames t

-- so the turn after it is defined
pub HasTurn-again : (f : Fixed) (code : Code) (b b' : ByteState) (outs outs' : List RawOut) (turn : MachineTurn) → Turns f code b outs b' outs' turn → kept_answer turn ≡ Some turn → HasTurn f code b' outs'
HasTurn-again f code b b' outs outs' turn t ends = rw (answer_kept f code b b' outs outs' turn t ends) tt

-- where no step is left a turn is defined, and so it is where the run has ended
pub HasTurn-spent : (f : Fixed) (code : Code) (b : ByteState) (outs : List RawOut) → b.answer ≡ None → nat_eq b.left 0 ≡ true → HasTurn f code b outs
HasTurn-spent f code b outs going spent = rw (going, spent) tt
