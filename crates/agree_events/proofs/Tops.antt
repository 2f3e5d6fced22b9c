-- The frame on top of a plan: what it runs, and what waits behind it.
use Rattle.std.proofs.Common.{◌≡◌, inl, inr, ⊎_elim, ℕ, zero, suc, ◌+◌, true, Option, List, [], ◌∷◌, ◌++◌, ap, subst, sym, ◌∙◌, arith}
use Rattle.path_model.specs.States.{Planned, Frame as PathFrame}
use Rattle.code_blocks.specs.Items.{Item}
use Rattle.code_ops.specs.Setups.{PlanCode}
use Rattle.byte_machine.specs.Frames.{MachineFrame}
use Rattle.byte_machine.specs.Turn.{stepping}
use Rattle.agree_parts.specs.Heaps.{Heap}
use Rattle.agree_relation.specs.Worlds.{World}
use Rattle.agree_relation.specs.Goings.{Going, at_left}
use Rattle.agree_relation.specs.Frames.{PlaceNumbers, AreUntouched, awaits_body, IsPlanFrame, IsAtNext, AreElements, IsOuter, WaitInPlan}
use Rattle.agree_events.specs.Events.{KeepsLow}
use Rattle.agree_events.specs.Turns.{IsTopFrame}
use Rattle.agree_events.proofs.Steps.{low_itself}

module _ (w : World) (at : PlaceNumbers) (g : Heap) (p : Planned) (path : List PathFrame) (under : List Going → List MachineFrame → Type 0) where
  pub top_of : (f : Going) (below : List Going) (b : MachineFrame) (bs : List MachineFrame) → WaitInPlan w at g p path (f ∷ below) (b ∷ bs) under → IsTopFrame w at g p path under f below b bs
  top_of f below b bs wait =
      let runs = wait.1.0 in
      let same : f ≡ runs.first = cc (runs.is) in
      let rest : below ≡ runs.more ++ wait.0 = cc (runs.is) in
      record {
        more = runs.more;
        rest = wait.0;
        is = rest;
        frame = subst (λ (gs : List Going). IsPlanFrame w at g f gs b) (sym rest) (subst (λ (h : Going). IsPlanFrame w at g h (runs.more ++ wait.0) b) (sym same) runs.frame);
        again = subst (λ (h : Going). AreElements w g h b.again b.stride runs.more) (sym same) runs.again.elements;
        kind = ⊎_elim (λ i. inl i) (λ o. inr (subst (λ (h : Going). IsOuter w g p h path b) (sym same) o.0, o.1)) wait.1.1;
      }

  pub wait_of : (f : Going) (below : List Going) (b : MachineFrame) (bs : List MachineFrame) → IsTopFrame w at g p path under f below b bs → IsAtNext w at f b → WaitInPlan w at g p path (f ∷ below) (b ∷ bs) under
  wait_of f below b bs top next = (
    top.rest,
    (
      record {
        first = f;
        more = top.more;
        is = ap (λ (gs : List Going). f ∷ gs) top.is;
        frame = subst (λ (gs : List Going). IsPlanFrame w at g f gs b) top.is top.frame;
        next = next;
        again = record { elements = top.again };
      },
      top.kind,
    ),
  )

  pub elements_move : (f : Going) (left : List Item) (n stride : ℕ) (more : List Going) → AreElements w g f n stride more → AreElements w g (at_left f left) n stride more
  elements_move f left zero stride more e = e
  elements_move f left (suc n) stride [] e = absurd e
  elements_move f left (suc n) stride (next ∷ more) e = e

  -- with other registers and another block, and less of its items left
  abbrev pub frame_now : MachineFrame → List (Option ℕ) → ℕ → MachineFrame
  frame_now b registers block = record b { registers = registers; block = block }

  frame_moves : (f : Going) (left : List Item) (below : List Going) (b : MachineFrame) (registers : List (Option ℕ)) (block : ℕ) → (awaits_body left ≡ true → awaits_body f.left ≡ true) → KeepsLow w (PlanCode f.course f.form f.class) b.registers registers
      → IsPlanFrame w at g f below b → IsPlanFrame w at g (at_left f left) below (frame_now b registers block)
  frame_moves f left below b registers block less keeps frame = record {
    size = keeps.size ∙ frame.size;
    this = keeps.low 0 (omega arith) ∙ frame.this;
    untouched = λ awaits. let old : AreUntouched w (PlanCode f.course f.form f.class) b.registers = frame.untouched (less awaits) in record { unset = λ n inside. keeps.low (n + 1) (omega arith) ∙ old.unset n inside };
    start = frame.start;
    complete = frame.complete;
    whole = frame.whole;
    handed = frame.handed;
  }

  pub top_moves : (f : Going) (left : List Item) (below : List Going) (b : MachineFrame) (bs : List MachineFrame) (registers : List (Option ℕ)) (block : ℕ) → (awaits_body left ≡ true → awaits_body f.left ≡ true) → KeepsLow w (PlanCode f.course f.form f.class) b.registers registers
      → IsTopFrame w at g p path under f below b bs → IsTopFrame w at g p path under (at_left f left) below (frame_now b registers block) bs
  top_moves f left below b bs registers block less keeps top = record {
    more = top.more;
    rest = top.rest;
    is = top.is;
    frame = frame_moves f left below b registers block less keeps top.frame;
    again = elements_move f left b.again b.stride top.more top.again;
    kind = ⊎_elim (λ i. inl (record { kept = i.0.kept; is_call = i.0.is_call }, i.1)) (λ o. inr (record { is_call = o.0.is_call; again = o.0.again; class = o.0.class; made = o.0.made; part = o.0.part; keeps = o.0.keeps }, o.1)) top.kind;
  }

  -- the frame that runs a block has stepped to the block behind
  pub top_steps : (f : Going) (below : List Going) (b : MachineFrame) (bs : List MachineFrame) → IsTopFrame w at g p path under f below b bs → IsTopFrame w at g p path under f below (stepping b) bs
  top_steps f below b bs top = top_moves f f.left below b bs b.registers (b.block + 1) (λ awaits. awaits) (low_itself w (PlanCode f.course f.form f.class) b.registers) top
