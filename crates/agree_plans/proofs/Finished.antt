-- The body that waits for a heap object goes on behind the object's plan.
use Rattle.std.proofs.Common.{◌≡◌, ℕ, ◌+◌, ◌-◌, true, Option, None, List, ◌∷◌, ◌++◌, map, refl, ap, subst, sym, ◌∙◌, arith}
use Rattle.std.specs.Prelude.{if◌then◌else◌}
use Rattle.std.proofs.lemmas.List.Sums.{sum_by-cons}
use Rattle.path_model.specs.Values.{Value, Objects}
use Rattle.path_model.specs.States.{ProgramState, RunningBody as Body, Planned, Frame as PathFrame, InBody, InPlan}
use Rattle.path_model.specs.Steps.{objects_after, event_outs}
use Rattle.path_model.specs.Runs.{Moves, opened_by, open_count}
use Rattle.byte_memory.specs.Store.{Store}
use Rattle.byte_shadow.specs.Shadows.{Notes}
use Rattle.byte_machine.specs.declared.turn.RawOut.{RawOut}
use Rattle.byte_machine.specs.declared.turn.MachineTurn.TheVariants.{Went}
use Rattle.byte_machine.specs.Calls.{left_calls}
use Rattle.byte_machine.specs.Frames.{MachineFrame}
use Rattle.byte_machine.specs.Running.{Running}
use Rattle.code_blocks.specs.Items.{Item, event_of}
use Rattle.code_blocks.specs.declared.items.Kind.{Kind}
use Rattle.agree_parts.specs.Heaps.{Heap}
use Rattle.agree_relation.specs.Worlds.{World, IsProgramWorld}
use Rattle.agree_relation.specs.Words.{heap_of, register_word}
use Rattle.agree_relation.specs.Goings.{Going, ArePlanned, opened_goings}
use Rattle.agree_relation.specs.Frames.{PlaceNumbers, HasVariables, StandOver}
use Rattle.agree_relation.specs.Agrees.{Agrees, ReadAs}
use Rattle.agree_statements.specs.Registers.{body_on, frame_on}
use Rattle.agree_calls.proofs.Below.{caller_takes}
use Rattle.agree_events.specs.Events.{IsAfter, now}
use Rattle.agree_events.specs.Turns.{IsTurn}
use Rattle.agree_events.proofs.Planned.{planned_step}

module _ (w : World) (at : PlaceNumbers) (world : IsProgramWorld w) (s : ProgramState) (p : Planned) (path : List PathFrame) (f : Going) (k : Kind) (left : List Item) (others lower : List Going) (r : Running) (turn : IsTurn w at s p path f k left others lower r)
    (registers : List (Option ℕ)) (memory : Store) (notes : Notes) (outs : List RawOut) (happened : IsAfter w at (objects_after w.setup.program s.objects (event_of k f.part)) r (event_outs s.objects (event_of k f.part)) memory notes outs) where
  abbrev pub objects_now : Objects
  objects_now = objects_after w.setup.program s.objects (event_of k f.part)

  abbrev pub heap_now : Heap
  heap_now = heap_of s.objects.classes memory.regions

  pub heap_same : heap_of s.objects.classes memory.regions ≡ heap_of s.objects.classes r.memory.regions
  heap_same = ap (λ (starts : List ℕ). record { classes = s.objects.classes; starts = starts }) happened.starts

  -- the parts that are left
  pub planned_now : ArePlanned w s.objects.classes objects_now.phases (opened_goings w f left (others ++ lower))
  planned_now = planned_step w world.hierarchy s.objects.classes s.objects.phases f k left (others ++ lower) turn.planned turn.fits

  -- what is told reads as what the run tells
  told_now : ReadAs w at heap_now outs (event_outs s.objects (event_of k f.part))
  told_now =
      let told : outs ≡ happened.tells.more = happened.tells.is ∙ ap (λ (o : List RawOut). o ++ happened.tells.more) turn.outs in
      subst (λ (o : List RawOut). ReadAs w at heap_now o (event_outs s.objects (event_of k f.part))) (sym told) (subst (λ (h : Heap). ReadAs w at h happened.tells.more (event_outs s.objects (event_of k f.part))) (sym heap_same) happened.tells.reads)

  -- the call of the `new` or `delete` is over
  calls_now : r.top.is_call ≡ true → left_calls (now r registers memory notes outs) ≡ open_count path
  calls_now called =
      let one = sum_by-cons opened_by (InPlan p) path in
      let counted : r.calls ≡ 1 + open_count path = turn.calls ∙ omega (arith, one) in
      ap (λ b. if b then r.calls - 1 else r.calls) called ∙ (ap (λ n. n - 1) counted ∙ let one : 1 + open_count path - 1 ≡ open_count path = omega arith in one)

  -- the frame below goes on with other locals, registers and globals
  pub waits_on : (caller : Body) (below : List PathFrame) (under : MachineFrame) (rest : List MachineFrame) → path ≡ InBody caller ∷ below → r.top.is_call ≡ true → StandOver w at heap_now None (InBody caller ∷ below) (opened_goings w f left (others ++ lower)) (under ∷ rest)
      → (globals : List Value) (words : List (Option ℕ)) (locals : List Value) (new : List (Option ℕ)) → words ≡ map (register_word w heap_now) globals → HasVariables w heap_now (body_on caller locals caller.next) new
      → Agrees w at (Moves (record { objects = objects_now; globals = globals; frames = InBody (body_on caller locals caller.next) ∷ below }) (event_outs s.objects (event_of k f.part)))
      (record (now r registers memory notes outs) { globals = words; top = frame_on under new under.block; below = rest; calls = left_calls (now r registers memory notes outs) }) Went
  waits_on caller below under rest path_is called stand globals words locals new has variables =
      let over = caller_takes w at heap_now caller below (opened_goings w f left (others ++ lower)) under rest locals new stand variables in (
        record {
          columns = happened.columns;
          globals = has;
          frames = record {
            goings = opened_goings w f left (others ++ lower);
            planned = planned_now;
            frames = subst (λ (o : List MachineFrame). StandOver w at heap_now None (InBody (body_on caller locals caller.next) ∷ below) (opened_goings w f left (others ++ lower)) (o ++ frame_on under new under.block ∷ rest)) (sym turn.opened) over;
            calls = calls_now called ∙ ap open_count path_is;
          };
        },
        told_now,
        refl,
      )
