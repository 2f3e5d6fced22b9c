-- The frame that a `new` or a `delete` opens stands for the plan of the heap object, over what waits for it.
use Rattle.std.proofs.Common.{◌≡◌, ℕ, ◌+◌, ◌<◌, Some, None, List, [], ◌∷◌, inr, length, refl, ap, sym, ◌∙◌, arith}
use Rattle.std.specs.Prelude.{slice_get}
use Rattle.cxx_hierarchy.specs.declared.records.ClassId.{ClassId}
use Rattle.path_plan.specs.declared.form.Form.TheVariants.{InFull}
use Rattle.path_plan.specs.Whole.{whole_part}
use Rattle.path_model.specs.States.{Planned, Frame as PathFrame, InPlan}
use Rattle.path_model.specs.Runs.{opened_by, open_count}
use Rattle.std.proofs.lemmas.List.Sums.{sum_by-cons}
use Rattle.code_blocks.specs.Blocks.{routine_start}
use Rattle.code_ops.specs.Routines.{IsCourse}
use Rattle.code_ops.specs.Setups.{PlanCode}
use Rattle.code_ops.specs.declared.routines.Course.{Course}
use Rattle.byte_code.specs.declared.op.Opening.{Opening}
use Rattle.byte_machine.specs.Calls.{frame_at}
use Rattle.byte_machine.specs.Frames.{MachineFrame, Kept, nothing_handed}
use Rattle.agree_parts.specs.Heaps.{Heap}
use Rattle.agree_parts.proofs.Made.{whole_made}
use Rattle.agree_relation.specs.Worlds.{World, IsProgramWorld, world_classes, fixed}
use Rattle.agree_relation.specs.Goings.{Going, going, builds, events_left}
use Rattle.agree_relation.specs.Frames.{PlaceNumbers, body_below, KeepsObject, IsPlanFrame, IsAtNext, StandOver}
use Rattle.agree_events.proofs.Noted.{at_part}
use Rattle.agree_events.proofs.Opens.{part_stands, part_next}

-- a plan counts as one that is open
pub plan_counts : (p : Planned) (frames : List PathFrame) → open_count (InPlan p ∷ frames) ≡ open_count frames + 1
plan_counts p frames = sum_by-cons opened_by (InPlan p) frames ∙ omega arith

module _ (w : World) (at : PlaceNumbers) (g : Heap) (world : IsProgramWorld w) where
  -- where the plan of a complete object begins
  abbrev pub start_block : Course → ClassId → ℕ
  start_block course c = at (routine_start w.setup (PlanCode course InFull c))

  -- how its frame would be opened within a plan
  abbrev how : Course → ClassId → Opening
  how course c = record { place = 0; block = start_block course c; hand = None; count = 0; stride = 0 }

  module _ (course : Course) (k : ℕ) (c : ClassId) (this : ℕ) (kept : Kept) (goings : List Going) (fits : IsCourse course InFull) (there : slice_get g.classes k ≡ Some c) (place : this ≡ at_part w g (whole_part k c)) (known : c.0 < length (world_classes w)) where
    abbrev opened_frame : MachineFrame
    opened_frame = frame_at (fixed w) (start_block course c) this [] kept

    runs_plan : IsPlanFrame w at g (going w course InFull c (whole_part k c)) goings opened_frame
    runs_plan =
        let a = part_stands w at world g course InFull c c (whole_part k c) goings (how course c) this 0 nothing_handed refl place known fits (whole_made (world_classes w) g k c there) tt in
        record { size = a.size; this = a.this; untouched = a.untouched; start = a.start; complete = a.complete; whole = a.whole; handed = a.handed }

    starts_plan : IsAtNext w at (going w course InFull c (whole_part k c)) opened_frame
    starts_plan = part_next w at world.hierarchy course InFull c (whole_part k c) (how course c) this 0 nothing_handed refl

    pub plan_opened : (p : Planned) (below : List PathFrame) (stack : List MachineFrame) → p.object ≡ k → p.events ≡ events_left w (going w course InFull c (whole_part k c) ∷ []) → builds course ≡ p.is_building → KeepsObject w p c (body_below w below) kept
        → StandOver w at g None below goings stack → StandOver w at g None (InPlan p ∷ below) (going w course InFull c (whole_part k c) ∷ goings) (frame_at (fixed w) (start_block course c) this [] kept ∷ stack)
    plan_opened p below stack object events course_is keeps over = (
      record { own = going w course InFull c (whole_part k c) ∷ []; lower = goings; is = refl; events_are = events; course = (course_is, tt) },
      (
        goings,
        (
          record { first = going w course InFull c (whole_part k c); more = []; is = refl; frame = runs_plan; next = starts_plan; again = record { elements = refl } },
          inr (record { is_call = refl; again = refl; class = c; made = ap (slice_get g.classes) object ∙ there; part = ap (λ j. whole_part j c) (sym object); keeps = keeps }, (refl, over)),
        ),
      ),
    )
