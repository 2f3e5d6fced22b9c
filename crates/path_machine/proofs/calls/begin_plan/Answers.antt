use Rattle.std.proofs.Common.{Some, ap, refl, subst, sym, ◌∙◌}
use Rattle.std.specs.Prelude.{if◌then◌else◌}
use Rattle.path_plan.specs.Whole.{whole_part, construction, destruction}
use Rattle.path_model.specs.States.{plan_bodies}
use Rattle.path_heap.specs.Points.{StandsForPart}
use Rattle.path_events.specs.Plans.{PlanStands}
use Rattle.path_machine.specs.Frames.{FrameStands, IsLastOf, target_of_code}
use Rattle.path_machine.specs.declared.frames.PlanFrame.{PlanFrame}
use Rattle.path_machine.specs.declared.frames.Frame.TheVariants.{Plan}
use Rattle.path_machine.specs.invariants.Openings.{planned}
use Rattle.path_machine.proofs.Planning.{plan_last, whole_class}
use Rattle.path_machine.proofs.calls.begin_plan.Goals as goal

-- src/calls.rt:184:1
pub returns : goal.returns
returns c = λ sizes s k d stands made whole counts.
    let h = c.args.run.now.world.h.now in
    let program = c.args.run.now.program.now in
    let code = c.args.whole in
    let building = c.args.is_building in
    let boxed = c.in_ok-boxed.ensures in
    let same = whole_class h s.objects.classes k d code whole in
    let made_code = made ∙ ap (λ x. Some x) (sym same) in
    let whole_code = subst (λ x. StandsForPart h s.objects.classes code (whole_part k x)) (sym same) whole in
    let plan = c.in_ok-plan.ensures program s.objects.classes k made_code whole_code stands.heap_stands.counts.few in
    c.in_ok-push.ensures h sizes program s (planned h program k building d (target_of_code c.args.target)) stands
    (subst (λ (x : PlanFrame). FrameStands h program s.objects.classes (Plan x) (planned h program k building d (target_of_code c.args.target))) (sym boxed) (record {
      plan_stands = subst (λ x. PlanStands h program s.objects.classes c.in_ok-plan.plan (if building then construction h (plan_bodies program) k x else destruction h (plan_bodies program) k x)) same plan;
      same_kind = refl;
      made = made_code;
      whole = whole_code;
      ends_whole = subst (λ x. IsLastOf (whole_part k x) (if building then construction h (plan_bodies program) k d else destruction h (plan_bodies program) k d)) (sym same) (plan_last h (plan_bodies program) k d building);
      same_target = refl;
    })) (ap (λ (x : PlanFrame). x.depth) boxed ∙ counts)
