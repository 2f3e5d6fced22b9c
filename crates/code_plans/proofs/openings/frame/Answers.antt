use Rattle.std.proofs.Common.{Some, refl}
use Rattle.path_plan.specs.declared.form.Form.TheVariants.{AsBase}
use Rattle.code_ops.specs.Setups.{PlanCode, setup}
use Rattle.code_ops.specs.Routines.{start_by}
use Rattle.code_blocks.specs.Blocks.{base_course, whose_of}
use Rattle.code_plans.proofs.OpeningNumbers.{hand, hand_same, opening_same}
use Rattle.code_plans.proofs.openings.frame.Goals as goal

pub returns : goal.returns
returns g c = λ rows.
    let plan = c.args.plan in
    let owner = whose_of plan.form in
    let start = start_by (setup c.args.site.now.h.now rows c.args.site.now.program.now) c.args.site.now.numbers.now (PlanCode (base_course plan.course) AsBase c.args.d) in
    opening_same c.args.place c.args.place c.part_start.result start (Some (hand c.whose.result plan.class.0 c.args.vtt)) (Some (hand owner plan.class.0 c.args.vtt)) 1 0 0
    refl (c.part_start.ensures rows) (hand_same c.whose.result owner plan.class.0 c.args.vtt c.args.vtt c.whose.ensures refl) refl
