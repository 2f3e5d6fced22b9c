use Rattle.code_ops.specs.Setups.{setup}
use Rattle.code_ops.specs.Routines.{start_by}
use Rattle.code_plans.proofs.Lefts.{member_item}
use Rattle.code_plans.proofs.openings.opening.Goals as goal

pub returns-in-Holds : goal.returns-in-Holds
returns-in-Holds g c = λ i is.
    let x = setup c.args.site.now.h.now (g.L.SoundLayout.rows c.args.site.now.layout.now) c.args.site.now.program.now in
    member_item x (start_by x c.args.site.now.numbers.now) c.args.plan.course c.args.plan.form c.args.plan.class c.in-Holds.way c.in-Holds.m c.in-Holds.d c.in-Holds.count c.args.item c.member_opening.result i c.in-Holds.is c.member_opening.ensures is
