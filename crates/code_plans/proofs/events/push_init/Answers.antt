use Rattle.std.proofs.Common.{◌++◌, ◌∙◌, [], ap}
use Rattle.code_ops.specs.Setups.{setup}
use Rattle.code_blocks.specs.Blocks.{init_then}
use Rattle.code_plans.proofs.InitConstants.{init_constant}
use Rattle.code_plans.proofs.events.push_init.Goals as goal

pub push_constant-requires-clause-constant : goal.push_constant-requires-clause-constant
push_constant-requires-clause-constant g c = init_constant c.args.site.now.h.now c.requires.site.site.keeps c.args.site.now.program.now c.requires.site.site.typed c.args.plan.class c.args.m c.in-Some.init.now c.in-Some.ensures

pub returns-in_ok-push_constant-in-Some : goal.returns-in_ok-push_constant-in-Some
returns-in_ok-push_constant-in-Some g c = λ form.
    let x = setup c.args.site.now.h.now (g.L.SoundLayout.rows c.args.site.now.layout.now) c.args.site.now.program.now in
    c.in_ok-push_constant-in-Some.ensures form ∙ ap (λ o. c.args.ops.now ++ init_then x c.args.plan.course form c.args.plan.class c.args.m o []) c.in-Some.ensures
