use Rattle.std.proofs.Common.{rules, sym, ◌∙◌}
use Rattle.code_ops.specs.Setups.{setup}
use Rattle.code_ops.specs.Routines.{start_by}
use Rattle.code_blocks.specs.declared.items.Item.TheVariants.{Does}
use Rattle.code_blocks.specs.declared.items.Kind.TheVariants.{AtBegin}
use Rattle.code_plans.proofs.Lefts.{event_first, left_rest, part_first, part_opened}
use Rattle.code_plans.proofs.openings.+push_openings.Goals as goal

pub push_openings-requires : goal.push_openings-requires
push_openings-requires g t c κs within =
    let x = setup c.args.site.now.h.now (g.L.SoundLayout.rows c.args.site.now.layout.now) c.args.site.now.program.now in
    (search rules, (within, (c.requires.site, (c.requires.known, left_rest x c.args.plan.course c.args.plan.form c.args.plan.class c.args.left.now c.in-len1-up.len_at_least c.requires.left))))

pub opening-requires-clause-part : goal.opening-requires-clause-part
opening-requires-clause-part g t c =
    let x = setup c.args.site.now.h.now (g.L.SoundLayout.rows c.args.site.now.layout.now) c.args.site.now.program.now in
    part_first x c.args.plan.course c.args.plan.form c.args.plan.class c.requires.site.site.keeps c.args.left.now (Does AtBegin) c.in-len1-up.len_at_least c.requires.left

pub returns-in_ok-push-in-len1-up : goal.returns-in_ok-push-in-len1-up
returns-in_ok-push-in-len1-up g t c = λ items is.
    let x = setup c.args.site.now.h.now (g.L.SoundLayout.rows c.args.site.now.layout.now) c.args.site.now.program.now in
    part_opened x c.args.plan.course c.args.plan.form c.args.plan.class (start_by x c.args.site.now.numbers.now) c.args.left.now (Does AtBegin) c.in-len1-up.len_at_least c.args.ops.now c.push_openings.new.ops c.push.new.self c.in_ok-how-in-len1-up.how items is (sym c.is_event.ensures ∙ c.if-not-is_event.true)
    c.in_ok-push_openings-in-len1-up.ensures c.in_ok-how-in-len1-up.ensures c.in_ok-push-in-len1-up.ensures.ok

pub returns-else-not-is_event : goal.returns-else-not-is_event
returns-else-not-is_event g t c = λ items is.
    let x = setup c.args.site.now.h.now (g.L.SoundLayout.rows c.args.site.now.layout.now) c.args.site.now.program.now in
    event_first x c.args.plan.course c.args.plan.form c.args.plan.class (start_by x c.args.site.now.numbers.now) c.args.left.now (Does AtBegin) c.in-len1-up.len_at_least c.args.ops.now items is (sym c.is_event.ensures ∙ c.if-not-is_event.false)
