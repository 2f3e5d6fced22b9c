use Rattle.code_ops.specs.Setups.{setup}
use Rattle.code_plans.proofs.Lefts.{tail_put}
use Rattle.code_plans.proofs.tails.push_tail.Goals as goal

pub returns-in_ok-push_openings-in-len1-up : goal.returns-in_ok-push_openings-in-len1-up
returns-in_ok-push_openings-in-len1-up g c = λ at items is there starts.
    let x = setup c.args.site.now.h.now (g.L.SoundLayout.rows c.args.site.now.layout.now) c.args.site.now.program.now in
    tail_put x c.requires.site.site.keeps c.args.plan.course c.args.plan.form c.args.plan.class c.requires.known at c.args.site.now.numbers.now starts c.args.left.now items c.args.next c.args.ops.now c.push-in-len1-up.new.self c.push_openings.new.ops c.in-len1-up.len_at_least c.requires.left is there
    c.in_ok-push-in-len1-up.ensures.ok (c.in_ok-push_openings-in-len1-up.ensures items is)
