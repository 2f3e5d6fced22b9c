use Rattle.std.proofs.Common.{◌-◌, List, ◌++◌, ap, arith, ◌∙◌}
use Rattle.byte_code.specs.declared.op.Op.{Op}
use Rattle.code_ops.specs.Setups.{setup}
use Rattle.code_blocks.specs.Blocks.{items, behind_body, plan_tail}
use Rattle.abi_lower.specs.invariants.Numbers.{block_number}
use Rattle.abi_lower.proofs.PlanRuns.{next_is, starts_by, left_behind, behind_low, destruction_ends}
use Rattle.abi_lower.proofs.plan_blocks.end_of_destruction.Goals as goal

pub overflow_cast-behind : goal.overflow_cast-behind
overflow_cast-behind g c =
    let x = setup c.args.site.now.h.now (g.L.SoundLayout.rows c.args.site.now.layout.now) c.args.site.now.program.now in
    let run = c.args.run in
    let left = c.behind_body-left.ensures (items x run.plan.course run.plan.form run.plan.class) c.requires.items in
    let low = behind_low x c.args.site.now.numbers.now run c.behind_body-left.result.now c.requires.run.plan left in
    let room = c.requires.run.plan.room in
    omega (arith, low, room, c.count_own-behind.ensures)

pub overflow_sub-run : goal.overflow_sub-run
overflow_sub-run g c =
    let x = setup c.args.site.now.h.now (g.L.SoundLayout.rows c.args.site.now.layout.now) c.args.site.now.program.now in
    let run = c.args.run in
    let left = c.behind_body-left.ensures (items x run.plan.course run.plan.form run.plan.class) c.requires.items in
    let low = behind_low x c.args.site.now.numbers.now run c.behind_body-left.result.now c.requires.run.plan left in
    let room = c.requires.run.plan.room in
    omega (arith, low, c.count_own-behind.ensures)

pub next_number-next-requires-clause-done : goal.next_number-next-requires-clause-done
next_number-next-requires-clause-done g c =
    let x = setup c.args.site.now.h.now (g.L.SoundLayout.rows c.args.site.now.layout.now) c.args.site.now.program.now in
    let run = c.args.run in
    let left = c.behind_body-left.ensures (items x run.plan.course run.plan.form run.plan.class) c.requires.items in
    let low = behind_low x c.args.site.now.numbers.now run c.behind_body-left.result.now c.requires.run.plan left in
    let room = c.requires.run.plan.room in
    omega (arith, low, c.count_own-behind.ensures)

pub push_tail-requires-clause-left : goal.push_tail-requires-clause-left
push_tail-requires-clause-left g c =
    let x = setup c.args.site.now.h.now (g.L.SoundLayout.rows c.args.site.now.layout.now) c.args.site.now.program.now in
    let run = c.args.run in
    left_behind x run.plan.course run.plan.form run.plan.class c.behind_body-left.result.now (c.behind_body-left.ensures (items x run.plan.course run.plan.form run.plan.class) c.requires.items)

pub returns : goal.returns
returns g c =
    let x = setup c.args.site.now.h.now (g.L.SoundLayout.rows c.args.site.now.layout.now) c.args.site.now.program.now in
    let run = c.args.run in
    let left = c.behind_body-left.ensures (items x run.plan.course run.plan.form run.plan.class) c.requires.items in
    let low = behind_low x c.args.site.now.numbers.now run c.behind_body-left.result.now c.requires.run.plan left in
    let room = c.requires.run.plan.room in
    let plan = behind_body (items x run.plan.course run.plan.form run.plan.class) in
    let next = next_is x c.args.site.now.numbers.now run c.behind_body-left.result.now (run.own - c.count_own-behind.result) c.next_number-next.result plan c.requires.run.plan left (omega (arith, low, c.count_own-behind.ensures)) c.next_number-next.ensures in
    let ops = c.in_ok-push_tail.ensures (block_number x) plan left next (starts_by x c.args.site.now.numbers.now c.requires.run.plan.rows) in
    ops ∙ ap (λ (l : List Op). l ++ plan_tail x (block_number x) run.plan.course run.plan.form run.plan.class plan) c.new-ops.ensures ∙ destruction_ends x (block_number x) run.plan.course run.plan.form run.plan.class c.requires.course
