use Rattle.std.proofs.Common.{◌≡◌, List, [], ◌∷◌, ◌++◌, ap, ◌∙◌}
use Rattle.byte_code.specs.declared.op.Op.{Op}
use Rattle.code_ops.specs.Setups.{setup}
use Rattle.code_blocks.specs.Blocks.{event_block}
use Rattle.abi_lower.specs.invariants.Numbers.{block_number}
use Rattle.abi_lower.proofs.PlanRuns.{next_is, starts_by}
use Rattle.abi_lower.proofs.plan_blocks.push_event_block.Goals as goal

pub returns : goal.returns
returns g c = λ plan is.
    let x = setup c.args.site.now.h.now (g.L.SoundLayout.rows c.args.site.now.layout.now) c.args.site.now.program.now in
    let run = c.args.run in
    let next = next_is x c.args.site.now.numbers.now run c.args.left.now c.args.done c.next_number-next.result plan c.requires.run.plan is c.requires.done c.next_number-next.ensures in
    let ops = c.in_ok-push_block.ensures (block_number x) plan is next (starts_by x c.args.site.now.numbers.now c.requires.run.plan.rows) in
    let made : c.push_block.new.ops ≡ event_block x (block_number x) run.plan.course run.plan.form run.plan.class c.args.kind plan = ops ∙ ap (λ (l : List Op). l ++ event_block x (block_number x) run.plan.course run.plan.form run.plan.class c.args.kind plan) c.new-ops.ensures in
    c.in_ok-push.ensures.ok ∙ ap (λ (o : List Op). c.args.blocks.now ++ record { ops = o; line = 0 } ∷ []) made
