use Rattle.std.proofs.Common.{◌≡◌, ◌+◌, List, [], ◌++◌, refl, ap, arith, ◌∙◌}
use Rattle.byte_code.specs.declared.op.Op.{Op}
use Rattle.code_ops.specs.Setups.{setup}
use Rattle.code_blocks.specs.declared.items.Kind.TheVariants.{AtDone}
use Rattle.code_blocks.specs.Blocks.{event_block}
use Rattle.abi_lower.specs.invariants.Numbers.{block_number}
use Rattle.abi_lower.proofs.PlanRuns.{next_is, starts_by, left_none, construction_ends}
use Rattle.abi_lower.proofs.plan_blocks.end_of_construction.Goals as goal

pub push_block-requires-clause-left : goal.push_block-requires-clause-left
push_block-requires-clause-left g c =
    let x = setup c.args.site.now.h.now (g.L.SoundLayout.rows c.args.site.now.layout.now) c.args.site.now.program.now in
    let run = c.args.run in
    left_none x run.plan.course run.plan.form run.plan.class

pub returns : goal.returns
returns g c =
    let x = setup c.args.site.now.h.now (g.L.SoundLayout.rows c.args.site.now.layout.now) c.args.site.now.program.now in
    let run = c.args.run in
    let next = next_is x c.args.site.now.numbers.now run [] run.own (run.first + run.own) [] c.requires.run.plan refl (let none : run.own + 0 ≡ run.own = omega arith in none) refl in
    let ops = c.in_ok-push_block.ensures (block_number x) [] refl next (starts_by x c.args.site.now.numbers.now c.requires.run.plan.rows) in
    ops ∙ ap (λ (l : List Op). l ++ event_block x (block_number x) run.plan.course run.plan.form run.plan.class AtDone []) c.new-ops.ensures ∙ construction_ends x (block_number x) run.plan.course run.plan.form run.plan.class c.requires.course
