use Rattle.std.proofs.Common.{◌≡◌, ◌+◌, ◌++◌, List, drop}
use Rattle.std.specs.List.{count_by}
use Rattle.code_ops.specs.Setups.{setup}
use Rattle.code_blocks.specs.Items.{Item}
use Rattle.code_blocks.specs.invariants.ItemCodes.{item_codes}
use Rattle.abi_lower.specs.invariants.Numbers.{block_number}
use Rattle.abi_lower.specs.invariants.Codes.{is_own_code}
use Rattle.abi_lower.specs.invariants.Runs.{event_blocks}
use Rattle.abi_lower.proofs.plan_blocks.push_events.Given as goal

abbrev pub invariant-loop-i : goal.invariant-loop-i
invariant-loop-i g l =
    let x = setup l.site.h.now (g.L.SoundLayout.rows l.site.layout.now) l.site.program.now in
    record {
      done : l.done + count_by (is_own_code l.run.has_body) (drop l.i l.items) ≡ l.run.own;
      blocks : (plan : List Item) → l.items ≡ item_codes plan → l.blocks ++ event_blocks x (block_number x) l.run.plan.course l.run.plan.form l.run.plan.class (drop l.i plan) ≡ l.initial.blocks ++ event_blocks x (block_number x) l.run.plan.course l.run.plan.form l.run.plan.class plan;
    }
