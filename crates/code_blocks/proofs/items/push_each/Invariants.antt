use Rattle.std.proofs.Common.{◌≡◌, ◌++◌, take}
use Rattle.path_plan.specs.declared.form.Form.TheVariants.{InFull}
use Rattle.code_blocks.specs.Items.{shared_base_items}
use Rattle.code_blocks.specs.invariants.ItemCodes.{item_codes}
use Rattle.code_blocks.proofs.items.push_each.Given as goal

abbrev pub invariant-loop-v : goal.invariant-loop-v
invariant-loop-v l = l.list ≡ l.fn.list ++ item_codes (shared_base_items InFull (take l.v-index l.order))
