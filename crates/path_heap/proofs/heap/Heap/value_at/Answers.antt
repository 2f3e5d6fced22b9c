use Rattle.std.proofs.Common.{◌∙◌, sym}
use Rattle.path_heap.specs.invariants.Columns.{value_or_unset}
use Rattle.path_heap.proofs.Sets.{blank_past}
use Rattle.path_heap.proofs.heap.Heap.value_at.Goals as goal

pub returns : goal.returns
returns c =
    let leaves = c.args.self.now.leaves in
    c.get.ensures ∙ sym (blank_past value_or_unset leaves.items c.args.k leaves.blank (sym c.args.self.now.blank))
