use Rattle.std.proofs.Common.{◌+◌, ◌≤◌, ◌++◌, length, sym, ap, ◌∙◌, arith}
use Rattle.std.specs.Prelude.{replicate}
use Rattle.path_columns.specs.Columns.{Column, most_items}
use Rattle.path_heap.specs.declared.state.Value.TheVariants.{Unset}
use Rattle.path_heap.specs.invariants.Layers.{in_pair_layer}
use Rattle.path_columns.proofs.Listing.{listed_length, listed_longer}
use Rattle.path_heap.proofs.leaf_list.LeafList.lengthen.Goals as goal

pub invariant_of-self-inside : goal.invariant_of-self-inside
invariant_of-self-inside c =
    let size = sym (listed_length (in_pair_layer c.self.inside.layers) c.self.inside.len) ∙ ap (λ (t : Column _). length t.items) c.self.view_is in
    let room = c.requires.room in
    let few : c.self.inside.len + c.args.count ≤ most_items = omega (arith, size, room) in (few, tt)

pub returns-clause-items : goal.returns-clause-items
returns-clause-items c =
    listed_longer (in_pair_layer c.self.inside.layers) Unset c.self.inside.len c.args.count c.self.invariant
    ∙ ap (λ (t : Column _). t.items ++ replicate c.args.count t.blank) c.self.view_is
