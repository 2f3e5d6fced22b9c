use Rattle.std.proofs.Common.{sym, ap, ◌∙◌}
use Rattle.path_columns.specs.Columns.{Column, item_in}
use Rattle.path_heap.specs.declared.state.Value.TheVariants.{Unset}
use Rattle.path_heap.specs.invariants.Layers.{in_pair_layer}
use Rattle.path_columns.proofs.Listing.{listed_item}
use Rattle.path_heap.proofs.leaf_list.LeafList.get.Goals as goal

pub returns : goal.returns
returns c = c.get.ensures ∙ (sym (listed_item (in_pair_layer c.self.inside.layers) Unset c.self.inside.len c.args.n c.self.invariant) ∙ ap (λ (t : Column _). item_in t c.args.n) c.self.view_is)
