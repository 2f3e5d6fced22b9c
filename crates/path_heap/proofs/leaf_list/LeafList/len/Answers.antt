use Rattle.std.proofs.Common.{length, sym, ap, ◌∙◌}
use Rattle.path_columns.specs.Columns.{Column}
use Rattle.path_heap.specs.invariants.Layers.{in_pair_layer}
use Rattle.path_columns.proofs.Listing.{listed_length}
use Rattle.path_heap.proofs.leaf_list.LeafList.len.Goals as goal

pub returns : goal.returns
returns c = sym (listed_length (in_pair_layer c.self.inside.layers) c.self.inside.len) ∙ ap (λ (t : Column _). length t.items) c.self.view_is
