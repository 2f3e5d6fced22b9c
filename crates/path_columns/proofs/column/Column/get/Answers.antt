use Rattle.std.proofs.Common.{sym, ap, ◌∙◌}
use Rattle.path_columns.specs.Columns.{Column, item_in}
use Rattle.path_columns.specs.Slots.{item_at}
use Rattle.path_columns.proofs.Listing.{listed_item}
use Rattle.path_columns.proofs.column.Column.get.Goals as goal

pub returns : goal.returns
returns g c = c.get.ensures ∙ (sym (listed_item (item_at c.self.inside.slots) c.self.inside.slots.blank c.self.inside.len c.args.n c.self.invariant) ∙ ap (λ (t : Column _). item_in t c.args.n) c.self.view_is)
