use Rattle.std.proofs.Common.{length, sym, ap, ◌∙◌}
use Rattle.path_columns.specs.Columns.{Column}
use Rattle.path_columns.specs.Slots.{item_at}
use Rattle.path_columns.proofs.Listing.{listed_length}
use Rattle.path_columns.proofs.column.Column.len.Goals as goal

pub returns : goal.returns
returns g c = sym (listed_length (item_at c.self.inside.slots) c.self.inside.len) ∙ ap (λ (t : Column _). length t.items) c.self.view_is
