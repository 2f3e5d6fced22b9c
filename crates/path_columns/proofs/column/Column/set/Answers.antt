use Rattle.std.proofs.Common.{◌≤◌, length, sym, ap, ◌∙◌, rules, arith}
use Rattle.std.specs.Prelude.{slice_set}
use Rattle.std.proofs.lemmas.List.{set_past}
use Rattle.path_columns.specs.Columns.{Column}
use Rattle.path_columns.specs.Slots.{item_at}
use Rattle.path_columns.proofs.Listing.{listed_length, listed_set}
use Rattle.path_columns.proofs.column.Column.set.Goals as goal

pub returns-then-n-self-clause-items : goal.returns-then-n-self-clause-items
returns-then-n-self-clause-items g c =
    let size = sym (listed_length (item_at c.self.inside.slots) c.self.inside.len) ∙ ap (λ (t : Column _). length t.items) c.self.view_is in
    let past : c.self.inside.len ≤ c.args.n = search rules in
    sym (set_past c.args.self.now.items c.args.n c.args.item (omega arith))

pub returns-clause-items : goal.returns-clause-items
returns-clause-items g c =
    listed_set (item_at c.self.inside.slots) (item_at c.set.new.self) c.self.inside.len c.args.n c.args.item c.in_ok-set.ensures.set
    ∙ ap (λ (t : Column _). slice_set t.items c.args.n c.args.item) c.self.view_is

pub returns-clause-length : goal.returns-clause-length
returns-clause-length g c =
    listed_length (item_at c.set.new.self) c.self.inside.len ∙ (sym (listed_length (item_at c.self.inside.slots) c.self.inside.len) ∙ ap (λ (t : Column _). length t.items) c.self.view_is)
