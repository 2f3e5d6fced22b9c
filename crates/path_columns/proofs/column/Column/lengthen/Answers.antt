use Rattle.std.proofs.Common.{◌+◌, ◌≤◌, ◌++◌, length, sym, ap, ◌∙◌, arith}
use Rattle.std.specs.Prelude.{replicate}
use Rattle.path_columns.specs.Columns.{Column, most_items}
use Rattle.path_columns.specs.Slots.{item_at}
use Rattle.path_columns.proofs.Listing.{listed_length, listed_longer}
use Rattle.path_columns.proofs.column.Column.lengthen.Goals as goal

pub invariant_of-self-inside : goal.invariant_of-self-inside
invariant_of-self-inside g c =
    let size = sym (listed_length (item_at c.self.inside.slots) c.self.inside.len) ∙ ap (λ (t : Column _). length t.items) c.self.view_is in
    let room = c.requires.room in
    let few : c.self.inside.len + c.args.count ≤ most_items = omega (arith, size, room) in (few, tt)

pub returns-clause-items : goal.returns-clause-items
returns-clause-items g c =
    listed_longer (item_at c.self.inside.slots) c.self.inside.slots.blank c.self.inside.len c.args.count c.self.invariant
    ∙ ap (λ (t : Column _). t.items ++ replicate c.args.count t.blank) c.self.view_is
