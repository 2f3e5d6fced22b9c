use Rattle.std.proofs.Common.{ℕ, List, ap, ◌∙◌}
use Rattle.cxx_overrider.specs.invariants.EntryTables.{put_down, served_by}
use Rattle.cxx_overrider.proofs.entries.EntryTable.find.Goals as goal

pub returns : goal.returns
returns c = c.find_put.ensures ∙ ap (put_down c.args.self.now) (c.served_by-served.ensures ∙ ap (λ (xs : List ℕ). served_by xs c.args.key) c.deref.ensures.value)
