use Rattle.std.proofs.Common.{List, subst}
use Rattle.cxx_overrider.specs.declared.entries.Entry.{Entry}
use Rattle.cxx_overrider.specs.invariants.Settling.{IsPicked}
use Rattle.cxx_overrider.proofs.PureLemmas.{none_declared}
use Rattle.cxx_overrider.proofs.SettlingLemmas.{settled_picked}
use Rattle.cxx_overrider.proofs.settling.settle.Goals as goal

pub returns : goal.returns
returns c = λ s k tells.
    let h = c.args.site.now.h.now in
    let rows = c.args.site.now.tables.now.numbering.rows.items in
    let none = none_declared h rows c.args.site.now.tables.now.numbering.count c.args.n c.args.site.now.c s c.requires.site.tables.numbering k c.requires.own in
    let picked : IsPicked h c.in_ok-found.found.items c.pick-picked.result = subst (λ (xs : List Entry). IsPicked h xs c.pick-picked.result) c.deref.ensures.value c.pick-picked.ensures in
    settled_picked h c.keeps.ensures c.args.site.now.c c.args.v s c.in_ok-found.found.items c.pick-picked.result none (c.in_ok-found.ensures s k tells) c.requires.base picked
