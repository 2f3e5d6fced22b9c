use Rattle.std.proofs.Common.{subst, sym, ◌∙◌}
use Rattle.abi_primary.specs.PrimaryBase.{IsPrimary, of_direct, of_virtual}
use Rattle.abi_primary.proofs.VirtualListLemmas.{listed_primary}
use Rattle.abi_primary.proofs.primaries.primary_among.Goals as goal

pub returns-in-Some : goal.returns-in-Some
returns-in-Some c = of_direct c.in-Some.b c.in-Some.ensures

pub returns-in-None : goal.returns-in-None
returns-in-None c =
    let same = c.virtual_primary.ensures ∙ listed_primary c.args.h.now c.args.nearly.now c.args.earlier.now c.args.c c.args.list.now c.keeps.ensures c.requires.list in
    subst (IsPrimary c.args.h.now c.args.nearly.now c.args.earlier.now c.args.c) (sym same) (of_virtual c.in-None.ensures)
