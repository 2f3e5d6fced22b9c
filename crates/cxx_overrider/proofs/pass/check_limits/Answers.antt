use Rattle.cxx_overrider.specs.Faults.{limit_part, too_large}
use Rattle.cxx_hierarchy.specs.declared.stop.Stop.TheVariants.{Limit}
use Rattle.cxx_hierarchy.specs.declared.stop.LimitNo.TheVariants.{L5}
use Rattle.cxx_overrider.proofs.SettlingLemmas.{refuted}
use Rattle.cxx_overrider.proofs.PassLemmas.{limit_fine, first_fault}
use Rattle.cxx_overrider.proofs.pass.check_limits.Goals as goal

pub returns-then-not-is_within-clause-err : goal.returns-then-not-is_within-clause-err
returns-then-not-is_within-clause-err c =
    let h = c.args.h.now in
    let large = refuted c.is_within.result _ (c.is_within.ensures h c.requires.counts) c.if-not-is_within.true in
    first_fault h c.args.c limit_part 0 0 (Limit L5) (too_large c.args.c c.requires.known large) c.requires.fine

pub returns-clause-fine : goal.returns-clause-fine
returns-clause-fine c = limit_fine c.args.h.now c.args.c ((c.is_within.ensures c.args.h.now c.requires.counts).0 c.if-not-is_within.false) c.requires.fine
