use Rattle.std.proofs.Common.{◌≡◌, Some, sym, ap, subst, ◌∙◌, ◌+◌}
use Rattle.std.specs.List.{slice_get}
use Rattle.std.proofs.lemmas.Option.{slice_get-get_or}
use Rattle.cxx_overrider.specs.declared.entries.Entry.{Entry}
use Rattle.cxx_overrider.specs.invariants.Settling.{Holds, IsAmong}
use Rattle.cxx_overrider.proofs.SettlingLemmas.{IsAboveSoFar, above_keep, above_take, above_all, refuted}
use Rattle.cxx_overrider.proofs.settling.highest.Goals as goal
use Rattle.cxx_overrider.proofs.settling.highest.Goals.{then-holds, else-holds}

pub loop-x-preserved : goal.loop-x-preserved
loop-x-preserved c =
    let h = c.args.h.now in
    let xs = c.args.xs.now in
    let i = c.loop-x.x-index in
    elim c.if-holds.branch [
      | then-holds w ↦
          let there : slice_get xs i ≡ Some c.if-holds.best = slice_get-get_or xs i _ c.loop-x-test.true ∙ ap (λ z. Some z) (sym w.best-is) in
          let held : Holds h c.if-holds.best c.loop-x.best = subst (λ (z : Entry). Holds h z c.loop-x.best) (sym w.best-is) (c.holds.ensures.0 w.if-holds.true) in
          record {
            among = record { number = i; listed = there };
            above = λ o. above_take h xs c.args.start c.loop-x.best c.if-holds.best i o c.requires c.loop-x.invariant.among there held (c.loop-x.invariant.above o);
          }
      | else-holds w ↦
          record {
            among = subst (λ (z : Entry). IsAmong xs z) (sym w.best-is) c.loop-x.invariant.among;
            above = λ o. subst (λ (z : Entry). IsAboveSoFar h xs c.args.start (i + 1) z) (sym w.best-is)
                (above_keep h xs c.args.start c.loop-x.best _ i (slice_get-get_or xs i _ c.loop-x-test.true) (refuted c.holds.result _ c.holds.ensures w.if-holds.false) (c.loop-x.invariant.above o));
          }
    ]

pub returns-clause-above : goal.returns-clause-above
returns-clause-above c = λ o. above_all c.args.h.now c.args.xs.now c.args.start c.loop-x.best c.loop-x.x-index c.loop-x-test.false c.loop-x.invariant.among (c.loop-x.invariant.above o)
