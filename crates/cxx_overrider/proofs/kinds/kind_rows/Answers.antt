use Rattle.std.proofs.Common.{◌≡◌, ◌++◌, ◌∷◌, [], List, length, subst, sym, ap, arith, length-append}
use Rattle.cxx_hierarchy.specs.declared.records.ClassId.{ClassId}
use Rattle.cxx_overrider.specs.declared.kinds.BaseKind.{BaseKind}
use Rattle.cxx_overrider.specs.invariants.Kinds.{AreKinds}
use Rattle.cxx_overrider.proofs.KindLemmas.{kinds_more}
use Rattle.cxx_overrider.proofs.kinds.kind_rows.Goals as goal

pub loop-number-preserved : goal.loop-number-preserved
loop-number-preserved c =
    let h = c.args.h.now in
    let d : ClassId = record { 0 = c.loop-number.number } in
    let rows = c.loop-number.rows.items in
    let e : c.push.new.self.items ≡ rows ++ c.in_ok-row.row ∷ [] = c.in_ok-push.ensures.items in
    record {
      size = let n = c.loop-number.invariant.size in omega (arith, ap length e, length-append {A = List BaseKind});
      kinds = subst (λ (x : List (List BaseKind)). AreKinds h x) (sym e) (kinds_more h c.keeps.ensures d rows c.in_ok-row.row c.loop-number.invariant.kinds c.loop-number.invariant.size c.in_ok-row.ensures);
    }
