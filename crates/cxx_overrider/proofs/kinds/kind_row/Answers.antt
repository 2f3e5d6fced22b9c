use Rattle.std.proofs.Common.{◌≡◌, List, length, subst, sym, ap, arith, length-append}
use Rattle.cxx_hierarchy.specs.declared.records.ClassId.{ClassId}
use Rattle.cxx_overrider.specs.declared.kinds.BaseKind.{BaseKind}
use Rattle.cxx_overrider.specs.invariants.Kinds.{IsKindRow}
use Rattle.cxx_overrider.proofs.KindLemmas.{CountsBelow, below_more, counts_all, kind_row_made}
use Rattle.cxx_overrider.proofs.kinds.kind_row.Goals as goal

pub loop-number-preserved : goal.loop-number-preserved
loop-number-preserved c =
    let h = c.args.h.now in
    let d : ClassId = record { 0 = c.loop-number.number } in
    let row = c.loop-number.row in
    let e = c.in_ok-push.ensures.ok in
    record {
      size = let n = c.loop-number.invariant.size in omega (arith, ap length e, length-append {A = BaseKind});
      each = subst (λ (x : List BaseKind). CountsBelow h c.args.c x) (sym e)
          (below_more h c.args.c d row c.kind_through.result c.loop-number.invariant.each c.loop-number.invariant.size (counts_all h c.keeps.ensures c.args.c d c.kind_through.result c.loop-number-test.true c.kind_through.ensures));
    }

pub returns : goal.returns
returns c =
    let end = c.loop-number.auto.number-end in
    let size : length c.loop-number.row ≡ c.args.c.0 = let n = c.loop-number.invariant.size in omega arith in
    subst (λ (x : List BaseKind). IsKindRow c.args.h.now c.args.c x) (sym c.in_ok-push-2.ensures.ok)
    (kind_row_made c.args.h.now c.keeps.ensures c.args.c c.loop-number.row c.loop-number.invariant.each size)
