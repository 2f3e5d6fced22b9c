use Rattle.std.proofs.Common.{◌≡◌, ℕ, false, Some, length, get_or, subst, ap, ◌∙◌, arith, rules}
use Rattle.std.specs.List.{slice_get}
use Rattle.cxx_hierarchy.specs.declared.records.ClassId.{ClassId}
use Rattle.cxx_hierarchy.specs.declared.records.Base.{Base}
use Rattle.cxx_hierarchy.specs.Classes.{bases_of}
use Rattle.cxx_overrider.specs.declared.kinds.BaseKind.{BaseKind}
use Rattle.cxx_overrider.specs.invariants.Kinds.{Counts, IsPartThrough, IsMerged, lifted_kind, kind_of}
use Rattle.cxx_overrider.proofs.Lists.{get_at}
use Rattle.foundation.proofs.Places.{contains_at}
use Rattle.cxx_overrider.proofs.KindLemmas.{none_through, counts_next}
use Rattle.cxx_subobject.specs.Subobjects.{IsOfClass}
use Rattle.cxx_overrider.proofs.kinds.kind_through.Goals as goal

abbrev no_base : Base ClassId
no_base = record { class = record { 0 = 0 }; is_virtual = false; is_public = false; at = 0 }

pub loop-base-init : goal.loop-base-init
loop-base-init c = record { items = search rules; counts = none_through c.args.h.now c.args.c c.args.d }

pub loop-base-preserved : goal.loop-base-preserved
loop-base-preserved c =
    let h = c.args.h.now in
    let rows = c.args.rows.now in
    let i = c.loop-base.base-index in
    let base = get_or c.as_slice-base-items.result.now i no_base in
    let listed : slice_get (bases_of h c.args.c) i ≡ Some base = get_at c.as_slice-base-items.result.now (bases_of h c.args.c) i no_base c.loop-base.invariant.items c.loop-base-test.true in
    let before = c.keeps.ensures.bases c.args.c base (contains_at (bases_of h c.args.c) i base listed) in
    let size = c.requires.size in
    let more : Counts (IsOfClass h base.class c.args.d) (kind_of rows base.class c.args.d) = c.requires.rows.each base.class c.args.d (omega arith) in
    let lifted : c.lifted_kind.result ≡ lifted_kind base (kind_of rows base.class c.args.d) = c.lifted_kind.ensures ∙ ap (lifted_kind base) c.kind_of.ensures in
    record {
      items = c.loop-base.invariant.items;
      counts = counts_next h c.keeps.ensures c.args.c c.args.d i base c.loop-base.kind (kind_of rows base.class c.args.d) c.merged-kind.result listed c.loop-base.invariant.counts more
          (subst (λ (k : BaseKind). IsMerged c.loop-base.kind k c.merged-kind.result) lifted c.merged-kind.ensures);
    }

pub returns : goal.returns
returns c =
    let h = c.args.h.now in
    let last = c.loop-base.auto.base-index-end in
    let all : c.loop-base.base-index ≡ length (bases_of h c.args.c) = let e = ap length c.loop-base.invariant.items in let f = c.loop-base-test.false in omega arith in
    subst (λ (n : ℕ). Counts (IsPartThrough h c.args.c c.args.d n) c.loop-base.kind) all c.loop-base.invariant.counts
