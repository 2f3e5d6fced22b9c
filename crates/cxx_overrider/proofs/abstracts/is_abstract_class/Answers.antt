use Rattle.std.proofs.Common.{◌≡◌, ◌<◌, false, ⊎_elim, subst, arith}
use Rattle.cxx_hierarchy.specs.declared.records.ClassId.{ClassId}
use Rattle.cxx_subobject.specs.declared.Root.TheVariants.{Whole, Shared}
use Rattle.cxx_subobject.proofs.PathLemmas.{same_id}
use Rattle.cxx_overrider.specs.Functions.{Signature, is_pure}
use Rattle.cxx_overrider.specs.Overriding.{IsAbstract}
use Rattle.cxx_overrider.specs.invariants.Abstract.{HasPureAt}
use Rattle.std.proofs.lemmas.Bool.{cases_lt, MatchBool-at_false}
use Rattle.cxx_overrider.proofs.Numbering.{signature_class}
use Rattle.cxx_overrider.proofs.AbstractLemmas.{none_abstract}
use Rattle.cxx_subobject.proofs.DecidingLemmas.{base_of_shared}
use Rattle.cxx_overrider.proofs.VirtualFlagTable.{table_no_virtual_bases}
use Rattle.cxx_overrider.proofs.abstracts.is_abstract_class.Goals as goal

pub loop-number-preserved : goal.loop-number-preserved
loop-number-preserved c = λ v s lt at.
    let h = c.args.site.now.h.now in
    let d : ClassId = record { 0 = c.loop-number.number } in
    ⊎_elim (λ small. c.loop-number.invariant v s small at)
    (λ past.
    let here = same_id v d (omega arith) in
    MatchBool-at_false (IsAbstract h c.args.site.now.c) ((t : Signature) → HasPureAt h c.args.site.now.c (Shared d) t → ⊥) c.if-has_pure_base.false c.has_pure_base.ensures s
    (subst (λ (x : ClassId). HasPureAt h c.args.site.now.c (Shared x) s) here at))
    (cases_lt v.0 c.loop-number.number)

pub returns : goal.returns
returns c =
    let h = c.args.site.now.h.now in
    let whole_none = MatchBool-at_false (IsAbstract h c.args.site.now.c) ((t : Signature) → HasPureAt h c.args.site.now.c Whole t → ⊥) c.if-has_pure_whole.false c.has_pure_whole.ensures in
    let f = c.loop-number-test.false in
    let shared_none = λ (v : ClassId) (s : Signature) (lt : v.0 < c.args.site.now.c.0) (at : HasPureAt h c.args.site.now.c (Shared v) s). c.loop-number.invariant v s (omega arith) at in
    (λ e. cc, λ k. absurd (none_abstract h c.keeps.ensures c.args.site.now.c whole_none shared_none k))

pub returns-then-not-has_virtual_bases : goal.returns-then-not-has_virtual_bases
returns-then-not-has_virtual_bases c =
    let h = c.args.site.now.h.now in
    let whole_none = MatchBool-at_false (IsAbstract h c.args.site.now.c) ((t : Signature) → HasPureAt h c.args.site.now.c Whole t → ⊥) c.if-has_pure_whole.false c.has_pure_whole.ensures in
    let shared_none = λ (v : ClassId) (s : Signature) (lt : v.0 < c.args.site.now.c.0) (at : HasPureAt h c.args.site.now.c (Shared v) s).
    table_no_virtual_bases h c.args.site.now.tables.now c.deref.result.now c.args.site.now.c c.has_virtual_bases.result c.requires.site.tables c.requires.site.known c.deref.ensures.value c.has_virtual_bases.ensures c.if-not-has_virtual_bases.true v
    (base_of_shared h c.args.site.now.c v at.subobject at.of_class.valid at.at_root) in
    (λ e. cc, λ k. absurd (none_abstract h c.keeps.ensures c.args.site.now.c whole_none shared_none k))

pub returns-then-not-site : goal.returns-then-not-site
returns-then-not-site c =
    let h = c.args.site.now.h.now in (
      λ e. cc,
      λ k.
          let class = signature_class h k.overrider.function k.final.signature k.final.left.candidate.same in
          let none : is_pure h k.overrider.function ≡ false = c.requires.site.tables.none_pure c.if-not-site.true k.overrider.function class in
          let pure = k.pure in
          cc,
    )
