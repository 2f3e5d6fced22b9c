use Rattle.std.proofs.Common.{◌≡◌, ◌<◌, ◌++◌, length, true, false, ap, sym, ◌∙◌, arith}
use Rattle.std.proofs.lemmas.List.{append-nil}
use Rattle.cxx_hierarchy.specs.Classes.{bases_in, bases_of}
use Rattle.cxx_subobject.specs.declared.Subobject.{Subobject}
use Rattle.abi_vtt.specs.Vtts.{sub_views}
use Rattle.abi_vtt.proofs.ViewLemmas.{nth, nth_before, built_is, views_more, views_all}
use Rattle.abi_vtt.proofs.view_list.+push_views.Goals.{then-is_built+in_ok-inner+in_ok-push_views, else-is_built}
use Rattle.abi_vtt.proofs.view_list.+push_views.Goals as goal

pub push_views-requires : goal.push_views-requires
push_views-requires t c =
    let bases = c.as_slice-base-items.result.now in
    let less : (nth bases c.loop-base.base-index).class.0 < c.args.c.0 = nth_before c.args.h.now c.keeps.ensures c.args.c bases c.loop-base.base-index (c.as_slice-base-items.ensures ∙ sym (ap bases_in c.class.ensures)) c.loop-base-test.true in
    let known : (nth bases c.loop-base.base-index).class.0 < length c.args.h.now = let k = c.requires.known in omega arith in
    (omega arith, (known, c.requires.marks))

pub loop-base-preserved : goal.loop-base-preserved
loop-base-preserved t c = λ n lt.
    let h = c.args.h.now in
    let x = c.args.x.now in
    let bases = c.as_slice-base-items.result.now in
    let i = c.loop-base.base-index in
    let is : bases ≡ bases_of h c.args.c = c.as_slice-base-items.ensures ∙ sym (ap bases_in c.class.ensures) in
    let less : (nth bases i).class.0 < c.args.c.0 = nth_before h c.keeps.ensures c.args.c bases i is c.loop-base-test.true in
    let known : (nth bases i).class.0 < length h = let k = c.requires.known in omega arith in
    let test = built_is h c.args.marks.now (nth bases i) c.is_built.result c.requires.marks known c.is_built.ensures in
    elim c.if-is_built.branch [
      | then-is_built+in_ok-inner+in_ok-push_views w ↦ views_more h n x bases i true c.loop-base.list c.if-is_built.list _ c.loop-base-test.true (test ∙ w.if-is_built.true)
          (w.list-is ∙ w.in_ok-push_views.ensures n (omega arith) ∙ ap (λ (s : Subobject). c.loop-base.list ++ sub_views h n s (nth bases i).class) w.in_ok-inner.ensures) (c.loop-base.invariant n lt)
      | else-is_built w ↦ views_more h n x bases i false c.loop-base.list c.if-is_built.list _ c.loop-base-test.true (test ∙ w.if-is_built.false) (w.list-is ∙ sym (append-nil c.loop-base.list)) (c.loop-base.invariant n lt)
    ]

pub returns : goal.returns
returns t c = views_all c.args.h.now c.args.x.now c.args.c c.as_slice-base-items.result.now c.loop-base.base-index c.args.list.now c.loop-base.list c.loop-base-test.false c.loop-base.invariant
