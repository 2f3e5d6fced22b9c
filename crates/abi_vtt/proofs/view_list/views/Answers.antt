use Rattle.std.proofs.Common.{◌≡◌, ◌++◌, All, ap, subst, sym, ◌∙◌}
use Rattle.std.proofs.lemmas.List.{append-nil}
use Rattle.cxx_subobject.specs.Subobjects.{IsSubobject}
use Rattle.abi_vtt.specs.Vtts.{views, HasDynamicClass}
use Rattle.abi_vtt.proofs.ViewLemmas.{of_shared, shared_more, shared_all}
use Rattle.abi_vtt.proofs.ValidViews.{shared_known, all_valid, all_dynamic}
use Rattle.abi_vtt.proofs.view_list.views.Goals.{in-Some+in_ok-push_shared-in-Some, in-None}
use Rattle.abi_vtt.proofs.view_list.views.Goals as goal

pub push_shared-requires-clause-known : goal.push_shared-requires-clause-known
push_shared-requires-clause-known c = shared_known c.args.h.now c.keeps.ensures c.args.c c.as_slice-s-items.result.now c.loop-s.s-index c.s-item.result c.in-Some.v c.requires (c.as_slice-s-items.ensures ∙ c.in_ok-subobjects.ensures.preorder) c.loop-s-test.true c.s-item.is (sym c.shared_class.ensures ∙ c.in-Some.is)

pub loop-s-preserved : goal.loop-s-preserved
loop-s-preserved c =
    let h = c.args.h.now in
    let list = c.as_slice-s-items.result.now in
    elim c.match-shared_class.branch [
      | in-Some+in_ok-push_shared-in-Some w ↦ shared_more h list c.loop-s.s-index c.s-item.result c.shared_class.result c.loop-s.list c.match-shared_class.list _ c.loop-s-test.true c.s-item.is c.shared_class.ensures (w.list-is ∙ w.in_ok-push_shared-in-Some.ensures ∙ ap (λ o. c.loop-s.list ++ of_shared h o) (sym w.in-Some.is)) c.loop-s.invariant
      | in-None w ↦ shared_more h list c.loop-s.s-index c.s-item.result c.shared_class.result c.loop-s.list c.match-shared_class.list _ c.loop-s-test.true c.s-item.is c.shared_class.ensures (w.list-is ∙ sym (append-nil c.loop-s.list) ∙ ap (λ o. c.loop-s.list ++ of_shared h o) (sym w.in-None.is)) c.loop-s.invariant
    ]

pub returns-clause-valid : goal.returns-clause-valid
returns-clause-valid c =
    let h = c.args.h.now in
    let same : c.loop-s.list ≡ views h c.args.c = shared_all h c.args.c c.as_slice-s-items.result.now _ c.loop-s.s-index c.loop-s.list c.loop-s-test.false c.loop-s.invariant in
    subst (λ xs. All (IsSubobject h c.args.c) xs) (sym same) (all_valid h c.keeps.ensures c.args.c)

pub returns-clause-dynamic : goal.returns-clause-dynamic
returns-clause-dynamic c =
    let h = c.args.h.now in
    let same : c.loop-s.list ≡ views h c.args.c = shared_all h c.args.c c.as_slice-s-items.result.now _ c.loop-s.s-index c.loop-s.list c.loop-s-test.false c.loop-s.invariant in
    λ dyn. subst (λ xs. All (HasDynamicClass h) xs) (sym same) (all_dynamic h c.keeps.ensures c.args.c dyn)
