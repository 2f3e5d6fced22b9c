use Rattle.std.proofs.Common.{ap, subst, sym, ◌∙◌}
use Rattle.std.specs.Prelude.{List, All}
use Rattle.std.specs.List.{sum_by}
use Rattle.std.proofs.lemmas.List.{take_all}
use Rattle.cxx_subobject.specs.declared.Subobject.{Subobject}
use Rattle.cxx_subobject.specs.Subobjects.{IsSubobject, class_of}
use Rattle.abi_vtt.specs.Vtts.{HasDynamicClass}
use Rattle.abi_sound.specs.Places.{places_of}
use Rattle.abi_tables.specs.Counts.{group_views, vtt_words, words_of_view}
use Rattle.abi_tables.specs.invariants.Weights.{cut}
use Rattle.abi_tables.proofs.NumberLemmas.{cut_again, cut_more, cut_sum}
use Rattle.abi_tables.proofs.CheckLemmas.{all_at}
use Rattle.abi_tables.proofs.check.class_words.Goals as goal

pub words_of_view-requires-clause-valid : goal.words_of_view-requires-clause-valid
words_of_view-requires-clause-valid g c = all_at (IsSubobject c.args.h.now c.args.c) c.as_slice-x-items.result.now c.loop-x.x-index c.x-item.result (subst (All (IsSubobject c.args.h.now c.args.c)) (sym c.as_slice-x-items.ensures) c.in_ok-list.ensures.valid) c.loop-x-test.true c.x-item.is

pub words_of_view-requires-clause-dynamic : goal.words_of_view-requires-clause-dynamic
words_of_view-requires-clause-dynamic g c = all_at (HasDynamicClass c.args.h.now) c.as_slice-x-items.result.now c.loop-x.x-index c.x-item.result (subst (All (HasDynamicClass c.args.h.now)) (sym c.as_slice-x-items.ensures) c.in_ok-list.ensures.dynamic) c.loop-x-test.true c.x-item.is

pub loop-x-preserved : goal.loop-x-preserved
loop-x-preserved g c =
    let h = c.args.h.now in
    let l = places_of h (g.L.SoundLayout.rows c.args.layout.now) in
    let f = λ (x : Subobject). words_of_view h l c.args.c x (class_of x) in
    cut_more f c.as_slice-x-items.result.now c.loop-x.x-index c.x-item.result c.loop-x.sum c.words_of_view.result c.capped-sum.result c.loop-x-test.true c.loop-x.invariant (cut_again (f c.x-item.result) c.words_of_view.result c.words_of_view.ensures ∙ ap (λ y. cut (f y)) c.x-item.is) c.capped-sum.ensures

pub returns : goal.returns
returns g c =
    let h = c.args.h.now in
    let l = places_of h (g.L.SoundLayout.rows c.args.layout.now) in
    let f = λ (x : Subobject). words_of_view h l c.args.c x (class_of x) in
    c.capped.ensures
    ∙ cut_sum (sum_by f (group_views h c.args.c)) (vtt_words h l c.args.c) c.loop-x.sum c.vtt_len.result
    (c.loop-x.invariant ∙ ap (λ (xs : List Subobject). cut (sum_by f xs)) (take_all c.loop-x.x-index c.as_slice-x-items.result.now c.loop-x-test.false ∙ c.as_slice-x-items.ensures ∙ c.in_ok-list.ensures.list))
    (c.vtt_len.ensures h l c.requires.lengths c.requires.known)
