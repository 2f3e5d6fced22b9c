use Rattle.std.proofs.Common.{refl, sym, subst, ◌∙◌}
use Rattle.abi_sound.specs.Places.{places_of}
use Rattle.abi_vtt.specs.invariants.Growing.{GrowsByVttWords}
use Rattle.abi_vtt.proofs.ValidViews.{shared_has}
use Rattle.abi_vtable.proofs.Kept.{views_same, views_more}
use Rattle.abi_vtt.proofs.WordSteps.{of_shared, growing_start, grows_none, shared_more, shared_rest, vtt_done}
use Rattle.abi_vtt.proofs.vtt_list.vtt_with_views.Goals.{in-Some+in_ok-push_shared_vtt-in-Some, in-None}
use Rattle.abi_vtt.proofs.vtt_list.vtt_with_views.Goals as goal

pub push_shared_vtt-requires-clause-base : goal.push_shared_vtt-requires-clause-base
push_shared_vtt-requires-clause-base g c = shared_has c.args.h.now c.keeps.ensures c.args.c c.as_slice-s-items.result.now c.loop-s.s-index c.s-item.result c.in-Some.v (c.as_slice-s-items.ensures ∙ c.in_ok-subobjects.ensures.preorder) c.loop-s-test.true c.s-item.is (sym c.shared_class.ensures ∙ c.in-Some.is)

pub loop-s-init : goal.loop-s-init
loop-s-init g c =
    let h = c.args.h.now in
    let l = places_of h (g.L.SoundLayout.rows c.args.layout.now) in
    (growing_start h l c.args.c (shared_rest h l c.as_slice-s-items.result.now) c.push_sub_vtt.new.words, views_same h l c.push_sub_vtt.new.views c.push_sub_vtt.new.views refl)

pub loop-s-preserved : goal.loop-s-preserved
loop-s-preserved g c =
    let h = c.args.h.now in
    let l = places_of h (g.L.SoundLayout.rows c.args.layout.now) in
    let list = c.as_slice-s-items.result.now in (
      elim c.match-shared_class.branch [
        | in-Some+in_ok-push_shared_vtt-in-Some w ↦ rw w.words-is (shared_more h l c.args.c list c.loop-s.s-index c.s-item.result c.shared_class.result _ c.push_sub_vtt.new.words c.loop-s.words w.push_shared_vtt.new.words c.loop-s-test.true c.s-item.is c.shared_class.ensures
            (subst (λ o. GrowsByVttWords h l c.args.c (of_shared h l o) c.loop-s.words w.push_shared_vtt.new.words) (sym w.in-Some.is) w.in_ok-push_shared_vtt-in-Some.ensures.words) c.loop-s.invariant.0)
        | in-None w ↦ shared_more h l c.args.c list c.loop-s.s-index c.s-item.result c.shared_class.result _ c.push_sub_vtt.new.words c.loop-s.words c.match-shared_class.words c.loop-s-test.true c.s-item.is c.shared_class.ensures
            (subst (λ o. GrowsByVttWords h l c.args.c (of_shared h l o) c.loop-s.words c.match-shared_class.words) (sym w.in-None.is) (grows_none h l c.args.c c.loop-s.words c.match-shared_class.words w.words-is)) c.loop-s.invariant.0
      ],
      elim c.match-shared_class.branch [
        | in-Some+in_ok-push_shared_vtt-in-Some w ↦ rw w.views-is (views_more h l c.push_sub_vtt.new.views c.loop-s.views w.push_shared_vtt.new.views c.loop-s.invariant.1 w.in_ok-push_shared_vtt-in-Some.ensures.views)
        | in-None w ↦ views_more h l c.push_sub_vtt.new.views c.loop-s.views c.match-shared_class.views c.loop-s.invariant.1 (views_same h l c.loop-s.views c.match-shared_class.views w.views-is)
      ],
    )

pub returns-clause-words : goal.returns-clause-words
returns-clause-words g c =
    let h = c.args.h.now in
    let l = places_of h (g.L.SoundLayout.rows c.args.layout.now) in
    vtt_done h l c.args.c c.in_ok-longer_path.field-0 c.as_slice-s-items.result.now c.loop-s.s-index c.new-words.result c.push_sub_vtt.new.words c.loop-s.words c.in_ok-longer_path.ensures (c.as_slice-s-items.ensures ∙ c.in_ok-subobjects.ensures.preorder) c.new-words.ensures c.in_ok-push_sub_vtt.ensures.words c.loop-s-test.false c.loop-s.invariant.0

pub returns-clause-views : goal.returns-clause-views
returns-clause-views g c =
    let h = c.args.h.now in
    let l = places_of h (g.L.SoundLayout.rows c.args.layout.now) in
    views_more h l c.args.views.now c.push_sub_vtt.new.views c.loop-s.views c.in_ok-push_sub_vtt.ensures.views c.loop-s.invariant.1
