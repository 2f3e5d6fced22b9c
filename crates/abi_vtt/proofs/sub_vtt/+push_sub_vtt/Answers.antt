use Rattle.std.proofs.Common.{◌≡◌, ◌<◌, true, false, Some, length, refl, ap, sym, subst, ◌∙◌, rules, arith}
use Rattle.cxx_hierarchy.specs.Classes.{bases_in, bases_of}
use Rattle.cxx_subobject.specs.declared.Subobject.{Subobject}
use Rattle.cxx_subobject.specs.Subobjects.{IsSubobject, whole_of, class_of}
use Rattle.cxx_subobject.proofs.TestLemmas.{class_below}
use Rattle.foundation.proofs.Places.{any_default}
use Rattle.cxx_subobject.proofs.PathLemmas.{class_inside}
use Rattle.abi_sound.specs.Places.{places_of}
use Rattle.abi_vtable.specs.invariants.Parts.{IsViewParts, view_of_parts}
use Rattle.abi_vtable.specs.declared.view.ViewParts.{ViewParts}
use Rattle.abi_vtable.proofs.Kept.{kept_within, kept_there, kept_grows, views_same, views_more, stays_there, still_within}
use Rattle.abi_vtt.specs.Vtts.{extended_by, is_built_base, sub_items, words_of_bases}
use Rattle.abi_vtt.specs.invariants.Served.{AreServing}
use Rattle.abi_vtt.specs.invariants.Growing.{GrowsByVttWords}
use Rattle.abi_vtt.proofs.MarkLemmas.{some_has}
use Rattle.abi_vtt.proofs.ViewLemmas.{no_base, nth, nth_before, built_is}
use Rattle.abi_vtt.proofs.ValidViews.{nth_edge, built_virtual, below_valid}
use Rattle.abi_vtt.proofs.KnownParts.{view_dynamic, whole_noted, first_there}
use Rattle.abi_vtt.proofs.WordSteps.{base_items, base_more, grows_none, growing_start, sub_done}
use Rattle.abi_vtt.proofs.sub_vtt.+push_sub_vtt.Goals.{then-is_built+in_ok-subobject_below+in_ok-push_sub_vtt, else-is_built}
use Rattle.abi_vtt.proofs.sub_vtt.+push_sub_vtt.Goals as goal

pub keep_view-requires-clause-dynamic : goal.keep_view-requires-clause-dynamic
keep_view-requires-clause-dynamic g t c = view_dynamic c.args.h.now c.args.name.now.view c.args.d c.requires.class c.requires.has_base

pub view_at-x-requires : goal.view_at-x-requires
view_at-x-requires g t c =
    let h = c.args.h.now in
    let l = places_of h (g.L.SoundLayout.rows c.args.layout.now) in
    kept_within h l c.args.name.now c.args.views.now c.keep_view.new.views c.as_slice.result.now c.in_ok-number.number c.in_ok-number.ensures.kept c.in_ok-number.ensures.number c.as_slice.ensures

pub tables_of-requires-clause-view : goal.tables_of-requires-clause-view
tables_of-requires-clause-view g t c =
    let h = c.args.h.now in
    let l = places_of h (g.L.SoundLayout.rows c.args.layout.now) in
    (kept_there h l c.args.name.now c.args.views.now c.keep_view.new.views c.as_slice.result.now c.in_ok-number.number c.view_at-x.result.now c.in_ok-number.ensures.kept c.in_ok-number.ensures.number c.as_slice.ensures c.view_at-x.ensures).parts

pub push_word-requires : goal.push_word-requires
push_word-requires g t c =
    let h = c.args.h.now in
    let l = places_of h (g.L.SoundLayout.rows c.args.layout.now) in
    let v = c.view_at-x.result.now in
    let named = kept_there h l c.args.name.now c.args.views.now c.keep_view.new.views c.as_slice.result.now c.in_ok-number.number v c.in_ok-number.ensures.kept c.in_ok-number.ensures.number c.as_slice.ensures c.view_at-x.ensures in
    whole_noted h l v c.deref.result.now named.parts (subst (λ ts. AreServing h l (view_of_parts v) ts) (sym c.deref.ensures.value) c.in_ok-tables.ensures)

pub class-requires : goal.class-requires
class-requires g t c = class_inside c.args.h.now c.keeps.ensures c.args.name.now.complete c.args.d c.args.name.now.view c.requires.known c.requires.view c.requires.class

pub loop-base-init : goal.loop-base-init
loop-base-init g t c =
    let h = c.args.h.now in
    let l = places_of h (g.L.SoundLayout.rows c.args.layout.now) in (
      (λ n lt. growing_start h l c.args.name.now.complete (base_items h l n c.args.name.now.view c.as_slice-base-items.result.now) c.push_word.new.words),
      views_same h l c.keep_view.new.views c.keep_view.new.views refl,
    )

pub push_sub_vtt-requires : goal.push_sub_vtt-requires
push_sub_vtt-requires g t c κs within =
    let h = c.args.h.now in
    let d = c.args.d in
    let view = c.args.name.now.view in
    let bases = c.as_slice-base-items.result.now in
    let i = c.loop-base.base-index in
    let is : bases ≡ bases_of h d = c.as_slice-base-items.ensures ∙ sym (ap bases_in c.class.ensures) in
    let base = nth bases i in
    let here : d.0 < length h = class_inside h c.keeps.ensures c.args.name.now.complete d view c.requires.known c.requires.view c.requires.class in
    let less : base.class.0 < d.0 = nth_before h c.keeps.ensures d bases i is c.loop-base-test.true in
    let known : base.class.0 < length h = omega arith in
    let test : is_built_base h base ≡ true = built_is h c.args.marks.now base c.is_built.result c.requires.marks known c.is_built.ensures ∙ c.if-is_built.true in
    let there : c.in_ok-subobject_below.field-0 ≡ extended_by view base.class = c.in_ok-subobject_below.ensures in
    let valid : IsSubobject h c.args.name.now.complete c.in_ok-subobject_below.field-0 = subst (λ s. IsSubobject h c.args.name.now.complete s) (sym there) (below_valid h c.args.name.now.complete d view base.class c.requires.view c.requires.class (nth_edge h d bases i is c.loop-base-test.true test)) in
    let class : class_of c.in_ok-subobject_below.field-0 ≡ Some base.class = ap class_of there ∙ class_below view.path d base.class c.requires.class in
    let has = some_has h c.keeps.ensures base.class (built_virtual h base test) in
    (search rules, (within, (c.requires.layout, (c.requires.marks, (c.requires.known, (valid, (class, has)))))))

pub loop-base-preserved : goal.loop-base-preserved
loop-base-preserved g t c =
    let h = c.args.h.now in
    let l = places_of h (g.L.SoundLayout.rows c.args.layout.now) in
    let complete = c.args.name.now.complete in
    let d = c.args.d in
    let view = c.args.name.now.view in
    let bases = c.as_slice-base-items.result.now in
    let i = c.loop-base.base-index in
    let is : bases ≡ bases_of h d = c.as_slice-base-items.ensures ∙ sym (ap bases_in c.class.ensures) in
    let base = nth bases i in
    let here : d.0 < length h = class_inside h c.keeps.ensures complete d view c.requires.known c.requires.view c.requires.class in
    let less : base.class.0 < d.0 = nth_before h c.keeps.ensures d bases i is c.loop-base-test.true in
    let known : base.class.0 < length h = omega arith in
    let at = any_default bases i no_base base c.loop-base-test.true in
    let test : is_built_base h base ≡ c.is_built.result = built_is h c.args.marks.now base c.is_built.result c.requires.marks known c.is_built.ensures in (
      (λ n lt.
          let small : base.class.0 < n = omega arith in
          elim c.if-is_built.branch [
            | then-is_built+in_ok-subobject_below+in_ok-push_sub_vtt w ↦ rw w.words-is (base_more h l complete n view bases i base true _ c.push_word.new.words c.loop-base.words w.push_sub_vtt.new.words c.loop-base-test.true at (test ∙ w.if-is_built.true)
                (subst (λ (s : Subobject). GrowsByVttWords h l complete (sub_items h l n s base.class) c.loop-base.words w.push_sub_vtt.new.words) w.in_ok-subobject_below.ensures (w.in_ok-push_sub_vtt.ensures.words n small)) (c.loop-base.invariant.0 n lt))
            | else-is_built w ↦ base_more h l complete n view bases i base false _ c.push_word.new.words c.loop-base.words c.if-is_built.words c.loop-base-test.true at (test ∙ w.if-is_built.false)
                (grows_none h l complete c.loop-base.words c.if-is_built.words w.words-is) (c.loop-base.invariant.0 n lt)
          ]),
      elim c.if-is_built.branch [
        | then-is_built+in_ok-subobject_below+in_ok-push_sub_vtt w ↦ rw w.views-is (views_more h l c.keep_view.new.views c.loop-base.views w.push_sub_vtt.new.views c.loop-base.invariant.1 w.in_ok-push_sub_vtt.ensures.views)
        | else-is_built w ↦ views_more h l c.keep_view.new.views c.loop-base.views c.if-is_built.views c.loop-base.invariant.1 (views_same h l c.loop-base.views c.if-is_built.views w.views-is)
      ],
    )

pub view_at-itself-requires : goal.view_at-itself-requires
view_at-itself-requires g t c =
    let h = c.args.h.now in
    let l = places_of h (g.L.SoundLayout.rows c.args.layout.now) in
    still_within h l c.keep_view.new.views c.loop-base.views c.as_slice.result.now c.as_slice-2.result.now c.in_ok-number.number c.view_at-x.result.now c.loop-base.invariant.1 c.as_slice.ensures c.as_slice-2.ensures c.view_at-x.ensures

pub push_base_words-requires-clause-view : goal.push_base_words-requires-clause-view
push_base_words-requires-clause-view g t c =
    let h = c.args.h.now in
    let l = places_of h (g.L.SoundLayout.rows c.args.layout.now) in
    let v = c.view_at-x.result.now in
    let named = kept_there h l c.args.name.now c.args.views.now c.keep_view.new.views c.as_slice.result.now c.in_ok-number.number v c.in_ok-number.ensures.kept c.in_ok-number.ensures.number c.as_slice.ensures c.view_at-x.ensures in
    let same : v ≡ c.view_at-itself.result.now = stays_there h l c.keep_view.new.views c.loop-base.views c.as_slice.result.now c.as_slice-2.result.now c.in_ok-number.number v c.view_at-itself.result.now c.loop-base.invariant.1 c.as_slice.ensures c.as_slice-2.ensures c.view_at-x.ensures c.view_at-itself.ensures in
    subst (λ (x : ViewParts). IsViewParts h l x) same named.parts

pub push_base_words-requires-clause-tables : goal.push_base_words-requires-clause-tables
push_base_words-requires-clause-tables g t c =
    let h = c.args.h.now in
    let l = places_of h (g.L.SoundLayout.rows c.args.layout.now) in
    let v = c.view_at-x.result.now in
    let same : v ≡ c.view_at-itself.result.now = stays_there h l c.keep_view.new.views c.loop-base.views c.as_slice.result.now c.as_slice-2.result.now c.in_ok-number.number v c.view_at-itself.result.now c.loop-base.invariant.1 c.as_slice.ensures c.as_slice-2.ensures c.view_at-x.ensures c.view_at-itself.ensures in
    subst (λ (x : ViewParts). AreServing h l (view_of_parts x) c.deref-2.result.now) same (subst (λ ts. AreServing h l (view_of_parts v) ts) (sym c.deref-2.ensures.value) c.in_ok-tables.ensures)

pub returns-clause-words : goal.returns-clause-words
returns-clause-words g t c =
    let h = c.args.h.now in
    let l = places_of h (g.L.SoundLayout.rows c.args.layout.now) in
    let v = c.view_at-x.result.now in
    let named = kept_there h l c.args.name.now c.args.views.now c.keep_view.new.views c.as_slice.result.now c.in_ok-number.number v c.in_ok-number.ensures.kept c.in_ok-number.ensures.number c.as_slice.ensures c.view_at-x.ensures in
    let same : v ≡ c.view_at-itself.result.now = stays_there h l c.keep_view.new.views c.loop-base.views c.as_slice.result.now c.as_slice-2.result.now c.in_ok-number.number v c.view_at-itself.result.now c.loop-base.invariant.1 c.as_slice.ensures c.as_slice-2.ensures c.view_at-x.ensures c.view_at-itself.ensures in
    let serving = subst (λ ts. AreServing h l (view_of_parts v) ts) (sym c.deref.ensures.value) c.in_ok-tables.ensures in
    let last : GrowsByVttWords h l v.complete (words_of_bases h l v.at v.class) c.loop-base.words c.push_base_words.new.words = subst (λ (x : ViewParts). GrowsByVttWords h l x.complete (words_of_bases h l x.at x.class) c.loop-base.words c.push_base_words.new.words) (sym same) c.in_ok-push_base_words.ensures in
    sub_done h l c.args.name.now.complete c.args.name.now.view c.args.d v c.as_slice-base-items.result.now c.loop-base.base-index c.args.words.now c.push_word.new.words c.loop-base.words c.push_base_words.new.words named.parts named.complete named.at c.requires.class
    (c.in_ok-push_word.ensures h l (whole_of v.class) named.parts serving (first_there h v.class)) c.loop-base.invariant.0 c.loop-base-test.false (c.as_slice-base-items.ensures ∙ sym (ap bases_in c.class.ensures)) last

pub returns-clause-views : goal.returns-clause-views
returns-clause-views g t c =
    let h = c.args.h.now in
    let l = places_of h (g.L.SoundLayout.rows c.args.layout.now) in
    views_more h l c.args.views.now c.keep_view.new.views c.loop-base.views (kept_grows h l c.args.name.now c.args.views.now c.keep_view.new.views c.in_ok-number.ensures.kept) c.loop-base.invariant.1
