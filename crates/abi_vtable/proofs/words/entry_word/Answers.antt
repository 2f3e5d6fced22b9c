use Rattle.std.proofs.Common.{◌≡◌, ◌<◌, Some, length, sym, ◌∙◌, arith}
use Rattle.std.specs.Prelude.{slice_get}
use Rattle.std.proofs.lemmas.Result.{IfOk-weaker}
use Rattle.cxx_subobject.specs.declared.Subobject.{Subobject}
use Rattle.cxx_subobject.specs.Preorder.{preorder}
use Rattle.abi_sound.specs.Places.{places_of}
use Rattle.abi_slots.specs.Groups.{code_word, IsEntryWord}
use Rattle.abi_vtable.specs.invariants.Parts.{view_of_parts}
use Rattle.cxx_overrider.specs.Functions.{overrider}
use Rattle.abi_vtable.proofs.Over.{some_view, view_known}
use Rattle.abi_vtable.proofs.EntryRuns.{first_from, start_number, found_from, none_of, found_within, declared_from, overrider_known, unused_word, pure_word, code_runs}
use Rattle.abi_vtable.proofs.words.entry_word.Goals as goal

pub overflow_add-x : goal.overflow_add-x
overflow_add-x g c = let k = view_known c.args.site.now.h.now c.keeps.ensures (view_of_parts c.args.x.now) c.requires.view.view in let few = c.keeps.ensures.few in omega arith

pub declarer_below-requires-clause-view : goal.declarer_below-requires-clause-view
declarer_below-requires-clause-view g c = some_view c.args.site.now.h.now (places_of c.args.site.now.h.now (g.L.SoundLayout.rows c.args.site.now.layout.now)) c.args.x.now c.requires.view

pub returns-in-None-clause-word : goal.returns-in-None-clause-word
returns-in-None-clause-word g c = λ t at.
    let h = c.args.site.now.h.now in
    let l = places_of h (g.L.SoundLayout.rows c.args.site.now.layout.now) in
    let v = c.args.x.now in
    let none = none_of h l (view_of_parts v) v.parts c.args.key (first_from h l v c.args.key c.args.number) c.declarer_below.result c.in-None.is (c.declarer_below.ensures l c.args.key (slice_get (preorder h v.class) c.args.number) c.requires.view c.requires.site.are_slots (start_number h l v c.requires.view c.args.number c.requires.number) c.requires.along) in
    unused_word h l v c.args.key c.args.number t at none

pub bounds-as_slice-found : goal.bounds-as_slice-found
bounds-as_slice-found g c =
    let h = c.args.site.now.h.now in
    let l = places_of h (g.L.SoundLayout.rows c.args.site.now.layout.now) in
    let v = c.args.x.now in
    found_within h v.parts c.as_slice.result.now c.args.key (first_from h l v c.args.key c.args.number) c.in-Some.found c.as_slice.ensures
    (found_from h l v c.requires.view c.args.key c.args.number c.requires.number c.declarer_below.result c.in-Some.found c.in-Some.is (λ number. c.declarer_below.ensures l c.args.key (slice_get (preorder h v.class) c.args.number) c.requires.view c.requires.site.are_slots number c.requires.along))

pub offset_bounds-as_slice-found : goal.offset_bounds-as_slice-found
offset_bounds-as_slice-found g c =
    let h = c.args.site.now.h.now in
    let l = places_of h (g.L.SoundLayout.rows c.args.site.now.layout.now) in
    let v = c.args.x.now in
    let found = found_from h l v c.requires.view c.args.key c.args.number c.requires.number c.declarer_below.result c.in-Some.found c.in-Some.is (λ number. c.declarer_below.ensures l c.args.key (slice_get (preorder h v.class) c.args.number) c.requires.view c.requires.site.are_slots number c.requires.along) in
    let lt : c.in-Some.found.part < length c.as_slice.result.now = found_within h v.parts c.as_slice.result.now c.args.key (first_from h l v c.args.key c.args.number) c.in-Some.found c.as_slice.ensures found in
    let few = c.as_slice.type_inv in
    omega arith

pub final_function-g-requires : goal.final_function-g-requires
final_function-g-requires g c =
    let h = c.args.site.now.h.now in
    let rows = g.L.SoundLayout.rows c.args.site.now.layout.now in
    let v = c.args.x.now in
    let declared = declared_from h rows c.keeps.ensures (g.met.L.SoundLayout.sound c.args.site.now.layout.now h c.requires.layout) v c.requires.view c.args.key c.args.number c.requires.number c.declarer_below.result c.in-Some.found c.in-Some.is (λ number. c.declarer_below.ensures (places_of h rows) c.args.key (slice_get (preorder h v.class) c.args.number) c.requires.view c.requires.site.are_slots number c.requires.along) c.as_slice.result.now c.index-as_slice-found.result c.as_slice.ensures c.index-as_slice-found.is in
    record {
      overriders = c.requires.site.are_overriders;
      known = view_known h c.keeps.ensures (view_of_parts v) c.requires.view.view;
      subobject = declared.of.valid;
      of_class = declared.class;
      is_virtual = declared.is_virtual;
    }

pub is_pure-requires : goal.is_pure-requires
is_pure-requires g c = overrider_known c.args.site.now.h.now c.keeps.ensures (places_of c.args.site.now.h.now (g.L.SoundLayout.rows c.args.site.now.layout.now)) c.args.x.now c.requires.view c.index-as_slice-found.result.at c.in-Some.found.function (overrider c.final_function-g.ensures.0 c.final_function-g.result) c.final_function-g.ensures.1

pub returns-then-is_pure-clause-word : goal.returns-then-is_pure-clause-word
returns-then-is_pure-clause-word g c = λ t at.
    let h = c.args.site.now.h.now in
    let rows = g.L.SoundLayout.rows c.args.site.now.layout.now in
    let v = c.args.x.now in
    let declared = declared_from h rows c.keeps.ensures (g.met.L.SoundLayout.sound c.args.site.now.layout.now h c.requires.layout) v c.requires.view c.args.key c.args.number c.requires.number c.declarer_below.result c.in-Some.found c.in-Some.is (λ number. c.declarer_below.ensures (places_of h rows) c.args.key (slice_get (preorder h v.class) c.args.number) c.requires.view c.requires.site.are_slots number c.requires.along) c.as_slice.result.now c.index-as_slice-found.result c.as_slice.ensures c.index-as_slice-found.is in
    pure_word h (places_of h rows) v c.args.key c.args.number t c.final_function-g.ensures.0 c.index-as_slice-found.result c.in-Some.found.function c.final_function-g.result at declared c.final_function-g.ensures.1 (sym c.is_pure.ensures ∙ c.if-is_pure.true)

pub part_over-to-requires-clause-view : goal.part_over-to-requires-clause-view
part_over-to-requires-clause-view g c = some_view c.args.site.now.h.now (places_of c.args.site.now.h.now (g.L.SoundLayout.rows c.args.site.now.layout.now)) c.args.x.now c.requires.view

pub part_over-to-requires-clause-valid : goal.part_over-to-requires-clause-valid
part_over-to-requires-clause-valid g c =
    let h = c.args.site.now.h.now in
    let rows = g.L.SoundLayout.rows c.args.site.now.layout.now in
    let v = c.args.x.now in
    let declared = declared_from h rows c.keeps.ensures (g.met.L.SoundLayout.sound c.args.site.now.layout.now h c.requires.layout) v c.requires.view c.args.key c.args.number c.requires.number c.declarer_below.result c.in-Some.found c.in-Some.is (λ number. c.declarer_below.ensures (places_of h rows) c.args.key (slice_get (preorder h v.class) c.args.number) c.requires.view c.requires.site.are_slots number c.requires.along) c.as_slice.result.now c.index-as_slice-found.result c.as_slice.ensures c.index-as_slice-found.is in
    declared.of.valid

pub code_word-requires : goal.code_word-requires
code_word-requires g c =
    let h = c.args.site.now.h.now in
    let rows = g.L.SoundLayout.rows c.args.site.now.layout.now in
    let v = c.args.x.now in
    let declared = declared_from h rows c.keeps.ensures (g.met.L.SoundLayout.sound c.args.site.now.layout.now h c.requires.layout) v c.requires.view c.args.key c.args.number c.requires.number c.declarer_below.result c.in-Some.found c.in-Some.is (λ number. c.declarer_below.ensures (places_of h rows) c.args.key (slice_get (preorder h v.class) c.args.number) c.requires.view c.requires.site.are_slots number c.requires.along) c.as_slice.result.now c.index-as_slice-found.result c.as_slice.ensures c.index-as_slice-found.is in
    record {
      layout = c.requires.layout;
      site = c.requires.site;
      known = c.requires.known;
      view = c.requires.view;
      from = declared.of;
      to = c.part_over-to.ensures.part (places_of h rows) c.requires.view;
      key = c.requires.key;
      function = overrider_known h c.keeps.ensures (places_of h rows) v c.requires.view c.index-as_slice-found.result.at c.in-Some.found.function (overrider c.final_function-g.ensures.0 c.final_function-g.result) c.final_function-g.ensures.1;
      vcall = declared.vcall;
      code = sym c.is_pure.ensures ∙ c.if-is_pure.false;
    }

pub returns-clause-word : goal.returns-clause-word
returns-clause-word g c =
    let h = c.args.site.now.h.now in
    let rows = g.L.SoundLayout.rows c.args.site.now.layout.now in
    let v = c.args.x.now in
    let declared = declared_from h rows c.keeps.ensures (g.met.L.SoundLayout.sound c.args.site.now.layout.now h c.requires.layout) v c.requires.view c.args.key c.args.number c.requires.number c.declarer_below.result c.in-Some.found c.in-Some.is (λ number. c.declarer_below.ensures (places_of h rows) c.args.key (slice_get (preorder h v.class) c.args.number) c.requires.view c.requires.site.are_slots number c.requires.along) c.as_slice.result.now c.index-as_slice-found.result c.as_slice.ensures c.index-as_slice-found.is in
    let l = places_of h rows in
    let part = c.index-as_slice-found.result in
    IfOk-weaker c.code_word.result (λ word. word ≡ code_word h l (view_of_parts v) c.args.key part.at (overrider c.part_over-to.result.now.at c.final_function-g.result)) (λ word. (t : Subobject) → slice_get (preorder h v.class) c.args.number ≡ Some t → IsEntryWord h l (view_of_parts v) t c.args.key word)
    (λ word is t at. code_runs h c.keeps.ensures l v c.args.key c.args.number t c.final_function-g.ensures.0 part c.part_over-to.result.now c.in-Some.found.function c.final_function-g.result word at declared c.final_function-g.ensures.1 (c.part_over-to.ensures.part l c.requires.view) c.part_over-to.ensures.class c.part_over-to.ensures.inside is)
    c.code_word.ensures.word
