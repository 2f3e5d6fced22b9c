use Rattle.std.proofs.Common.{◌∙◌, List, refl, subst, sym}
use Rattle.std.specs.List.{list_any}
use Rattle.std.proofs.lemmas.Result.{err_from_is_err_and}
use Rattle.cxx_subobject.specs.declared.Subobject.{Subobject}
use Rattle.cxx_subobject.specs.Preorder.{preorder}
use Rattle.abi_primary.specs.VirtualLists.{ListsVirtual}
use Rattle.abi_layout.specs.declared.known.Known.{Known}
use Rattle.abi_layout.specs.invariants.ClassRows.{AreSmaller}
use Rattle.abi_layout.specs.invariants.LaidSoFar.{is_shifted_base}
use Rattle.abi_layout.proofs.rules.AgreeingClasses.{primary_possible}
use Rattle.abi_layout.proofs.algorithm.NextSteps.{next_by, scene_by, refused_by, row_by, known_by}
use Rattle.abi_layout.proofs.class_layouts.lay_out_next.Goals as goal

pub primary_among-primary-requires-clause-list : goal.primary_among-primary-requires-clause-list
primary_among-primary-requires-clause-list c = subst (λ (xs : List Subobject). ListsVirtual c.args.h.now c.args.c xs) (sym c.as_slice.ensures) c.in_ok-list.ensures

pub lay_out_class-requires-clause-scene : goal.lay_out_class-requires-clause-scene
lay_out_class-requires-clause-scene c =
    let s = c.args.so_far.now in
    let primary = c.primary_among-primary.result in
    let next = next_by c.args.h.now c.args.c c.class.result.now s.rows.items s.known.items s.members.items s.nearly.items s.primaries.items primary c.has_pointer-has_pointer.result c.deref.result.now c.deref-2.result.now c.keeps.ensures c.class.ensures c.requires.laid c.deref.ensures.value c.deref-2.ensures.value c.primary_among-primary.ensures (c.has_pointer-has_pointer.ensures c.args.h.now c.requires.dynamic c.requires.known) in
    scene_by c.args.h.now c.args.c c.class.result.now s.rows.items s.known.items s.members.items s.nearly.items s.primaries.items primary c.has_pointer-has_pointer.result next
    c.deref-3.result.now c.deref-4.result.now c.deref-5.result.now c.as_slice-2.result.now c.deref-3.ensures.value c.deref-4.ensures.value (c.deref-5.ensures.value ∙ c.in_ok-push.ensures.items) (subst (λ (xs : List Subobject). ListsVirtual c.args.h.now c.args.c xs) (sym c.as_slice-2.ensures) c.in_ok-list.ensures)

pub lay_out_class-requires-clause-primary : goal.lay_out_class-requires-clause-primary
lay_out_class-requires-clause-primary c = primary_possible c.args.h.now c.deref.result.now c.deref-2.result.now c.args.c c.primary_among-primary.result c.primary_among-primary.ensures

pub lay_out_class-requires-clause-smaller : goal.lay_out_class-requires-clause-smaller
lay_out_class-requires-clause-smaller c = subst (λ (ks : List Known). AreSmaller c.args.c ks) (sym c.deref-3.ensures.value) c.requires.laid.smaller

pub returns-in_err-known-clause-stop : goal.returns-in_err-known-clause-stop
returns-in_err-known-clause-stop c =
    let p = err_from_is_err_and c.from_residual-in_err-known.result c.from_residual-in_err-known.ensures.1 in
    let s = c.args.so_far.now in
    let primary = c.primary_among-primary.result in
    let next = next_by c.args.h.now c.args.c c.class.result.now s.rows.items s.known.items s.members.items s.nearly.items s.primaries.items primary c.has_pointer-has_pointer.result c.deref.result.now c.deref-2.result.now c.keeps.ensures c.class.ensures c.requires.laid c.deref.ensures.value c.deref-2.ensures.value c.primary_among-primary.ensures (c.has_pointer-has_pointer.ensures c.args.h.now c.requires.dynamic c.requires.known) in
    rw (p.1, p.2)
    (refused_by c.args.h.now c.args.c c.class.result.now s.rows.items s.known.items s.members.items s.nearly.items s.primaries.items primary c.has_pointer-has_pointer.result next
    c.deref-3.result.now c.deref-5.result.now c.in_err-known.field-0.0 c.deref-3.ensures.value (c.deref-5.ensures.value ∙ c.in_ok-push.ensures.items) c.in_err-known.ensures.refused)

pub is_nearly-is_nearly-requires-clause-row : goal.is_nearly-is_nearly-requires-clause-row
is_nearly-is_nearly-requires-clause-row c =
    let s = c.args.so_far.now in
    let primary = c.primary_among-primary.result in
    let next = next_by c.args.h.now c.args.c c.class.result.now s.rows.items s.known.items s.members.items s.nearly.items s.primaries.items primary c.has_pointer-has_pointer.result c.deref.result.now c.deref-2.result.now c.keeps.ensures c.class.ensures c.requires.laid c.deref.ensures.value c.deref-2.ensures.value c.primary_among-primary.ensures (c.has_pointer-has_pointer.ensures c.args.h.now c.requires.dynamic c.requires.known) in
    row_by c.args.h.now c.args.c c.class.result.now s.rows.items s.known.items s.members.items s.nearly.items s.primaries.items primary c.has_pointer-has_pointer.result next
    c.deref-3.result.now c.deref-5.result.now c.lay_out_class.new.rows.items c.deref-7.result.now c.in_ok-known.field-0 c.deref-7.ensures.value c.in_ok-known.ensures.laid

pub returns-clause-laid : goal.returns-clause-laid
returns-clause-laid c =
    let s = c.args.so_far.now in
    let primary = c.primary_among-primary.result in
    let next = next_by c.args.h.now c.args.c c.class.result.now s.rows.items s.known.items s.members.items s.nearly.items s.primaries.items primary c.has_pointer-has_pointer.result c.deref.result.now c.deref-2.result.now c.keeps.ensures c.class.ensures c.requires.laid c.deref.ensures.value c.deref-2.ensures.value c.primary_among-primary.ensures (c.has_pointer-has_pointer.ensures c.args.h.now c.requires.dynamic c.requires.known) in
    let made = known_by c.args.h.now c.args.c c.class.result.now s.rows.items s.known.items s.members.items s.nearly.items s.primaries.items primary c.has_pointer-has_pointer.result next
    c.deref-3.result.now c.deref-5.result.now c.lay_out_class.new.rows.items c.deref-7.result.now c.in_ok-known.field-0
    c.deref-3.ensures.value (c.deref-5.ensures.value ∙ c.in_ok-push.ensures.items) c.deref-7.ensures.value c.in_ok-known.ensures.laid c.kept.result c.kept.ensures
    c.deref-6.result.now c.deref-8.result.now c.is_nearly-is_nearly.result (list_any (is_shifted_base c.args.h.now c.deref-7.result.now c.deref-8.result.now) (preorder c.args.h.now c.args.c)) c.deref-6.ensures.value (c.deref-8.ensures.value ∙ c.in_ok-push-2.ensures.items) refl c.is_nearly-is_nearly.ensures in
    rw (c.in_ok-push.ensures.items, c.in_ok-push-2.ensures.items, c.in_ok-push-3.ensures.items, c.in_ok-push-4.ensures.items) made
