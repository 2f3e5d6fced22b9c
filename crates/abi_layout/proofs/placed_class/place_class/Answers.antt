use Rattle.std.proofs.Common.{◌≡◌, ◌∙◌, ◌<◌, List, map, ap, subst, sym}
use Rattle.std.specs.Prelude.{All, filter}
use Rattle.std.proofs.lemmas.Result.{err_from_is_err_and}
use Rattle.cxx_hierarchy.specs.declared.records.ClassId.{ClassId}
use Rattle.abi_primary.specs.Holder.{holder_of}
use Rattle.abi_layout.specs.declared.placed_bases.PlacedBase.{PlacedBase}
use Rattle.abi_layout.specs.declared.placed_bases.PlacedBase.TheVariants.{VirtualBase}
use Rattle.abi_layout.specs.Kinds.{pod_kind}
use Rattle.abi_layout.specs.invariants.Known.{pods_in, members_by}
use Rattle.abi_layout.specs.PlacedBases.{class_of_placed, front_bases, is_free, free_bases}
use Rattle.abi_layout.specs.Layouts.{start_stage}
use Rattle.abi_layout.specs.Repeats.{SomeRepeats}
use Rattle.abi_layout.specs.invariants.OwnPlaces.{own_places}
use Rattle.abi_layout.specs.invariants.Arrangements.{components_by}
use Rattle.abi_layout.proofs.algorithm.PlacedClassLemmas.{fronts_below, virtuals_below, frees_below, arranged_along, refusal_along}
use Rattle.abi_layout.proofs.placed_class.place_class.Goals as goal

pub free_bases-requires-clause-before : goal.free_bases-requires-clause-before
free_bases-requires-clause-before c =
    let x = c.args.scene.now in
    subst (λ (vs : List ClassId). All (λ (v : ClassId). v.0 < x.c.0) vs) (sym c.requires.virtuals) (virtuals_below x.h.now x.c c.keeps.ensures)

pub arrange_class-requires-clause-fronts : goal.arrange_class-requires-clause-fronts
arrange_class-requires-clause-fronts c =
    let x = c.args.scene.now in
    let class = c.args.class.now in
    let are : c.deref.result.now ≡ front_bases c.args.primary class.bases = c.deref.ensures.value ∙ (c.in_ok-front.ensures ∙ ap (front_bases c.args.primary) c.as_slice-bases.ensures) in
    subst (λ (bs : List PlacedBase). All (λ (base : PlacedBase). (class_of_placed base).0 < x.c.0) bs) (sym are) (fronts_below x.h.now x.c class c.args.primary c.keeps.ensures c.requires.class c.requires.primary)

pub arrange_class-requires-clause-frees : goal.arrange_class-requires-clause-frees
arrange_class-requires-clause-frees c =
    let x = c.args.scene.now in
    let are : c.deref-2.result.now ≡ free_bases x.h.now x.primaries.now x.c = c.deref-2.ensures.value ∙ (c.in_ok-free.ensures ∙ ap (λ (vs : List ClassId). map (λ (w : ClassId). VirtualBase w) (filter (λ (w : ClassId). is_free (holder_of x.h.now x.primaries.now x.c w)) vs)) c.requires.virtuals) in
    subst (λ (bs : List PlacedBase). All (λ (base : PlacedBase). (class_of_placed base).0 < x.c.0) bs) (sym are) (frees_below x.h.now x.primaries.now x.c c.keeps.ensures)

pub returns-in_err-arrangement-clause-refused : goal.returns-in_err-arrangement-clause-refused
returns-in_err-arrangement-clause-refused c =
    let p = err_from_is_err_and c.from_residual-in_err-arrangement.result c.from_residual-in_err-arrangement.ensures.1 in
    let x = c.args.scene.now in
    let class = c.args.class.now in
    let are : c.deref.result.now ≡ front_bases c.args.primary class.bases = c.deref.ensures.value ∙ (c.in_ok-front.ensures ∙ ap (front_bases c.args.primary) c.as_slice-bases.ensures) in
    let frees_are : c.deref-2.result.now ≡ free_bases x.h.now x.primaries.now x.c = c.deref-2.ensures.value ∙ (c.in_ok-free.ensures ∙ ap (λ (vs : List ClassId). map (λ (w : ClassId). VirtualBase w) (filter (λ (w : ClassId). is_free (holder_of x.h.now x.primaries.now x.c w)) vs)) c.requires.virtuals) in
    let by = components_by x.h.now x.rows.now x.known.now x.primaries.now x.c in
    rw (p.1, p.2) (refusal_along (start_stage x.c c.args.has_pointer) (by c.deref.result.now) (by (front_bases c.args.primary class.bases)) (members_by x.rows.now x.known.now class) (by c.deref-2.result.now) (by (free_bases x.h.now x.primaries.now x.c))
    c.is_pod_class-is_pod.result (pod_kind (pods_in x.known.now) class) class.at c.in_err-arrangement.field-0.0 (ap by are) (ap by frees_are) c.is_pod_class-is_pod.ensures c.in_err-arrangement.ensures.refused)

pub returns-clause-arranged : goal.returns-clause-arranged
returns-clause-arranged c =
    let x = c.args.scene.now in
    let class = c.args.class.now in
    let are : c.deref.result.now ≡ front_bases c.args.primary class.bases = c.deref.ensures.value ∙ (c.in_ok-front.ensures ∙ ap (front_bases c.args.primary) c.as_slice-bases.ensures) in
    let frees_are : c.deref-2.result.now ≡ free_bases x.h.now x.primaries.now x.c = c.deref-2.ensures.value ∙ (c.in_ok-free.ensures ∙ ap (λ (vs : List ClassId). map (λ (w : ClassId). VirtualBase w) (filter (λ (w : ClassId). is_free (holder_of x.h.now x.primaries.now x.c w)) vs)) c.requires.virtuals) in
    let by = components_by x.h.now x.rows.now x.known.now x.primaries.now x.c in
    arranged_along (start_stage x.c c.args.has_pointer) (by c.deref.result.now) (by (front_bases c.args.primary class.bases)) (members_by x.rows.now x.known.now class) (by c.deref-2.result.now) (by (free_bases x.h.now x.primaries.now x.c))
    c.is_pod_class-is_pod.result (pod_kind (pods_in x.known.now) class) c.in_ok-arrangement.arrangement (ap by are) (ap by frees_are) c.is_pod_class-is_pod.ensures c.in_ok-arrangement.ensures.arranged

pub returns-clause-base_places : goal.returns-clause-base_places
returns-clause-base_places c =
    let class = c.args.class.now in
    let are : c.deref-3.result.now ≡ front_bases c.args.primary class.bases = c.deref-3.ensures.value ∙ (c.in_ok-front.ensures ∙ ap (front_bases c.args.primary) c.as_slice-bases.ensures) in
    c.in_ok-base_places.ensures
    ∙ (ap (λ (bs : List PlacedBase). own_places bs c.as_slice.result.now c.as_slice-bases.result.now) are
    ∙ (ap (λ ps. own_places (front_bases c.args.primary class.bases) ps c.as_slice-bases.result.now) c.as_slice.ensures
    ∙ ap (own_places (front_bases c.args.primary class.bases) c.in_ok-arrangement.arrangement.front_places) c.as_slice-bases.ensures))

pub returns-clause-free : goal.returns-clause-free
returns-clause-free c =
    let x = c.args.scene.now in
    c.in_ok-free.ensures ∙ ap (λ (vs : List ClassId). map (λ (w : ClassId). VirtualBase w) (filter (λ (w : ClassId). is_free (holder_of x.h.now x.primaries.now x.c w)) vs)) c.requires.virtuals

pub returns-clause-frees_apart : goal.returns-clause-frees_apart
returns-clause-frees_apart c =
    let x = c.args.scene.now in
    let frees_are : c.deref-2.result.now ≡ free_bases x.h.now x.primaries.now x.c = c.deref-2.ensures.value ∙ (c.in_ok-free.ensures ∙ ap (λ (vs : List ClassId). map (λ (w : ClassId). VirtualBase w) (filter (λ (w : ClassId). is_free (holder_of x.h.now x.primaries.now x.c w)) vs)) c.requires.virtuals) in
    subst (λ (bs : List PlacedBase). SomeRepeats (components_by x.h.now x.rows.now x.known.now x.primaries.now x.c bs) → ⊥) frees_are c.in_ok-arrangement.ensures.frees_apart
