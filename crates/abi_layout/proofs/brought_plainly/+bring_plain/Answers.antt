use Rattle.std.proofs.Common.{◌≡◌, ◌∷◌, ◌++◌, [], List, ap, subst, sym, ◌∙◌, refl, arith, length, take}
use Rattle.std.specs.List.{flat_map, slice_get}
use Rattle.std.proofs.lemmas.Option.{slice_get_read}
use Rattle.std.proofs.lemmas.List.{take_all}
use Rattle.cxx_hierarchy.specs.Classes.{bases_in, bases_of}
use Rattle.cxx_subobject.specs.Subobjects.{subobject}
use Rattle.abi_emptybase.specs.declared.Part.{Part}
use Rattle.abi_layout.specs.Placements.{placed_part, nvsize_in}
use Rattle.abi_layout.specs.invariants.Alignments.{LieUpTo}
use Rattle.abi_layout.specs.invariants.Known.{known_parts_of}
use Rattle.abi_layout.specs.Holding.{held_base}
use Rattle.abi_layout.specs.Brought.{parts_in_members, base_brings, virtual_brings, brought_by}
use Rattle.abi_primary.proofs.Nth.{no_base, nth}
use Rattle.abi_layout.proofs.rules.HoldingLemmas.{any_default}
use Rattle.abi_layout.proofs.rules.Parts.{within_fits}
use Rattle.abi_layout.proofs.rules.BroughtLemmas.{brought_is, begun, base_more, finished_plain, base_brought}
use Rattle.abi_layout.proofs.algorithm.SceneLemmas.{none_held}
use Rattle.abi_layout.proofs.brought_plainly.+bring_plain.Goals as goal

pub bring_plain-push_moved-requires : goal.bring_plain-push_moved-requires
bring_plain-push_moved-requires t c =
    let x = c.args.scene.now in
    let own = c.index-scene-d.result in
    let count = c.requires.scene.member_each in
    let before = c.requires.before in
    let there = slice_get_read x.members.now (length x.members.now) c.args.d.0 own refl (omega arith) c.index-scene-d.is in
    let within = c.requires.scene.inside.by_members c.args.d own there in
    let fits = c.requires.fits in
    within_fits (nvsize_in (slice_get x.rows.now c.args.d.0)) c.args.at c.as_slice.result.now (omega arith) (subst (λ (ps : List Part). LieUpTo (nvsize_in (slice_get x.rows.now c.args.d.0)) ps) (sym (c.as_slice.ensures ∙ sym c.index-scene-d.is)) within)

pub bring_plain-loop-base-init : goal.bring_plain-loop-base-init
bring_plain-loop-base-init t c =
    let x = c.args.scene.now in
    let own = c.index-scene-d.result in
    let count = c.requires.scene.member_each in
    let before = c.requires.before in
    let there = slice_get_read x.members.now (length x.members.now) c.args.d.0 own refl (omega arith) c.index-scene-d.is in
    λ s. begun c.args.at c.args.d c.args.parts.now c.push.new.self c.push_moved.new.list c.as_slice.result.now (parts_in_members x.h.now x.rows.now (known_parts_of x.known.now) c.args.d)
    c.in_ok-push.ensures.ok c.in_ok-push_moved.ensures (c.as_slice.ensures ∙ (sym c.index-scene-d.is ∙ c.requires.scene.brings c.args.d own there))

pub bring_plain-loop-base-preserved : goal.bring_plain-loop-base-preserved
bring_plain-loop-base-preserved t c =
    let x = c.args.scene.now in
    let by = brought_by x.h.now x.rows.now x.primaries.now (known_parts_of x.known.now) x.c in
    let items = c.as_slice-base-items.result.now in
    let i = c.loop-base.base-index in
    λ s. base_more (base_brings x.h.now x.rows.now by s c.args.d) c.args.at c.args.parts.now c.loop-base.parts c.bring_plain_base.new.parts (placed_part c.args.d 0 ∷ parts_in_members x.h.now x.rows.now (known_parts_of x.known.now) c.args.d) items i (nth items i) c.loop-base-test.true (any_default items i no_base (nth items i) c.loop-base-test.true) (c.loop-base.invariant s) (c.in_ok-bring_plain_base.ensures s)

pub bring_plain_base-bring_plain-requires : goal.bring_plain_base-bring_plain-requires
bring_plain_base-bring_plain-requires t c =
    let falls = c.keeps.ensures.bases c.args.d c.args.base.now c.requires.base in
    let before = c.requires.before in
    let inside = c.requires.scene.inside.by_bases c.args.d c.args.base.now c.requires.before c.requires.base c.if-base.false in
    let place = c.base_place-place.ensures in
    let fits = c.requires.fits in
    (omega arith, (c.requires.scene, (c.requires.plain, (omega arith, omega arith))))

pub bring_plain_base-returns : goal.bring_plain_base-returns
bring_plain_base-returns t c =
    let x = c.args.scene.now in
    λ s. base_brought x.h.now x.rows.now (brought_by x.h.now x.rows.now x.primaries.now (known_parts_of x.known.now) x.c) s (subobject s.root (s.path ++ c.args.base.now.class ∷ [])) c.args.d c.args.base.now c.args.at c.base_place-place.result c.args.parts.now c.bring_plain.new.parts
    c.if-base.false refl c.base_place-place.ensures (c.in_ok-bring_plain.ensures (subobject s.root (s.path ++ c.args.base.now.class ∷ [])))

pub bring_plain-returns : goal.bring_plain-returns
bring_plain-returns t c =
    let x = c.args.scene.now in
    let by = brought_by x.h.now x.rows.now x.primaries.now (known_parts_of x.known.now) x.c in
    let items = c.as_slice-base-items.result.now in
    let bases : items ≡ bases_of x.h.now c.args.d = c.as_slice-base-items.ensures ∙ sym (ap bases_in c.class.ensures) in
    λ s. finished_plain c.args.at c.args.parts.now c.loop-base.parts (placed_part c.args.d 0 ∷ parts_in_members x.h.now x.rows.now (known_parts_of x.known.now) c.args.d) (flat_map (base_brings x.h.now x.rows.now by s c.args.d) (take c.loop-base.base-index items)) (flat_map (base_brings x.h.now x.rows.now by s c.args.d) (bases_of x.h.now c.args.d))
    (virtual_brings by (held_base x.h.now x.primaries.now x.c s c.args.d)) (by s c.args.d)
    (c.loop-base.invariant s) (ap (virtual_brings by) (none_held x.h.now x.primaries.now x.c x.list.now c.requires.scene.tells c.requires.plain s c.args.d)) (ap (flat_map (base_brings x.h.now x.rows.now by s c.args.d)) (take_all c.loop-base.base-index items c.loop-base-test.false ∙ bases)) (brought_is x.h.now x.rows.now x.primaries.now (known_parts_of x.known.now) x.c c.keeps.ensures c.requires.scene.before s c.args.d)
