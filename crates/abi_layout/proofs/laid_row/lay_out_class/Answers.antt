use Rattle.std.proofs.Common.{◌≡◌, ℕ, Option, None, get_or, map, List, ◌++◌, ◌∷◌, [], ap, ◌∙◌}
use Rattle.std.proofs.lemmas.Result.{err_from_is_err_and}
use Rattle.cxx_hierarchy.specs.declared.records.ClassId.{ClassId}
use Rattle.abi_layout.specs.PlacedBases.{free_bases}
use Rattle.abi_layout.specs.invariants.Settled.{held_at}
use Rattle.cxx_subobject.specs.VirtualBases.{virtual_bases}
use Rattle.abi_layout.specs.invariants.Arrangements.{row_from}
use Rattle.abi_layout.proofs.rules.RowPlacesFinal.{class_placed_by, can_by, room_by, virtuals_by, row_added}
use Rattle.abi_layout.proofs.algorithm.PlacedClassLemmas.{refused_own}
use Rattle.abi_layout.proofs.laid_row.lay_out_class.Goals as goal

pub place_virtuals-requires-clause-can : goal.place_virtuals-requires-clause-can
place_virtuals-requires-clause-can c =
    let h = c.args.h.now in
    let n = c.args.next.now in
    let o = c.in_ok-placed.placed in
    let holders = c.in_ok-holders.holders.items in
    let made = class_placed_by h n.c n.class.now c.args.rows.now.items c.deref.result.now n.known.now n.members.now n.primaries.now n.list.now holders n.primary n.has_pointer o.arrangement o.base_places
    c.deref.ensures.value c.keeps.ensures (c.requires.scene holders c.in_ok-holders.ensures) c.requires.sized c.requires.class c.requires.own c.in_ok-placed.ensures.arranged c.in_ok-placed.ensures.within c.in_ok-placed.ensures.base_places c.in_ok-placed.ensures.members c.in_ok-placed.ensures.fronts_apart c.in_ok-placed.ensures.frees_apart in
    can_by h n.c n.class.now c.args.rows.now.items c.push_row.new.rows.items n.known.now n.members.now n.primaries.now n.list.now holders c.deref-4.result.now n.primary n.has_pointer o.arrangement o.base_places made c.in_ok-pushed.ensures.row c.deref-4.ensures.value

pub place_virtuals-requires-clause-room : goal.place_virtuals-requires-clause-room
place_virtuals-requires-clause-room c =
    let h = c.args.h.now in
    let n = c.args.next.now in
    let o = c.in_ok-placed.placed in
    let holders = c.in_ok-holders.holders.items in
    let made = class_placed_by h n.c n.class.now c.args.rows.now.items c.deref.result.now n.known.now n.members.now n.primaries.now n.list.now holders n.primary n.has_pointer o.arrangement o.base_places
    c.deref.ensures.value c.keeps.ensures (c.requires.scene holders c.in_ok-holders.ensures) c.requires.sized c.requires.class c.requires.own c.in_ok-placed.ensures.arranged c.in_ok-placed.ensures.within c.in_ok-placed.ensures.base_places c.in_ok-placed.ensures.members c.in_ok-placed.ensures.fronts_apart c.in_ok-placed.ensures.frees_apart in
    room_by h n.c n.class.now c.args.rows.now.items c.push_row.new.rows.items n.known.now n.members.now n.primaries.now n.list.now holders n.primary n.has_pointer o.arrangement o.base_places c.deref-5.result.now c.as_slice.result.now made c.in_ok-pushed.ensures.row (c.deref-5.ensures.value ∙ c.in_ok-placed.ensures.free) (c.as_slice.ensures ∙ c.in_ok-pushed.ensures.free_places)

pub returns-clause-laid : goal.returns-clause-laid
returns-clause-laid c =
    let h = c.args.h.now in
    let n = c.args.next.now in
    let o = c.in_ok-placed.placed in
    let holders = c.in_ok-holders.holders.items in
    let made = class_placed_by h n.c n.class.now c.args.rows.now.items c.deref.result.now n.known.now n.members.now n.primaries.now n.list.now holders n.primary n.has_pointer o.arrangement o.base_places
    c.deref.ensures.value c.keeps.ensures (c.requires.scene holders c.in_ok-holders.ensures) c.requires.sized c.requires.class c.requires.own c.in_ok-placed.ensures.arranged c.in_ok-placed.ensures.within c.in_ok-placed.ensures.base_places c.in_ok-placed.ensures.members c.in_ok-placed.ensures.fronts_apart c.in_ok-placed.ensures.frees_apart in
    let pushed = c.in_ok-pushed.pushed in
    let vs = c.in_ok-virtuals.virtuals.items in
    let vs_are : vs ≡ virtual_bases h n.c = c.in_ok-virtuals.ensures ∙ made.scene.tells.virtuals in
    let placed = c.in_ok-place_virtuals.ensures in
    let virtuals = virtuals_by h n.c (c.args.rows.now.items ++ row_from o.arrangement n.primary o.base_places [] [] [] ∷ []) c.push_row.new.rows.items n.list.now holders c.deref-4.result.now c.deref-5.result.now (free_bases h n.primaries.now n.c) c.as_slice.result.now o.arrangement.free_places vs (virtual_bases h n.c) placed.0
    c.in_ok-pushed.ensures.row c.deref-4.ensures.value (c.deref-5.ensures.value ∙ c.in_ok-placed.ensures.free) (c.as_slice.ensures ∙ c.in_ok-pushed.ensures.free_places) vs_are placed.1 in
    row_added h n.c n.class.now c.args.rows.now.items c.push_row.new.rows.items c.place_virtuals.new.rows.items n.known.now n.members.now n.primaries.now n.list.now holders n.primary n.has_pointer o.arrangement o.base_places placed.0 vs (map (λ (v : ClassId). held_at n.list.now (get_or c.deref-4.result.now v.0 None)) vs) o.is_empty o.is_pod pushed.parts pushed.member_parts
    made c.requires.primary c.requires.pointer c.requires.smaller virtuals vs_are (ap (λ (xs : List (Option ℕ)). map (λ (v : ClassId). held_at n.list.now (get_or xs v.0 None)) vs) c.deref-4.ensures.value) c.in_ok-pushed.ensures.row placed.2 c.in_ok-placed.ensures.is_empty c.in_ok-placed.ensures.is_pod c.in_ok-pushed.ensures.parts c.in_ok-pushed.ensures.member_parts

pub returns-in_err-placed-clause-refused : goal.returns-in_err-placed-clause-refused
returns-in_err-placed-clause-refused c =
    let p = err_from_is_err_and c.from_residual-in_err-placed.result c.from_residual-in_err-placed.ensures.1 in
    let n = c.args.next.now in
    rw (p.1, p.2) (refused_own c.args.h.now n.c n.class.now c.args.rows.now.items c.deref.result.now n.known.now n.primaries.now n.primary n.has_pointer c.in_err-placed.field-0.0 c.deref.ensures.value c.requires.own c.in_err-placed.ensures.refused)
