use Rattle.std.proofs.Common.{◌<◌, ◌∙◌, ◌++◌, List, length, get_or, map, refl, ap, subst, sym, arith}
use Rattle.std.proofs.lemmas.Option.{slice_get_read}
use Rattle.cxx_hierarchy.specs.declared.records.ClassId.{ClassId}
use Rattle.abi_emptybase.specs.declared.Part.{Part}
use Rattle.abi_emptybase.specs.Table.{moved_part}
use Rattle.abi_sound.specs.declared.class_layout.ClassLayout.{ClassLayout}
use Rattle.abi_layout.specs.declared.known.Known.{Known}
use Rattle.abi_layout.specs.invariants.Known.{known_parts_of}
use Rattle.abi_layout.specs.Brought.{brought_by}
use Rattle.abi_layout.specs.PlacedBases.{subobject_of, component_of_row}
use Rattle.abi_layout.proofs.rules.PlacedLemmas.{placed_by}
use Rattle.abi_layout.proofs.placed_bases.placed_component.Goals as goal

pub returns : goal.returns
returns c =
    let x = c.args.scene.now in
    let b = c.class_of_placed-b.result in
    let row = c.index-scene-b.result in
    let known = c.index-scene-b-2.result in
    let parts = c.bring_placed.new.parts in
    let same = c.class_of_placed-b.ensures in
    let before = c.requires.before in
    let lt : b.0 < x.c.0 = subst (λ (d : ClassId). d.0 < x.c.0) (sym same) before in
    let row_each = c.requires.scene.row_each in
    let known_each = c.requires.scene.known_each in
    let row_there = slice_get_read x.rows.now (length x.rows.now) b.0 row refl (omega arith) c.index-scene-b.is in
    let known_there = slice_get_read x.known.now (length x.known.now) b.0 known refl (omega arith) c.index-scene-b-2.is in
    c.component_of_row.ensures
    ∙ (ap (λ (r : ClassLayout). component_of_row r (get_or x.known.now b.0 known).is_empty parts) (sym c.index-scene-b.is)
    ∙ (ap (λ (k : Known). component_of_row row k.is_empty parts) (sym c.index-scene-b-2.is)
    ∙ placed_by x.h.now x.rows.now x.known.now x.primaries.now x.c b c.args.base (subobject_of x.c c.args.base) row known parts same refl row_there known_there
    (c.in_ok-bring_placed.ensures ∙ ap (λ (t : List Part). t ++ map (moved_part 0) (brought_by x.h.now x.rows.now x.primaries.now (known_parts_of x.known.now) x.c (subobject_of x.c c.args.base) b)) c.new-parts.ensures)))
