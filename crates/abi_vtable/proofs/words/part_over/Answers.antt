use Rattle.std.proofs.Common.{ap, sym, ◌∙◌}
use Rattle.std.specs.Prelude.{slice_get, slice_index_or}
use Rattle.foundation.proofs.Truth.{not_both}
use Rattle.foundation.proofs.Places.{get_read}
use Rattle.cxx_hierarchy.specs.declared.records.ClassId.{ClassId}
use Rattle.abi_vtable.specs.invariants.Parts.{view_of_parts}
use Rattle.abi_vtable.proofs.Over.{none_over, one_not_over, some_over}
use Rattle.abi_vtable.proofs.words.part_over.Goals as goal
use Rattle.abi_vtable.proofs.words.part_over.Goals.{else-part-d-via-then-part-d+else-contains, else-part-d-via-else-part-d}

pub returns-then-contains-clause-part : goal.returns-then-contains-clause-part
returns-then-contains-clause-part c = λ l view.
    let items = c.as_slice-parts.result.now in
    view.parts.each c.loop-n.n c.index-parts-n.result (ap (λ xs. slice_get xs c.loop-n.n) (sym c.as_slice-parts.ensures) ∙ get_read items c.loop-n.n c.index-parts-n.result c.loop-n-test.true c.index-parts-n.is)

pub loop-n-preserved : goal.loop-n-preserved
loop-n-preserved c = one_not_over c.args.h.now c.as_slice-parts.result.now c.args.s.now c.args.d c.loop-n.n c.index-parts-n.result c.loop-n-test.true c.index-parts-n.is
    (λ class inside.
    elim c.else-part-d.branch [
      | else-part-d-via-then-part-d+else-contains w ↦ not_both (w.contains.ensures.1 inside) w.if-contains.false
      | else-part-d-via-else-part-d w ↦ w.if-part-d.false (ap (λ (a : ClassId). a.0) class)
    ])
    c.loop-n.invariant

pub unreachable-requires : goal.unreachable-requires
unreachable-requires c = some_over c.args.h.now c.keeps.ensures c.requires.view.places (view_of_parts c.args.x.now) c.as_slice-parts.result.now c.args.x.now.parts c.as_slice-parts.ensures c.requires.view.view.parts c.args.s.now c.args.d c.loop-n.n c.loop-n-test.false c.loop-n.invariant c.requires.some

pub loop-n-init : goal.loop-n-init
loop-n-init c = none_over c.args.h.now c.args.x.now.starts c.as_slice-parts.result.now c.args.x.now.parts c.args.s.now c.args.d c.start_of-n.result c.as_slice-parts.ensures c.requires.view.view.starts (c.start_of-n.ensures ∙ ap (λ xs. slice_index_or xs c.args.d.0 0) c.as_slice.ensures)
