-- A row more for the next class.
use Rattle.std.proofs.Common.{◌≡◌, ◌+◌, ◌<◌, ◌≤◌, ◌∙◌, sym, ap, subst, length, get_or, arith, List}
use Rattle.std.specs.Prelude.{Some, slice_get}
use Rattle.std.specs.List.{list_any}
use Rattle.std.proofs.lemmas.List.{length_push}
use Rattle.std.proofs.lemmas.Option.{slice_get-get_or}
use Rattle.cxx_hierarchy.specs.declared.records.Base.{Base}
use Rattle.cxx_hierarchy.specs.declared.records.ClassId.{ClassId}
use Rattle.cxx_hierarchy.specs.invariants.VirtualRows.{Row, AreRows, gives}
use Rattle.cxx_hierarchy.proofs.VirtualRows.{rows_none, rows_push, known_bases}
use Rattle.cxx_hierarchy.proofs.virtual_rows.virtual_rows.Goals as goal

pub row_of-requires-clause-known : goal.row_of-requires-clause-known
row_of-requires-clause-known c = λ k d lt.
    let at : slice_get c.args.classes.now c.loop-class.class-index ≡ Some c.class-item.result = slice_get-get_or c.args.classes.now c.loop-class.class-index c.class-item.result c.loop-class-test.true ∙ ap Some (sym c.class-item.is) in
    let same = c.as_slice.ensures in
    let within : k < length c.class-item.result.bases = subst (λ (bs : List (Base ClassId)). k < length bs) same lt in
    let less : (get_or c.class-item.result.bases k d).class.0 < c.loop-class.class-index = known_bases c.args.classes.now c.class-item.result c.loop-class.class-index c.requires at k d within in
    let here : (get_or c.as_slice.result.now k d).class.0 < c.loop-class.class-index = subst (λ (bs : List (Base ClassId)). (get_or bs k d).class.0 < c.loop-class.class-index) (sym same) less in
    let size : length c.deref.result.now ≡ length c.loop-class.rows.items = ap length c.deref.ensures.value in
    let index : length c.loop-class.rows.items ≡ c.loop-class.class-index = c.loop-class.invariant.size in
    omega arith

pub loop-class-preserved : goal.loop-class-preserved
loop-class-preserved c =
    let at : slice_get c.args.classes.now c.loop-class.class-index ≡ Some c.class-item.result = slice_get-get_or c.args.classes.now c.loop-class.class-index c.class-item.result c.loop-class-test.true ∙ ap Some (sym c.class-item.is) in
    let size : length c.loop-class.rows.items ≡ c.loop-class.class-index = c.loop-class.invariant.size in
    let row = c.in_ok-row.ensures in
    record {
      size = ap length c.in_ok-push.ensures.items ∙ length_push c.loop-class.rows.items c.in_ok-row.row ∙ ap (λ n. n + 1) size;
      rows = subst (λ (rows : List Row). AreRows c.args.classes.now c.args.public_only rows) (sym c.in_ok-push.ensures.items)
          (rows_push c.args.classes.now c.args.public_only c.loop-class.rows.items c.in_ok-row.row c.class-item.result c.requires
          (ap (slice_get c.args.classes.now) size ∙ at) c.loop-class.invariant.rows
          (row.0 ∙ ap length c.deref.ensures.value)
          (λ v. row.1 v ∙ ap (λ (rows : List Row). list_any (gives c.args.public_only rows v) c.as_slice.result.now) c.deref.ensures.value ∙ ap (list_any (gives c.args.public_only c.loop-class.rows.items v)) c.as_slice.ensures));
    }
