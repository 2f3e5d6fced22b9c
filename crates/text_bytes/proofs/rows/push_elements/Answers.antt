use Rattle.std.proofs.Common.{◌≡◌, ◌∙◌, ℕ, ◌+◌, ◌*◌, List, ◌++◌, map, ap}
use Rattle.text_bytes.specs.declared.rows.LeafRow.{LeafRow}
use Rattle.text_bytes.specs.LeafRows.{element_name, element_rows, inner_row}
use Rattle.text_told.proofs.Steps.{range_more}
use Rattle.text_bytes.proofs.rows.push_elements.Goals as goal

pub loop-i-preserved : goal.loop-i-preserved
loop-i-preserved c =
    let i = c.loop-i.i in
    let inside = c.args.inside.now in
    let place : ℕ = c.args.x.now.place + i * c.args.size in
    let f : ℕ → List LeafRow = element_rows c.args.x.now c.args.member.now c.args.size inside in
    let name : c.deref.result.now ≡ element_name c.args.x.now c.args.member.now i = c.deref.ensures.value ∙ c.in_ok-name.ensures in
    c.in_ok-push_inner.ensures
    ∙ (ap (λ (label : List ℕ). c.loop-i.rows.items ++ map (inner_row place label) inside) name
    ∙ (ap (λ (rows : List LeafRow). rows ++ f i) c.loop-i.invariant ∙ range_more f c.args.rows.now.items i))
