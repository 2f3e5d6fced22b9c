use Rattle.std.proofs.Common.{◌∙◌, ℕ, List, [], ◌∷◌, ◌++◌, ap}
use Rattle.text_bytes.specs.declared.rows.LeafRow.{LeafRow}
use Rattle.text_bytes.specs.LeafRows.{value_row}
use Rattle.text_bytes.proofs.RowSteps.{map_range_more}
use Rattle.text_bytes.proofs.rows.push_values.Goals as goal

pub loop-i-preserved : goal.loop-i-preserved
loop-i-preserved c =
    let f : ℕ → LeafRow = value_row c.args.x.now c.args.member.now c.args.size in
    c.in_ok-push.ensures.items
    ∙ (ap (λ (row : LeafRow). c.loop-i.rows.items ++ row ∷ []) c.in_ok-value_row.ensures
    ∙ (ap (λ (rows : List LeafRow). rows ++ f c.loop-i.i ∷ []) c.loop-i.invariant ∙ map_range_more f c.args.rows.now.items c.loop-i.i))
