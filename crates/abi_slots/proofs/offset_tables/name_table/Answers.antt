use Rattle.std.proofs.Common.{◌∙◌, ap, ◌++◌, ◌∷◌, []}
use Rattle.abi_slots.specs.invariants.OffsetWords.{name_number}
use Rattle.abi_slots.proofs.WordSteps.{copied_more}
use Rattle.abi_slots.proofs.offset_tables.name_table.Goals as goal

pub loop-offset-preserved : goal.loop-offset-preserved
loop-offset-preserved c = copied_more (name_number c.args.numbering.now.rows.items) c.args.numbering.now.count c.args.old.now c.loop-offset.offset-index c.loop-offset.table.offsets.items c.push_offset.new.table.offsets.items c.loop-offset.table.words.items c.push_offset.new.table.words.items c.offset-item.result c.name_number.result c.loop-offset.invariant c.loop-offset-test.true c.requires.within c.offset-item.is c.name_number.ensures
    (c.in_ok-push_offset.ensures.offsets ∙ ap (λ x. c.loop-offset.table.offsets.items ++ x ∷ []) c.in_ok-copy.ensures)
    c.in_ok-push_offset.ensures.words
