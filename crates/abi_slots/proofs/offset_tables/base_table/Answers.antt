use Rattle.std.proofs.Common.{◌∙◌, ap, ◌++◌, ◌∷◌, []}
use Rattle.abi_slots.specs.invariants.OffsetWords.{virtual_base_number}
use Rattle.abi_slots.proofs.WordSteps.{copied_more}
use Rattle.abi_slots.proofs.offset_tables.base_table.Goals as goal

pub loop-offset-preserved : goal.loop-offset-preserved
loop-offset-preserved c = copied_more virtual_base_number c.args.count c.args.old.now c.loop-offset.offset-index c.loop-offset.table.offsets.items c.push_offset.new.table.offsets.items c.loop-offset.table.words.items c.push_offset.new.table.words.items c.offset-item.result c.base_number.result c.loop-offset.invariant c.loop-offset-test.true c.requires.within c.offset-item.is c.base_number.ensures
    (c.in_ok-push_offset.ensures.offsets ∙ ap (λ x. c.loop-offset.table.offsets.items ++ x ∷ []) c.in_ok-copy.ensures)
    c.in_ok-push_offset.ensures.words
