use Rattle.abi_slots.specs.invariants.OffsetWords.{name_number}
use Rattle.abi_slots.proofs.WordSteps.{AreCopied}
use Rattle.abi_slots.proofs.offset_tables.name_table.Given as goal

abbrev pub invariant-loop-offset : goal.invariant-loop-offset
invariant-loop-offset l = AreCopied (name_number l.numbering.rows.items) l.numbering.count l.old l.offset-index l.table.offsets.items l.table.words.items
