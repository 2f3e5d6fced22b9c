use Rattle.abi_slots.specs.invariants.OffsetWords.{virtual_base_number}
use Rattle.abi_slots.proofs.WordSteps.{AreCopied}
use Rattle.abi_slots.proofs.offset_tables.base_table.Given as goal

abbrev pub invariant-loop-offset : goal.invariant-loop-offset
invariant-loop-offset l = AreCopied virtual_base_number l.count l.old l.offset-index l.table.offsets.items l.table.words.items
