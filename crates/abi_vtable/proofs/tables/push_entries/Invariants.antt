use Rattle.std.proofs.Common.{◌≡◌, ◌++◌, map, drop}
use Rattle.abi_slots.specs.declared.words.TableWord.TheVariants.{Entry}
use Rattle.abi_vtable.proofs.tables.push_entries.Given as goal

abbrev pub invariant-loop-entry : goal.invariant-loop-entry
invariant-loop-entry l = l.words ++ map Entry (drop l.entry-index l.entries) ≡ l.initial.words ++ map Entry l.entries
