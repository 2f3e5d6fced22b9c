use Rattle.std.proofs.Common.{◌≡◌, map, take}
use Rattle.abi_slots.specs.Rows.{listed_function}
use Rattle.abi_slots.proofs.entry_tables.declared_of.Given as goal

abbrev pub invariant-loop-entry : goal.invariant-loop-entry
invariant-loop-entry l = l.list ≡ map (listed_function l.listings) (take l.entry-index l.entries)
