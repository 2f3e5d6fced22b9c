use Rattle.std.proofs.Common.{◌≡◌, drop}
use Rattle.std.specs.List.{find}
use Rattle.abi_slots.specs.Rows.{has_entry}
use Rattle.abi_slots.proofs.entry_tables.declared_in.Given as goal

abbrev pub invariant-loop-listing : goal.invariant-loop-listing
invariant-loop-listing l = find (has_entry l.entry) (drop l.listing-index l.listings) ≡ find (has_entry l.entry) l.listings
