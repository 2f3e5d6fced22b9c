use Rattle.std.proofs.Common.{◌≡◌, length, take}
use Rattle.abi_slots.specs.Rows.{AreEntryNumbers}
use Rattle.abi_slots.proofs.entry_tables.numbers_of.Given as goal

abbrev pub invariant-loop-listing : goal.invariant-loop-listing
invariant-loop-listing l = record {
  size : length l.numbers.items ≡ l.count;
  numbers_are : AreEntryNumbers l.entries (take l.listing-index l.listings) l.numbers.items;
}
