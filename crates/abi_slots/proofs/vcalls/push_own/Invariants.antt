use Rattle.std.proofs.Common.{◌≡◌, length, map, drop}
use Rattle.abi_slots.specs.Listing.{call, push_all}
use Rattle.abi_slots.specs.invariants.OffsetWords.{name_number, AreWords}
use Rattle.abi_slots.proofs.vcalls.push_own.Given as goal

abbrev pub invariant-loop-f : goal.invariant-loop-f
invariant-loop-f l = record {
  pushed : push_all l.h l.table.offsets.items (map (call l.path) (drop l.f-index l.own)) ≡ push_all l.h l.initial.table.offsets.items (map (call l.path) l.own);
  size : length l.table.words.items ≡ l.numbering.count;
  words_are : AreWords (name_number l.numbering.rows.items) l.table.offsets.items l.table.words.items;
}
