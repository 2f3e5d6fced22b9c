use Rattle.std.proofs.Common.{◌≡◌, length, map, drop}
use Rattle.abi_slots.specs.declared.words.Offset.TheVariants.{ToBase}
use Rattle.abi_slots.specs.Listing.{push_all}
use Rattle.abi_slots.specs.invariants.OffsetWords.{virtual_base_number, AreWords}
use Rattle.abi_slots.proofs.offsets.push_bases.Given as goal

abbrev pub invariant-loop-v : goal.invariant-loop-v
invariant-loop-v l = record {
  pushed : push_all l.h l.table.offsets.items (map ToBase (drop l.v-index l.bases)) ≡ push_all l.h l.initial.table.offsets.items (map ToBase l.bases);
  size : length l.table.words.items ≡ length l.initial.table.words.items;
  words_are : AreWords virtual_base_number l.table.offsets.items l.table.words.items;
}
