use Rattle.std.proofs.Common.{◌≡◌, length, drop}
use Rattle.std.specs.List.{flat_map}
use Rattle.abi_sound.specs.Places.{places_of}
use Rattle.abi_slots.specs.Listing.{push_all, calls_in}
use Rattle.abi_slots.specs.Rows.{below}
use Rattle.abi_slots.specs.invariants.OffsetWords.{name_number, AreWords}
use Rattle.abi_slots.proofs.vcalls.+push_calls.Given as goal

abbrev pub decreases-push_calls : goal.decreases-push_calls
decreases-push_calls g l = l.c.0

abbrev pub invariant-loop-b : goal.invariant-loop-b
invariant-loop-b g l = record {
  pushed : push_all l.h l.table.offsets.items (flat_map (below (calls_in l.h (places_of l.h (g.L.SoundLayout.rows l.layout)) l.c.0) l.path) (drop l.b-index l.b-items)) ≡ push_all l.h l.initial.table.offsets.items (flat_map (below (calls_in l.h (places_of l.h (g.L.SoundLayout.rows l.layout)) l.c.0) l.path) l.b-items);
  size : length l.table.words.items ≡ l.numbering.count;
  words_are : AreWords (name_number l.numbering.rows.items) l.table.offsets.items l.table.words.items;
}

abbrev pub invariant-loop-d : goal.invariant-loop-d
invariant-loop-d g l = record {
  pushed : push_all l.h l.table.offsets.items (flat_map (below (calls_in l.h (places_of l.h (g.L.SoundLayout.rows l.layout)) l.fn.c.0) l.path) (drop l.d-index l.d-items)) ≡ push_all l.h l.initial.table.offsets.items (flat_map (below (calls_in l.h (places_of l.h (g.L.SoundLayout.rows l.layout)) l.fn.c.0) l.path) l.d-items);
  size : length l.table.words.items ≡ l.numbering.count;
  words_are : AreWords (name_number l.numbering.rows.items) l.table.offsets.items l.table.words.items;
}
