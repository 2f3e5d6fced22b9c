use Rattle.std.proofs.Common.{◌≡◌, length}
use Rattle.abi_sound.specs.Places.{places_of}
use Rattle.abi_slots.specs.invariants.SlotRows.{AreSlotRows}
use Rattle.abi_slots.proofs.class_rows.rows_of_each.Given as goal

abbrev pub invariant-loop-number : goal.invariant-loop-number
invariant-loop-number g l = record {
  size : length l.rows.items ≡ l.number;
  rows_are : AreSlotRows l.site.h.now (places_of l.site.h.now (g.L.SoundLayout.rows l.site.layout.now)) l.site.numbering.now.rows.items l.rows.items;
}
