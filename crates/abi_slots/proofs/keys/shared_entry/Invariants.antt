use Rattle.std.proofs.Common.{◌≡◌, drop}
use Rattle.std.specs.List.{find}
use Rattle.abi_sound.specs.Places.{places_of}
use Rattle.abi_slots.specs.Listing.{shares}
use Rattle.abi_slots.proofs.keys.shared_entry.Given as goal

abbrev pub invariant-loop-entry : goal.invariant-loop-entry
invariant-loop-entry g l = find (shares l.h (places_of l.h (g.L.SoundLayout.rows l.layout)) l.key) (drop l.entry-index l.old) ≡ find (shares l.h (places_of l.h (g.L.SoundLayout.rows l.layout)) l.key) l.old
