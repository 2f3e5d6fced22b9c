use Rattle.std.proofs.Common.{◌≡◌, ◌++◌, drop}
use Rattle.abi_sound.specs.Places.{places_of}
use Rattle.abi_slots.specs.Listing.{new_entries}
use Rattle.abi_slots.specs.Rows.{listed_all}
use Rattle.abi_slots.proofs.entries.entries_of.Given as goal

abbrev pub invariant-loop-key : goal.invariant-loop-key
invariant-loop-key g l = (l.all.entries.items ++ new_entries l.h (places_of l.h (g.L.SoundLayout.rows l.layout)) l.old (drop l.key-index l.keys) ≡ l.old ++ new_entries l.h (places_of l.h (g.L.SoundLayout.rows l.layout)) l.old l.keys)
    × (l.all.listings.items ++ listed_all l.h (places_of l.h (g.L.SoundLayout.rows l.layout)) l.old (drop l.key-index l.keys) ≡ listed_all l.h (places_of l.h (g.L.SoundLayout.rows l.layout)) l.old l.keys)
