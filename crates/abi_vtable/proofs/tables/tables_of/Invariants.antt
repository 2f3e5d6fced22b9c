use Rattle.abi_sound.specs.Places.{places_of}
use Rattle.abi_slots.specs.Groups.{IsTable}
use Rattle.abi_slots.specs.Views.{heads}
use Rattle.abi_vtable.specs.invariants.Parts.{view_of_parts}
use Rattle.abi_vtable.specs.invariants.Returns.{AreKnown}
use Rattle.abi_vtable.specs.invariants.Words.{GoAlongTo}
use Rattle.abi_vtable.proofs.tables.tables_of.Given as goal

abbrev pub invariant-loop-number : goal.invariant-loop-number
invariant-loop-number g l = AreKnown l.site.h.now (places_of l.site.h.now (g.L.SoundLayout.rows l.site.layout.now)) l.known.items × GoAlongTo (IsTable l.site.h.now (places_of l.site.h.now (g.L.SoundLayout.rows l.site.layout.now)) (view_of_parts l.x)) (heads l.site.h.now (places_of l.site.h.now (g.L.SoundLayout.rows l.site.layout.now)) (view_of_parts l.x)) l.number-index l.tables
