use Rattle.abi_sound.specs.Places.{places_of}
use Rattle.abi_slots.specs.Groups.{IsOffsetWord}
use Rattle.abi_vtable.specs.invariants.Parts.{view_of_parts}
use Rattle.abi_vtable.specs.invariants.Words.{GoAlongTo}
use Rattle.abi_vtable.proofs.tables.offset_words.Given as goal

abbrev pub invariant-loop-offset : goal.invariant-loop-offset
invariant-loop-offset g l = GoAlongTo (IsOffsetWord l.site.h.now (places_of l.site.h.now (g.L.SoundLayout.rows l.site.layout.now)) (view_of_parts l.x) l.t.at) l.offsets l.offset-index l.words.items
