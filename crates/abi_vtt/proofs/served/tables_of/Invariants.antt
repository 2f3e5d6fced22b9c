use Rattle.abi_sound.specs.Places.{places_of}
use Rattle.abi_vtable.specs.invariants.Parts.{view_of_parts}
use Rattle.abi_vtt.specs.invariants.Served.{AreServingTo}
use Rattle.abi_vtt.proofs.served.tables_of.Given as goal

abbrev pub invariant-loop-n : goal.invariant-loop-n
invariant-loop-n g l = AreServingTo l.h (places_of l.h (g.L.SoundLayout.rows l.layout)) (view_of_parts l.x) l.n l.tables.items
