use Rattle.abi_sound.specs.Places.{places_of}
use Rattle.abi_vtable.specs.invariants.Parts.{AreNextsTo, view_of_parts}
use Rattle.abi_vtable.proofs.view.nexts_of.Given as goal

abbrev pub invariant-loop-s : goal.invariant-loop-s
invariant-loop-s g l = AreNextsTo (places_of l.h (g.L.SoundLayout.rows l.layout)) (view_of_parts l.x) l.list l.s-index l.nexts.items
