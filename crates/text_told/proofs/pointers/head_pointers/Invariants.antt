use Rattle.std.proofs.Common.{◌≡◌, map, take}
use Rattle.abi_sound.specs.Places.{places_of}
use Rattle.abi_slots.specs.Views.{heads}
use Rattle.abi_vtable.specs.invariants.Parts.{view_of_parts}
use Rattle.text_told.specs.Pointers.{table_pointer_at}
use Rattle.text_told.proofs.pointers.head_pointers.Given as goal

-- those of the heads so far
abbrev pub invariant-loop-number : goal.invariant-loop-number
invariant-loop-number g l = let p = places_of l.h (g.L.SoundLayout.rows l.layout) in l.list.items ≡ map (table_pointer_at p l.x.class) (take l.number-index (heads l.h p (view_of_parts l.x)))
