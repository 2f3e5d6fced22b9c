use Rattle.std.proofs.Common.{◌≡◌, ◌++◌, length}
use Rattle.std.specs.Vec.Iter.{into_iter_items, into_iter_len}
use Rattle.cxx_subobject.specs.Preorder.{preorder}
use Rattle.abi_sound.specs.Places.{places_of}
use Rattle.abi_vtable.specs.invariants.Parts.{ArePartsTo, view_of_parts}
use Rattle.abi_vtable.proofs.view.parts_of.Given as goal

-- what was taken from the list and what is left make the whole
abbrev pub invariant-loop-s : goal.invariant-loop-s
invariant-loop-s g l = (l.yielded ++ into_iter_items l.s-iterator ≡ preorder l.h l.x.class)
    × ArePartsTo l.h (places_of l.h (g.L.SoundLayout.rows l.layout)) (view_of_parts l.x) (preorder l.h l.x.class) l.yielded l.parts.items
    × (into_iter_len l.s-iterator ≡ length (into_iter_items l.s-iterator))
