use Rattle.std.proofs.Common.{◌≡◌, take}
use Rattle.std.specs.List.{flat_map}
use Rattle.cxx_subobject.specs.Subobjects.{class_of}
use Rattle.abi_sound.specs.Places.{places_of}
use Rattle.text_told.specs.Pointers.{objects_in}
use Rattle.text_told.proofs.pointers.member_objects.Given as goal

-- those of the subobjects so far
abbrev pub invariant-loop-s : goal.invariant-loop-s
invariant-loop-s g l = let p = places_of l.h (g.L.SoundLayout.rows l.layout) in l.list.items ≡ flat_map (λ s. objects_in l.h p (p.place l.fn.c s) (class_of s)) (take l.s-index l.s-items)
