use Rattle.std.proofs.Common.{◌≡◌, take}
use Rattle.std.specs.List.{flat_map}
use Rattle.cxx_subobject.specs.Subobjects.{class_of}
use Rattle.abi_sound.specs.Places.{places_of}
use Rattle.abi_print.specs.LayoutTexts.{subobject_text}
use Rattle.text_told.specs.Fields.{before_field}
use Rattle.text_bytes.specs.LeafRows.{placed_in}
use Rattle.text_bytes.proofs.members.placed_members.Given as goal

-- those of the subobjects so far
abbrev pub invariant-loop-s : goal.invariant-loop-s
invariant-loop-s g l =
    let p = places_of l.h (g.L.SoundLayout.rows l.layout) in
    l.list.items ≡ flat_map (λ s. placed_in l.h p (p.place l.fn.c s) (before_field (subobject_text l.h s)) (class_of s)) (take l.s-index l.s-items)
