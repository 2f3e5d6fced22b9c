use Rattle.std.proofs.Common.{◌≡◌, ◌++◌, ◌+◌}
use Rattle.std.specs.List.{flat_map, range_with_len, slice_get}
use Rattle.cxx_hierarchy.specs.Classes.{members_of}
use Rattle.abi_sound.specs.Places.{places_of}
use Rattle.text_told.specs.Pointers.{objects_by_member}
use Rattle.text_told.proofs.pointers.push_objects.Given as goal

-- those of the members so far stand behind the others
abbrev pub invariant-loop-m : goal.invariant-loop-m
invariant-loop-m g l = l.list.items ≡ l.fn.list.items ++ flat_map (λ m. objects_by_member (l.fn.place + (places_of l.h (g.L.SoundLayout.rows l.layout)).member l.fn.b m) (slice_get (members_of l.h l.fn.b) m)) (range_with_len 0 l.m)
