use Rattle.std.proofs.Common.{◌≡◌, ◌++◌, map}
use Rattle.std.specs.List.{range_with_len}
use Rattle.abi_sound.specs.Places.{places_of}
use Rattle.text_bytes.specs.LeafRows.{placed_member}
use Rattle.text_bytes.proofs.members.push_members.Given as goal

-- the members so far stand behind the others
abbrev pub invariant-loop-m : goal.invariant-loop-m
invariant-loop-m g l = l.list.items ≡ l.fn.list.items ++ map (placed_member (places_of l.h (g.L.SoundLayout.rows l.layout)) l.fn.place l.before l.fn.b) (range_with_len 0 l.m)
