use Rattle.std.proofs.Common.{◌≡◌, ◌++◌, ◌+◌, ◌*◌, map}
use Rattle.std.specs.List.{flat_map, range_with_len}
use Rattle.text_told.specs.Pointers.{moved_pointer}
use Rattle.text_told.proofs.pointers.push_elements.Given as goal

-- the pointers in the elements so far stand behind the others
abbrev pub invariant-loop-i : goal.invariant-loop-i
invariant-loop-i l = l.list.items ≡ l.fn.list.items ++ flat_map (λ i. map (moved_pointer (l.x.place + i * l.size)) l.inside) (range_with_len 0 l.i)
