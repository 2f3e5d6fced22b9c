use Rattle.std.proofs.Common.{◌≡◌, ◌++◌, ◌≤◌, ℕ, take}
use Rattle.std.specs.List.{flat_map}
use Rattle.abi_sound.specs.Places.{places_of}
use Rattle.text_told.specs.Pointers.{own_pointers, pointers_in, pointers_within}
use Rattle.text_told.proofs.pointers.+put_pointers.Given as goal

abbrev pub decreases-put_pointers : goal.decreases-put_pointers
decreases-put_pointers g l = l.c.0

-- for any bound on the numbers of member classes: the own ones, and those in the members so far
abbrev pub invariant-loop-x : goal.invariant-loop-x
invariant-loop-x g l =
    let p = places_of l.h (g.L.SoundLayout.rows l.layout) in
    (n : ℕ) → l.fn.c.0 ≤ n → l.list.items ≡ own_pointers l.h p l.fn.c ++ flat_map (pointers_in p (pointers_within l.h p n)) (take l.x-index l.x-items)
