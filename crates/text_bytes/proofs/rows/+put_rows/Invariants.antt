use Rattle.std.proofs.Common.{◌≡◌, ◌≤◌, ℕ, take}
use Rattle.std.specs.List.{flat_map}
use Rattle.abi_sound.specs.Places.{places_of}
use Rattle.text_bytes.specs.LeafRows.{rows_in, rows_within}
use Rattle.text_bytes.proofs.rows.+put_rows.Given as goal

abbrev pub decreases-put_rows : goal.decreases-put_rows
decreases-put_rows g l = l.c.0

-- for any bound on the numbers of member classes: the leaves of the members so far
abbrev pub invariant-loop-x : goal.invariant-loop-x
invariant-loop-x g l =
    let p = places_of l.h (g.L.SoundLayout.rows l.layout) in
    (n : ℕ) → l.fn.c.0 ≤ n → l.rows.items ≡ flat_map (rows_in l.h p (rows_within l.h p n)) (take l.x-index l.x-items)
