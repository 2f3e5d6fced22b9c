use Rattle.std.proofs.Common.{◌≡◌, ◌+◌, take, Some}
use Rattle.std.specs.List.{sum_by}
use Rattle.abi_sound.specs.Places.{places_of}
use Rattle.abi_slots.specs.Groups.{is_shared_base}
use Rattle.abi_tables.specs.Counts.{words_of_class}
use Rattle.abi_tables.specs.invariants.Weights.{cut, head_words, sides_of, view_at}
use Rattle.abi_tables.proofs.ViewLemmas.{top_and_sides}
use Rattle.abi_tables.proofs.view_words.view_words.Given as goal

-- the table of the view, its sides, and the virtual bases so far
abbrev pub invariant-loop-v : goal.invariant-loop-v
invariant-loop-v g l =
    let p = places_of l.h (g.L.SoundLayout.rows l.layout) in
    l.sum ≡ cut ((words_of_class l.h p (is_shared_base l.x) (Some l.d) + sides_of l.h p (head_words l.h p) l.d) + sum_by (top_and_sides l.h p (view_at l.c l.x l.d)) (take l.v-index l.v-items))
