use Rattle.std.proofs.Common.{drop}
use Rattle.abi_sound.specs.Places.{places_of}
use Rattle.abi_vtt.specs.invariants.Growing.{IsGrowing}
use Rattle.abi_vtt.proofs.WordSteps.{part_items}
use Rattle.abi_vtt.proofs.sub_vtt.push_base_words.Given as goal

abbrev pub invariant-loop-n : goal.invariant-loop-n
invariant-loop-n g l = IsGrowing l.h (places_of l.h (g.L.SoundLayout.rows l.layout)) l.x.complete (part_items l.h (places_of l.h (g.L.SoundLayout.rows l.layout)) l.x.at (drop l.n l.part-items)) (part_items l.h (places_of l.h (g.L.SoundLayout.rows l.layout)) l.x.at l.part-items) l.initial.words l.words
