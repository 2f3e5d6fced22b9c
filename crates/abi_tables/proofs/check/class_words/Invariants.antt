use Rattle.std.proofs.Common.{◌≡◌, take}
use Rattle.std.specs.List.{sum_by}
use Rattle.cxx_subobject.specs.declared.Subobject.{Subobject}
use Rattle.cxx_subobject.specs.Subobjects.{class_of}
use Rattle.abi_sound.specs.Places.{places_of}
use Rattle.abi_tables.specs.Counts.{words_of_view}
use Rattle.abi_tables.specs.invariants.Weights.{cut}
use Rattle.abi_tables.proofs.check.class_words.Given as goal

abbrev pub invariant-loop-x : goal.invariant-loop-x
invariant-loop-x g l = l.sum ≡ cut (sum_by (λ (x : Subobject). words_of_view l.h (places_of l.h (g.L.SoundLayout.rows l.layout)) l.c x (class_of x)) (take l.x-index l.x-items))
