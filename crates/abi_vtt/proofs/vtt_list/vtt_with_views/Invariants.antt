use Rattle.std.proofs.Common.{drop}
use Rattle.abi_sound.specs.Places.{places_of}
use Rattle.abi_vtable.specs.invariants.Kept.{GrowsByViews}
use Rattle.abi_vtt.specs.invariants.Growing.{IsGrowing}
use Rattle.abi_vtt.proofs.WordSteps.{shared_rest}
use Rattle.abi_vtt.proofs.vtt_list.vtt_with_views.Given as goal

abbrev pub invariant-loop-s : goal.invariant-loop-s
invariant-loop-s g l = IsGrowing l.h (places_of l.h (g.L.SoundLayout.rows l.layout)) l.fn.c (shared_rest l.h (places_of l.h (g.L.SoundLayout.rows l.layout)) (drop l.s-index l.s-items)) (shared_rest l.h (places_of l.h (g.L.SoundLayout.rows l.layout)) l.s-items) l.initial.words l.words × GrowsByViews l.h (places_of l.h (g.L.SoundLayout.rows l.layout)) l.initial.views l.views
