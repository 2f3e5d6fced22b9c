use Rattle.std.proofs.Common.{ℕ, suc, ◌<◌, drop}
use Rattle.abi_sound.specs.Places.{places_of}
use Rattle.abi_vtable.specs.invariants.Kept.{GrowsByViews}
use Rattle.abi_vtt.specs.invariants.Growing.{IsGrowing}
use Rattle.abi_vtt.proofs.WordSteps.{base_items}
use Rattle.abi_vtt.proofs.sub_vtt.+push_sub_vtt.Given as goal

abbrev pub decreases-push_sub_vtt : goal.decreases-push_sub_vtt
decreases-push_sub_vtt g l = l.d.0

-- the words of the bases that are left are still to come, and views are put behind others
abbrev pub invariant-loop-base : goal.invariant-loop-base
invariant-loop-base g l = ((n : ℕ) → l.fn.d.0 < suc n → IsGrowing l.h (places_of l.h (g.L.SoundLayout.rows l.layout)) l.name.complete (base_items l.h (places_of l.h (g.L.SoundLayout.rows l.layout)) n l.name.view (drop l.base-index l.base-items)) (base_items l.h (places_of l.h (g.L.SoundLayout.rows l.layout)) n l.name.view l.base-items) l.initial.words l.words)
    × GrowsByViews l.h (places_of l.h (g.L.SoundLayout.rows l.layout)) l.initial.views l.views
