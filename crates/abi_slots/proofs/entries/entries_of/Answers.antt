use Rattle.abi_sound.specs.Places.{places_of}
use Rattle.abi_slots.proofs.EntrySteps.{entry_step, listed_step}
use Rattle.abi_slots.proofs.entries.entries_of.Goals as goal

pub loop-key-preserved : goal.loop-key-preserved
loop-key-preserved g c =
    let l = places_of c.args.h.now (g.L.SoundLayout.rows c.args.layout.now) in (
      entry_step c.args.h.now l c.args.old.now c.args.keys.now c.loop-key.key-index _ c.in_ok-shared.shared _ _ _ c.loop-key-test.true c.in_ok-shared.ensures c.in_ok-push_entry.ensures.entries c.loop-key.invariant.0,
      listed_step c.args.h.now l c.args.old.now c.args.keys.now c.loop-key.key-index _ c.in_ok-shared.shared _ _ _ c.loop-key-test.true c.in_ok-shared.ensures c.in_ok-push_entry.ensures.listings c.loop-key.invariant.1,
    )
