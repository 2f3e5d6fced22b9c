use Rattle.std.proofs.Common.{◌≡◌, ◌-◌}
use Rattle.abi_sound.specs.Places.{places_of}
use Rattle.path_machine.specs.Turns.{budget_of, taken_by}
use Rattle.path_run.specs.invariants.Going.{RunGoesOn}
use Rattle.path_run.proofs.run.run_all.Given as goal

abbrev pub invariant-loop-text : goal.invariant-loop-text
invariant-loop-text g l =
    record {
      going : RunGoesOn l.run.world.h.now (places_of l.run.world.h.now (g.L.SoundLayout.rows l.layout)) l.run.program.now l.fn.trace l.state l.text.items;
      budget : budget_of l.state ≡ l.fn.steps;
    }

abbrev pub decreases-loop-text : goal.decreases-loop-text
decreases-loop-text g l = budget_of l.state - taken_by l.state
