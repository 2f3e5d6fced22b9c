use Rattle.cxx_overrider.specs.invariants.Settling.{IsAmong, IsOrder}
use Rattle.cxx_overrider.proofs.SettlingLemmas.{IsAboveSoFar}
use Rattle.cxx_overrider.proofs.settling.highest.Given as goal

abbrev pub invariant-loop-x : goal.invariant-loop-x
invariant-loop-x l = record { among : IsAmong l.xs l.best; above : IsOrder l.h l.xs → IsAboveSoFar l.h l.xs l.fn.start l.x-index l.best }
