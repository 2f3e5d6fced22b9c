use Rattle.std.proofs.Common.{◌≡◌, ◌<◌, ℕ, Some}
use Rattle.std.specs.List.{slice_get}
use Rattle.cxx_overrider.specs.declared.entries.Entry.{Entry}
use Rattle.cxx_overrider.specs.invariants.Settling.{Holds}
use Rattle.cxx_overrider.proofs.settling.not_held.Given as goal

abbrev pub invariant-loop-x : goal.invariant-loop-x
invariant-loop-x l = (k : ℕ) (x : Entry) → k < l.x-index → slice_get l.xs k ≡ Some x → Holds l.h l.best x
