use Rattle.std.proofs.Common.{◌≡◌, length}
use Rattle.cxx_overrider.specs.invariants.Within.{AreListed}
use Rattle.cxx_overrider.proofs.within.number_lists.Given as goal

abbrev pub invariant-loop-number : goal.invariant-loop-number
invariant-loop-number l = record { size : length l.lists.items ≡ l.number; lists : AreListed l.rows l.bound l.lists.items }
