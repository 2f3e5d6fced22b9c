use Rattle.std.proofs.Common.{◌≡◌, length}
use Rattle.cxx_overrider.proofs.KindLemmas.{CountsBelow}
use Rattle.cxx_overrider.proofs.kinds.kind_row.Given as goal

abbrev pub invariant-loop-number : goal.invariant-loop-number
invariant-loop-number l = record { size : length l.row ≡ l.number; each : CountsBelow l.h l.c l.row }
