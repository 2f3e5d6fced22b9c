use Rattle.std.proofs.Common.{◌≡◌, length}
use Rattle.cxx_overrider.specs.Faults.{spot, limit_part}
use Rattle.cxx_overrider.specs.invariants.Settling.{IsMade}
use Rattle.cxx_overrider.specs.invariants.Pass.{IsFineTo, TellsAbstract}
use Rattle.cxx_overrider.proofs.pass.check_by_class.Given as goal

-- the classes so far are fine, and the tables tell of them
abbrev pub invariant-loop-number : goal.invariant-loop-number
invariant-loop-number l = record {
  made : IsMade l.h l.tables.numbering.rows.items l.entries l.number 0 0;
  size : length l.abstracts.items ≡ l.number;
  abstracts : TellsAbstract l.h l.abstracts.items;
  fine : IsFineTo l.h (spot (record { 0 = l.number }) limit_part 0 0);
}
