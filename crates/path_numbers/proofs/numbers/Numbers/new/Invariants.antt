use Rattle.std.proofs.Common.{◌≡◌, length}
use Rattle.path_numbers.specs.Numbers.{AreNumberRows}
use Rattle.path_numbers.proofs.numbers.Numbers.new.Given as goal

-- there are rows for the classes so far
abbrev pub invariant-loop-number : goal.invariant-loop-number
invariant-loop-number l = record {
  size : length l.rows.items ≡ l.number;
  rows : AreNumberRows l.h l.rows.items;
}
