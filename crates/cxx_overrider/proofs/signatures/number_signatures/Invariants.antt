use Rattle.std.proofs.Common.{◌≡◌, length}
use Rattle.cxx_overrider.specs.invariants.Numbers.{AreFirst}
use Rattle.cxx_overrider.specs.invariants.Keys.{AreKeyed}
use Rattle.cxx_overrider.proofs.Numbering.{HasRows}
use Rattle.cxx_overrider.proofs.signatures.number_signatures.Given as goal

abbrev pub invariant-loop-number : goal.invariant-loop-number
invariant-loop-number l = record {
  firsts : AreFirst l.h l.firsts.items;
  keyed : AreKeyed l.h l.keys l.firsts.items;
  size : length l.rows.items ≡ l.number;
  rows : HasRows l.h l.firsts.items l.rows.items;
}
