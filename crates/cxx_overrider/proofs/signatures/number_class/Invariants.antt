use Rattle.std.proofs.Common.{◌≡◌, ℕ, length}
use Rattle.cxx_overrider.specs.declared.FunctionId.{FunctionId}
use Rattle.cxx_overrider.specs.invariants.Numbers.{AreFirst, IsFirstOf}
use Rattle.cxx_overrider.specs.invariants.Keys.{AreKeyed}
use Rattle.cxx_overrider.proofs.Numbering.{HasFirsts}
use Rattle.cxx_overrider.proofs.signatures.number_class.Given as goal

abbrev pub invariant-loop-index : goal.invariant-loop-index
invariant-loop-index l = record {
  firsts : AreFirst l.h l.firsts.items;
  keyed : AreKeyed l.h l.keys l.firsts.items;
  kept : (g : FunctionId) (n : ℕ) → IsFirstOf l.h l.fn.firsts.items g n → IsFirstOf l.h l.firsts.items g n;
  size : length l.row ≡ l.index;
  each : HasFirsts l.h l.firsts.items l.fn.c l.row;
}
