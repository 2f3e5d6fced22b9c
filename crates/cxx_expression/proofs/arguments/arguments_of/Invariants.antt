use Rattle.std.proofs.Common.{◌≡◌, drop}
use Rattle.cxx_expression.specs.Calls.{arguments_of}
use Rattle.cxx_expression.specs.invariants.Arguments.{all_of}
use Rattle.cxx_expression.specs.invariants.Known.{Knows}
use Rattle.cxx_expression.proofs.arguments.arguments_of.Given as goal

-- those so far and those that are left are all
abbrev pub invariant-loop-n : goal.invariant-loop-n
invariant-loop-n l = record {
  typed : all_of l.list (arguments_of l.site.h.now l.site.setting.now l.site.scene.now l.site.at l.parameters l.n (drop l.n l.operands)).typed ≡ (arguments_of l.site.h.now l.site.setting.now l.site.scene.now l.site.at l.parameters 0 l.operands).typed;
  faults : (arguments_of l.site.h.now l.site.setting.now l.site.scene.now l.site.at l.parameters l.n (drop l.n l.operands)).faults l.faults ≡ (arguments_of l.site.h.now l.site.setting.now l.site.scene.now l.site.at l.parameters 0 l.operands).faults l.fn.faults;
  knows : Knows l.site.h.now l.known;
}
