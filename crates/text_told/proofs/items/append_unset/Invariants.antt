use Rattle.std.proofs.Common.{◌≡◌, ◌++◌}
use Rattle.text_told.specs.Dumps.{unset_text}
use Rattle.text_told.proofs.items.append_unset.Given as goal

abbrev pub invariant-loop : goal.invariant-loop
invariant-loop l = l.text.items ≡ l.fn.text.items ++ unset_text l.counter
