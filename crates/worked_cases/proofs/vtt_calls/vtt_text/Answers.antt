use Rattle.std.proofs.Common.{sym, ◌∙◌}
use Rattle.abi_vtt.proofs.MarkLemmas.{some_has}
use Rattle.worked_cases.proofs.vtt_calls.vtt_text.Goals as goal

pub vtt-requires-clause-has_base : goal.vtt-requires-clause-has_base
vtt-requires-clause-has_base c = some_has c.in_ok-h.h c.keeps.ensures c.in-Some.class (sym c.has_virtual.ensures ∙ c.if-has_virtual.true)
