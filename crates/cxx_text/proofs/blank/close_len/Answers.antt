use Rattle.std.proofs.Common.{arith, ap, sym, ◌∙◌, option_map}
use Rattle.cxx_text.proofs.Blanks.{no_close}
use Rattle.cxx_text.proofs.blank.close_len.Goals as goal

pub returns-clause-value : goal.returns-clause-value
returns-clause-value c = sym (c.loop-rest.invariant.value ∙ ap (option_map _) (no_close c.loop-rest.rest.now (omega arith)))
