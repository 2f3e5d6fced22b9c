use Rattle.std.proofs.Common.{Some, ap}
use Rattle.abi_memptr.proofs.calls.word_target.Goals as goal

pub returns-else-word-eq1-clause-even : goal.returns-else-word-eq1-clause-even
returns-else-word-eq1-clause-even g c = λ code small is. ap (λ a. Some a) (c.code_target.ensures code small is)
