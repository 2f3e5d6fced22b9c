use Rattle.std.proofs.Common.{arith}
use Rattle.cxx_subobject.proofs.TestLemmas.{not_same}
use Rattle.cxx_subobject.proofs.sameness.is_same.Goals as goal

pub returns-then-len : goal.returns-then-len
returns-then-len c = not_same c.args.one.now c.args.other.now (λ e. omega arith)
