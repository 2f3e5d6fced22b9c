use Rattle.std.proofs.Common.{arith}
use Rattle.cxxabi_words.proofs.CutCalls.{cut_is}
use Rattle.cxxabi_words.proofs.names.cut_at.Goals as goal

pub returns : goal.returns
returns c = cut_is 64 c.args.word.now c.split_once.result c.split_once.ensures.cases (omega arith)
