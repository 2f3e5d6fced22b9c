use Rattle.std.proofs.Common.{arith, sym}
use Rattle.abi_foreign.proofs.SumFacts.{no_base_place}
use Rattle.abi_foreign.proofs.sums.base_place.Goals as goal

pub returns-then-c-len : goal.returns-then-c-len
returns-then-c-len c = sym (no_base_place c.args.h.now c.args.rows.now c.args.c c.args.b c.requires (let past = c.if-c-len.true in let len = c.len.ensures in omega (arith, past, len)))
