use Rattle.std.proofs.Common.{sym, arith}
use Rattle.code_ops.specs.Setups.{routine_owner}
use Rattle.abi_lower.specs.invariants.Codes.{routine_from}
use Rattle.abi_lower.proofs.lowering.Lowering.locals.Goals as goal

pub overflow_cast-result : goal.overflow_cast-result
overflow_cast-result g c = let few = c.requires.small.locals.each (routine_owner (routine_from c.args.r)) c.in-Some.body.now (sym c.in-Some.ensures) in omega (arith, few, c.len.ensures)

pub returns-in-Some-clause-few : goal.returns-in-Some-clause-few
returns-in-Some-clause-few g c = let few = c.requires.small.locals.each (routine_owner (routine_from c.args.r)) c.in-Some.body.now (sym c.in-Some.ensures) in omega (arith, few, c.len.ensures)
