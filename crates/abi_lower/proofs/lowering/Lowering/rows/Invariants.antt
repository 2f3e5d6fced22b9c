use Rattle.std.proofs.Common.{drop}
use Rattle.code_ops.specs.Setups.{setup}
use Rattle.abi_lower.specs.invariants.Codes.{routines_from}
use Rattle.abi_lower.specs.invariants.Lowerings.{Completes}
use Rattle.abi_lower.proofs.lowering.Lowering.rows.Given as goal

abbrev pub invariant-loop-r : goal.invariant-loop-r
invariant-loop-r g l = Completes (setup l.self.h.now (g.L.SoundLayout.rows l.self.layout.now) l.self.program.now) l.rows l.next (routines_from (drop l.r-index l.list))
