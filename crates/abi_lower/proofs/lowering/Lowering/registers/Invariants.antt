use Rattle.std.proofs.Common.{ℕ, ◌<◌, ◌≤◌, get_or}
use Rattle.code_ops.specs.Setups.{setup, body_of_routine, locals_in}
use Rattle.code_ops.specs.invariants.Fits.{most_local_registers}
use Rattle.abi_lower.specs.declared.routines.Routine.TheVariants.{Main}
use Rattle.abi_lower.specs.invariants.Codes.{routine_from}
use Rattle.abi_lower.proofs.lowering.Lowering.registers.Given as goal

abbrev pub invariant-loop-r : goal.invariant-loop-r
invariant-loop-r g l =
    let x = setup l.self.h.now (g.L.SoundLayout.rows l.self.layout.now) l.self.program.now in
    record {
      few : l.most < most_local_registers;
      each : (k : ℕ) → k < l.r-index → locals_in (body_of_routine x (routine_from (get_or l.list k Main))) ≤ l.most;
    }
