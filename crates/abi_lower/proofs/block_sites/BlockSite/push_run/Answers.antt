use Rattle.std.proofs.Common.{subst}
use Rattle.code_ops.specs.Setups.{setup}
use Rattle.code_ops.specs.Routines.{IsRoutine}
use Rattle.abi_lower.specs.declared.routines.Routine.{Routine as RoutineCode}
use Rattle.abi_lower.specs.invariants.Codes.{routine_from}
use Rattle.abi_lower.proofs.RunSteps.{function_known}
use Rattle.abi_lower.proofs.block_sites.BlockSite.push_run.Goals as goal

pub returns_value-requires : goal.returns_value-requires
returns_value-requires g c =
    let x = setup c.args.self.now.lowering.now.h.now (g.L.SoundLayout.rows c.args.self.now.lowering.now.layout.now) c.args.self.now.lowering.now.program.now in
    function_known x c.requires.site.lowering.typed c.in-Function.f (subst (λ (q : RoutineCode). IsRoutine x (routine_from q)) c.in-Function.is c.requires.routine)
