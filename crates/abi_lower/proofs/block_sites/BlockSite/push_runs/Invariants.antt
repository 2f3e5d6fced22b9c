use Rattle.std.proofs.Common.{◌≡◌, ◌++◌, drop}
use Rattle.std.specs.List.{flat_map}
use Rattle.code_ops.specs.Setups.{setup}
use Rattle.abi_lower.specs.invariants.Numbers.{plain_routines}
use Rattle.abi_lower.specs.invariants.Codes.{routines_from}
use Rattle.abi_lower.specs.invariants.Runs.{routine_blocks}
use Rattle.abi_lower.proofs.block_sites.BlockSite.push_runs.Given as goal

abbrev pub invariant-loop-r : goal.invariant-loop-r
invariant-loop-r g l =
    let x = setup l.self.lowering.now.h.now (g.L.SoundLayout.rows l.self.lowering.now.layout.now) l.self.lowering.now.program.now in
    l.blocks ++ flat_map (routine_blocks x) (routines_from (drop l.r-index l.list)) ≡ l.initial.blocks ++ flat_map (routine_blocks x) (plain_routines l.self.lowering.now.program.now)
