use Rattle.std.proofs.Common.{List, ◌++◌, ap}
use Rattle.std.specs.List.{flat_map}
use Rattle.code_ops.specs.Setups.{setup, Routine}
use Rattle.abi_lower.specs.invariants.Runs.{routine_blocks}
use Rattle.abi_lower.proofs.RowSteps.{plain_item}
use Rattle.abi_lower.proofs.RunSteps.{blocks_more}
use Rattle.abi_lower.proofs.block_sites.BlockSite.push_runs.Goals as goal

pub loop-r-init : goal.loop-r-init
loop-r-init g c =
    let x = setup c.args.self.now.lowering.now.h.now (g.L.SoundLayout.rows c.args.self.now.lowering.now.layout.now) c.args.self.now.lowering.now.program.now in
    ap (λ (l : List Routine). c.args.blocks.now ++ flat_map (routine_blocks x) l) c.requires.plain

pub push_run-requires-clause-routine : goal.push_run-requires-clause-routine
push_run-requires-clause-routine g c =
    let x = setup c.args.self.now.lowering.now.h.now (g.L.SoundLayout.rows c.args.self.now.lowering.now.layout.now) c.args.self.now.lowering.now.program.now in
    (plain_item x c.args.list.now c.loop-r.r-index c.requires.plain c.loop-r-test.true).0

pub push_run-requires-clause-plain : goal.push_run-requires-clause-plain
push_run-requires-clause-plain g c =
    let x = setup c.args.self.now.lowering.now.h.now (g.L.SoundLayout.rows c.args.self.now.lowering.now.layout.now) c.args.self.now.lowering.now.program.now in
    (plain_item x c.args.list.now c.loop-r.r-index c.requires.plain c.loop-r-test.true).1

pub loop-r-preserved : goal.loop-r-preserved
loop-r-preserved g c =
    let x = setup c.args.self.now.lowering.now.h.now (g.L.SoundLayout.rows c.args.self.now.lowering.now.layout.now) c.args.self.now.lowering.now.program.now in
    blocks_more x c.args.list.now c.loop-r.r-index c.loop-r.blocks c.push_run.new.blocks _ c.loop-r-test.true c.in_ok-push_run.ensures c.loop-r.invariant
