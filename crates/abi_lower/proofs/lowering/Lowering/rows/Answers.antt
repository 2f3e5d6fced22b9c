use Rattle.code_ops.specs.Setups.{setup}
use Rattle.abi_lower.specs.invariants.Codes.{routines_from}
use Rattle.abi_lower.proofs.RowSteps.{completes_first, room_next, routine_item}
use Rattle.abi_lower.proofs.lowering.Lowering.rows.Goals as goal

pub loop-r-init : goal.loop-r-init
loop-r-init g c =
    let x = setup c.args.self.now.h.now (g.L.SoundLayout.rows c.args.self.now.layout.now) c.args.self.now.program.now in
    completes_first x c.new-rows.result (routines_from c.args.list.now) c.new-rows.ensures c.requires.routines

pub push_row-requires-clause-routine : goal.push_row-requires-clause-routine
push_row-requires-clause-routine g c =
    let x = setup c.args.self.now.h.now (g.L.SoundLayout.rows c.args.self.now.layout.now) c.args.self.now.program.now in
    routine_item x c.args.list.now c.loop-r.r-index c.requires.routines c.loop-r-test.true

pub push_row-requires-clause-room : goal.push_row-requires-clause-room
push_row-requires-clause-room g c =
    let x = setup c.args.self.now.h.now (g.L.SoundLayout.rows c.args.self.now.layout.now) c.args.self.now.program.now in
    room_next x c.loop-r.rows c.loop-r.next c.args.list.now c.loop-r.r-index c.loop-r-test.true c.requires.lowering.few_blocks c.loop-r.invariant
