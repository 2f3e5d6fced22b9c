use Rattle.std.proofs.Common.{◌∙◌, sym, arith}
use Rattle.code_ops.specs.Setups.{setup}
use Rattle.abi_lower.specs.invariants.Codes.{routine_from}
use Rattle.abi_lower.proofs.Counted.{blocks_some, blocks_none}
use Rattle.abi_lower.proofs.lowering.Lowering.blocks_in.Goals as goal

pub overflow_add-result : goal.overflow_add-result
overflow_add-result g c =
    let x = setup c.args.self.now.h.now (g.L.SoundLayout.rows c.args.self.now.layout.now) c.args.self.now.program.now in
    let all = blocks_some x (routine_from c.args.r) c.in-Some.body.now c.in-Some.ensures in
    let room = c.requires.room in omega (arith, all, room, c.len.ensures)

pub overflow_add-result-in-Some : goal.overflow_add-result-in-Some
overflow_add-result-in-Some g c =
    let x = setup c.args.self.now.h.now (g.L.SoundLayout.rows c.args.self.now.layout.now) c.args.self.now.program.now in
    let all = blocks_some x (routine_from c.args.r) c.in-Some.body.now c.in-Some.ensures in
    let room = c.requires.room in omega (arith, all, room, c.len.ensures, c.in_ok-own.ensures)

pub returns-in-None : goal.returns-in-None
returns-in-None g c =
    let x = setup c.args.self.now.h.now (g.L.SoundLayout.rows c.args.self.now.layout.now) c.args.self.now.program.now in
    c.in_ok-own.ensures ∙ sym (blocks_none x (routine_from c.args.r) c.in-None.ensures)

pub returns-in-Some : goal.returns-in-Some
returns-in-Some g c =
    let x = setup c.args.self.now.h.now (g.L.SoundLayout.rows c.args.self.now.layout.now) c.args.self.now.program.now in
    let all = blocks_some x (routine_from c.args.r) c.in-Some.body.now c.in-Some.ensures in
    omega (arith, all, c.len.ensures, c.in_ok-own.ensures)
