use Rattle.std.proofs.Common.{◌≡◌, ◌+◌, List, ◌++◌, ap, arith, ◌∙◌}
use Rattle.byte_code.specs.declared.code.Block.{Block}
use Rattle.code_ops.specs.Setups.{setup}
use Rattle.code_ops.specs.Routines.{start_by}
use Rattle.abi_lower.specs.invariants.Numbers.{own_events}
use Rattle.abi_lower.specs.invariants.Codes.{routine_from}
use Rattle.abi_lower.proofs.RunSteps.{body_site, body_room, runs_at, plain_own, plain_run}
use Rattle.abi_lower.proofs.block_sites.BlockSite.push_plain.Goals as goal

pub push_body-requires-clause-body : goal.push_body-requires-clause-body
push_body-requires-clause-body g c =
    let x = setup c.args.self.now.lowering.now.h.now (g.L.SoundLayout.rows c.args.self.now.lowering.now.layout.now) c.args.self.now.lowering.now.program.now in
    body_site x c.args.self.now.lowering.now.overriders.now c.args.self.now.lowering.now.slots.now c.args.self.now.lowering.now.index.now c.args.self.now.lowering.now.orders.now c.requires.site.lowering c.args.self.now.numbers.now c.requires.site.numbered (routine_from c.args.r) c.in-Some.body.now c.in-Some.ensures

pub push_body-requires-clause-room : goal.push_body-requires-clause-room
push_body-requires-clause-room g c =
    let x = setup c.args.self.now.lowering.now.h.now (g.L.SoundLayout.rows c.args.self.now.lowering.now.layout.now) c.args.self.now.lowering.now.program.now in
    let none = plain_own x (routine_from c.args.r) c.requires.plain in
    let begins : c.first_block-base.result ≡ start_by x c.args.self.now.numbers.now (routine_from c.args.r) + own_events x (routine_from c.args.r) = omega (arith, none, c.first_block-base.ensures) in
    body_room x c.args.self.now.lowering.now.overriders.now c.args.self.now.lowering.now.slots.now c.args.self.now.lowering.now.index.now c.args.self.now.lowering.now.orders.now c.requires.site.lowering c.args.self.now.numbers.now c.requires.site.numbered (routine_from c.args.r) c.in-Some.body.now c.first_block-base.result c.requires.routine c.in-Some.ensures begins

pub returns-in_ok-push_body-in-Some : goal.returns-in_ok-push_body-in-Some
returns-in_ok-push_body-in-Some g c =
    let x = setup c.args.self.now.lowering.now.h.now (g.L.SoundLayout.rows c.args.self.now.lowering.now.layout.now) c.args.self.now.lowering.now.program.now in
    let none = plain_own x (routine_from c.args.r) c.requires.plain in
    let begins : c.first_block-base.result ≡ start_by x c.args.self.now.numbers.now (routine_from c.args.r) + own_events x (routine_from c.args.r) = omega (arith, none, c.first_block-base.ensures) in
    let runs = runs_at x c.args.self.now.lowering.now.overriders.now c.args.self.now.lowering.now.slots.now c.args.self.now.lowering.now.index.now c.args.self.now.lowering.now.orders.now c.requires.site.lowering c.args.self.now.numbers.now c.requires.site.numbered (routine_from c.args.r) c.in-Some.body.now c.first_block-base.result c.in-Some.ensures begins in
    c.in_ok-push_body-in-Some.ensures (routine_from c.args.r) runs c.requires.end ∙ ap (λ (l : List Block). c.args.blocks.now ++ l) (plain_run x (routine_from c.args.r) c.in-Some.body.now c.requires.plain c.in-Some.ensures)
