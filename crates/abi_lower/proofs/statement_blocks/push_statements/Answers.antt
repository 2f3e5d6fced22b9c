use Rattle.code_ops.specs.Setups.{setup}
use Rattle.abi_lower.proofs.BodySites.{item_there, statement_room, statement_fits}
use Rattle.abi_lower.proofs.SameOps.{statement_more}
use Rattle.abi_lower.proofs.statement_blocks.push_statements.Goals as goal

pub statement_block-requires-clause-room : goal.statement_block-requires-clause-room
statement_block-requires-clause-room g c =
    let x = setup c.args.site.now.h.now (g.L.SoundLayout.rows c.args.site.now.layout.now) c.args.site.now.program.now in
    let item = item_there c.args.site.now.body.now.statements c.as_slice-statement-items.result.now c.loop-n.n c.statement-item.result c.as_slice-statement-items.ensures c.loop-n-test.true c.statement-item.is in
    statement_room x c.args.site.now.slots.now c.args.site.now.overriders.now c.args.site.now.body.now c.requires.site c.args.base c.loop-n.n c.statement-item.result item.2 c.requires.room

pub statement_block-requires-clause-fits : goal.statement_block-requires-clause-fits
statement_block-requires-clause-fits g c =
    let x = setup c.args.site.now.h.now (g.L.SoundLayout.rows c.args.site.now.layout.now) c.args.site.now.program.now in
    let item = item_there c.args.site.now.body.now.statements c.as_slice-statement-items.result.now c.loop-n.n c.statement-item.result c.as_slice-statement-items.ensures c.loop-n-test.true c.statement-item.is in
    statement_fits x c.args.site.now.slots.now c.args.site.now.overriders.now c.args.site.now.body.now c.requires.site c.args.base c.loop-n.n c.statement-item.result item.2 c.requires.room

pub loop-n-preserved : goal.loop-n-preserved
loop-n-preserved g c = λ r runs.
    let x = setup c.args.site.now.h.now (g.L.SoundLayout.rows c.args.site.now.layout.now) c.args.site.now.program.now in
    let item = item_there c.args.site.now.body.now.statements c.as_slice-statement-items.result.now c.loop-n.n c.statement-item.result c.as_slice-statement-items.ensures c.loop-n-test.true c.statement-item.is in
    statement_more x c.args.site.now.numbers.now c.args.site.now.body.now c.args.base c.loop-n.n r c.statement-item.result c.args.site.now.body.now.statements c.in_ok-block.block c.loop-n.blocks c.push.new.self _
    runs item.0 item.1 c.in_ok-block.ensures.ops c.in_ok-block.ensures.line c.in_ok-push.ensures.ok (c.loop-n.invariant r runs)
