use Rattle.path_machine.proofs.Happening.{sets_member}
use Rattle.path_machine.proofs.events.initialize.Goals as goal

-- src/events.rt:44:1
pub returns : goal.returns
returns c = sets_member c.args.run.now.world.h.now c.args.run.now.program.now c.requires.setup.typed c.args.machine.now c.set_leaf.new.self c.args.part c.args.member c.leaf_number-leaf.result c.initial_value-value.result c.initial_value-value.ensures c.leaf_number-leaf.ensures (c.in_ok-set_leaf.ensures c.args.run.now.world.h.now)
