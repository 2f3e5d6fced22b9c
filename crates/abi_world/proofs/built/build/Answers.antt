use Rattle.code_ops.specs.Setups.{setup}
use Rattle.abi_world.proofs.Worlds.{are_numbered, has_world}
use Rattle.abi_world.proofs.built.build.Goals as goal

pub program_image-requires-clause-numbered : goal.program_image-requires-clause-numbered
program_image-requires-clause-numbered g c =
    are_numbered (setup c.args.h.now (g.L.SoundLayout.rows c.args.layout.now) c.args.program.now) c.in_ok-code.field-0.code c.in_ok-code.field-0.numbers c.in_ok-code.ensures.lowered

pub returns-clause-world : goal.returns-clause-world
returns-clause-world g c =
    has_world (setup c.args.h.now (g.L.SoundLayout.rows c.args.layout.now) c.args.program.now) c.in_ok-code.field-0.code c.in_ok-code.field-0.numbers c.in_ok-image.image
    c.keeps.ensures c.requires.overriders.fine (g.met.L.SoundLayout.sound c.args.layout.now c.args.h.now c.requires.layout) c.requires.typed c.requires.main c.in_ok-code.ensures.lowered c.in_ok-image.ensures
