use Rattle.path_places.proofs.dumps.member_offset.Goals as goal

pub returns : goal.returns
returns c = c.member_offset.ensures c.args.site.now.world.now.h.now c.requires.world.are_numbers
