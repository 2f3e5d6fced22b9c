use Rattle.path_places.proofs.dumps.in_full.Goals as goal

pub returns : goal.returns
returns c = c.in_full.ensures c.args.site.now.world.now.h.now c.requires.world.are_numbers
