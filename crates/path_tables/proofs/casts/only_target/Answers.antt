use Rattle.path_tables.proofs.Targets.{only_none}
use Rattle.path_tables.proofs.casts.only_target.Goals as goal

pub returns-in-None : goal.returns-in-None
returns-in-None c = only_none c.args.cast.now.h.now c.keeps.ensures c.args.cast.now.c c.args.cast.now.target c.args.cast.now.view.now c.args.cast.now.source.now c.requires.view c.args.cast.now.parts.now c.requires.all c.args.over c.in-None.ensures
