use Rattle.path_tables.proofs.Targets.{only_first, only_second}
use Rattle.path_tables.proofs.casts.if_only.Goals as goal

pub returns-in-Some : goal.returns-in-Some
returns-in-Some c = only_second c.args.cast.now.h.now c.keeps.ensures c.args.cast.now.c c.args.cast.now.target c.args.cast.now.view.now c.args.cast.now.source.now c.requires.among.view c.args.cast.now.parts.now c.requires.among.all c.args.over c.args.first c.in-Some.field-0 c.requires.first c.in-Some.ensures

pub returns-in-None : goal.returns-in-None
returns-in-None c = only_first c.args.cast.now.h.now c.keeps.ensures c.args.cast.now.c c.args.cast.now.target c.args.cast.now.view.now c.args.cast.now.source.now c.requires.among.view c.args.cast.now.parts.now c.requires.among.all c.args.over c.args.first c.requires.first c.in-None.ensures
