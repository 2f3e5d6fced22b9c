use Rattle.path_tables.proofs.Numbered.{not_listed, numbered_at}
use Rattle.path_tables.proofs.parts.part_at.Goals as goal

pub returns-in-Some : goal.returns-in-Some
returns-in-Some c = numbered_at c.args.h.now c.args.c c.args.x c.in-Some.place c.args.list.now c.deref.result.now c.as_slice.result.now c.index-as_slice-place.result c.requires c.deref.ensures.value c.as_slice.ensures c.in-Some.ensures.0
    c.in-Some.ensures.1 c.index-as_slice-place.is

pub returns-in-None : goal.returns-in-None
returns-in-None c = not_listed c.args.h.now c.keeps.ensures c.args.c c.args.x c.args.list.now c.deref.result.now c.requires c.deref.ensures.value c.in-None.ensures
