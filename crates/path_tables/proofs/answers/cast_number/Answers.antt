use Rattle.path_tables.proofs.Answering.{cast_none, cast_some}
use Rattle.path_tables.proofs.answers.cast_number.Goals as goal

pub returns-in-Some : goal.returns-in-Some
returns-in-Some c = cast_some c.args.h.now c.keeps.ensures c.args.key c.in_ok-x.x.now c.in_ok-y.y.now c.as_slice.result.now c.args.list.now c.in-Some.place c.number_at.result c.in_ok-x.ensures c.in_ok-y.ensures c.requires c.as_slice.ensures
    c.in-Some.ensures c.number_at.ensures

pub returns-in-None : goal.returns-in-None
returns-in-None c = cast_none c.args.h.now c.keeps.ensures c.args.key c.in_ok-x.x.now c.in_ok-y.y.now c.as_slice.result.now c.in_ok-x.ensures c.in_ok-y.ensures c.in-None.ensures
