use Rattle.abi_judge.proofs.Told.{at_held, not_held}
use Rattle.abi_judge.proofs.draft.Draft.lies_at_held.Goals as goal

pub returns-then-is_same : goal.returns-then-is_same
returns-then-is_same c =
    at_held c.args.self.now.h.now c.args.self.now.rows.now c.args.c c.args.v c.args.s.now c.in-Some.t.now c.is_same.result c.virtual_place.result c.place.result c.in-Some.ensures c.is_same.ensures c.if-is_same.true c.virtual_place.ensures.is c.place.ensures.is

pub returns-else-is_same : goal.returns-else-is_same
returns-else-is_same c =
    not_held c.args.self.now.h.now c.args.self.now.rows.now c.args.c c.args.v c.args.s.now c.in-Some.t.now c.is_same.result c.in-Some.ensures c.is_same.ensures c.if-is_same.false
