use Rattle.std.proofs.Common.{arith}
use Rattle.abi_vtable.proofs.Paths.{path_apart, other_end, same_end}
use Rattle.abi_vtable.proofs.view.is_path_below.Goals as goal

pub returns-then-path-count : goal.returns-then-path-count
returns-then-path-count c = path_apart c.args.path.now c.args.front.now c.args.last (λ e. let t = c.if-path-count.true in omega (arith, t, e))

pub returns-then-end-last : goal.returns-then-end-last
returns-then-end-last c = other_end c.args.path.now c.args.front.now c.args.last c.class_in-end.result (let t = c.if-path-count.false in omega (arith, t)) c.class_in-end.ensures (λ e. let t = c.if-end-last.true in omega (arith, t, e))

pub returns : goal.returns
returns c = same_end c.args.path.now c.args.front.now c.args.last c.class_in-end.result c.begins_as.result (let t = c.if-path-count.false in omega (arith, t)) c.class_in-end.ensures (let t = c.if-end-last.false in omega (arith, t)) c.begins_as.ensures
