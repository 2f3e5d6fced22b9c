use Rattle.std.proofs.Common.{subst, sym, arith}
use Rattle.abi_vtable.specs.invariants.Parts.{AreStarts}
use Rattle.abi_vtable.proofs.Parts.{start_more, starts_all}
use Rattle.abi_vtable.proofs.view.starts_of.Goals as goal

pub loop-n-preserved : goal.loop-n-preserved
loop-n-preserved c = start_more c.loop-n.starts.items c.note_start.new.starts.items c.args.parts.now c.loop-n.n c.index-parts-n.result c.loop-n-test.true c.index-parts-n.is c.note_start.ensures.kept c.note_start.ensures.noted c.loop-n.invariant

pub returns : goal.returns
returns c = subst (λ xs. AreStarts xs c.args.parts.now) (sym c.from_vec.ensures) (starts_all c.loop-n.starts.items c.args.parts.now c.loop-n.n (let e = c.loop-n-test.false in omega arith) c.loop-n.invariant)
