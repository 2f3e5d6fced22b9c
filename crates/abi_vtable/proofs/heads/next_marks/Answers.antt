use Rattle.std.proofs.Common.{arith}
use Rattle.abi_vtable.proofs.Marks.{none_marked, one_more_marked, all_marked}
use Rattle.abi_vtable.proofs.heads.next_marks.Goals as goal

pub loop-part-init : goal.loop-part-init
loop-part-init c = none_marked c.args.parts.now c.in_ok-marks.marks.items c.in_ok-marks.ensures

pub loop-part-preserved : goal.loop-part-preserved
loop-part-preserved c = one_more_marked c.args.parts.now c.loop-part.part-index c.part-item.result c.loop-part.marks.items c.mark.new.marks.items c.loop-part-test.true c.part-item.is c.mark.ensures.size c.mark.ensures.each c.loop-part.invariant

pub returns : goal.returns
returns c = all_marked c.args.parts.now c.loop-part.part-index c.loop-part.marks.items (let e = c.loop-part-test.false in omega arith) c.loop-part.invariant
