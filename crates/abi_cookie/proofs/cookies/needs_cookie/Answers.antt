use Rattle.std.proofs.Common.{◌≡◌, ◌<◌, ◌≤◌, ◌∙◌, length, arith}
use Rattle.std.proofs.lemmas.List.{length-set}
use Rattle.abi_cookie.proofs.Marking.{marked_set}
use Rattle.abi_cookie.proofs.cookies.needs_cookie.Goals as goal

pub loop-number-preserved : goal.loop-number-preserved
loop-number-preserved c =
    let size : length c.loop-number.marks ≡ 1024 = c.loop-number.invariant.size in
    let few : length c.args.h.now ≤ 1024 = c.keeps.ensures.few in
    let known = c.requires in
    let lt : c.loop-number.number < length c.loop-number.marks = omega arith in
    record {
      size = length-set c.loop-number.marks c.loop-number.number c.has_destructor.result ∙ size;
      marked = marked_set c.args.h.now c.keeps.ensures c.loop-number.marks c.loop-number.number c.class.result.now c.has_destructor.result lt c.class.ensures c.loop-number.invariant.marked c.has_destructor.ensures;
    }
