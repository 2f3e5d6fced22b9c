use Rattle.std.proofs.Common.{sym, arith}
use Rattle.code_ops.proofs.BitFields.{width_fits, width_known}
use Rattle.code_ops.proofs.leaves.leaf_width.Goals as goal

pub overflow_cast-bits : goal.overflow_cast-bits
overflow_cast-bits g c = let few = width_fits c.args.h.now c.requires.keeps c.args.d c.args.m c.in-Some.n (sym c.in-Some.ensures) in omega arith

pub first_bit-requires : goal.first_bit-requires
first_bit-requires g c =
    let known = width_known c.args.h.now c.args.d c.args.m c.in-Some.n (sym c.in-Some.ensures) in
    let all = (g.met.L.SoundLayout.sound c.args.layout.now c.args.h.now c.requires.laid).full.one_each in
    omega arith
