use Rattle.std.proofs.Common.{◌≡◌, List, arith, subst, sym}
use Rattle.std.proofs.lemmas.Result.{err_from_is_err_and}
use Rattle.abi_sound.specs.declared.class_layout.ClassLayout.{ClassLayout}
use Rattle.abi_layout.specs.Refusals.{IsWellLaid}
use Rattle.abi_layout.proofs.algorithm.NextSteps.{well_laid, first_stop}
use Rattle.abi_layout.proofs.class_layouts.lay_out_first.Goals as goal

pub loop-n-init : goal.loop-n-init
loop-n-init c = c.none_laid-so_far.ensures c.args.h.now

pub returns-in_err-lay_out_next-clause-stop : goal.returns-in_err-lay_out_next-clause-stop
returns-in_err-lay_out_next-clause-stop c =
    let p = err_from_is_err_and c.from_residual-in_err-lay_out_next.result c.from_residual-in_err-lay_out_next.ensures.1 in
    let s = c.loop-n.so_far in
    rw (p.1, p.2) (first_stop c.args.h.now c.loop-n.n c.args.count s.rows.items s.known.items s.members.items s.nearly.items s.primaries.items c.in_err-lay_out_next.field-0.0 c.loop-n-test.true c.loop-n.invariant c.in_err-lay_out_next.ensures.stop)

pub returns-clause-laid : goal.returns-clause-laid
returns-clause-laid c =
    let s = c.loop-n.so_far in
    let end = c.loop-n.auto.n-end in
    let is : c.loop-n.n ≡ c.args.count = omega (arith, c.loop-n-test.false, end) in
    subst (λ (xs : List ClassLayout). IsWellLaid c.args.h.now c.args.count xs) (sym c.from_rows.ensures)
    (subst (λ n. IsWellLaid c.args.h.now n s.rows.items) is (well_laid c.args.h.now c.loop-n.n s.rows.items s.known.items s.members.items s.nearly.items s.primaries.items c.loop-n.invariant))
