use Rattle.std.proofs.Common.{◌≡◌, ◌-◌, None, ◌++◌, length, replicate, ap, ◌∙◌, arith}
use Rattle.byte_machine.proofs.Unset.{unset_rest}
use Rattle.byte_machine.proofs.entering.fill_up.Goals as goal

pub returns : goal.returns
returns c =
    let size = c.args.setup.now.size in
    let count : c.len-count.result ≡ length c.args.registers.now.items = omega (arith, c.len-count.ensures) in
    let rest = unset_rest size c.len-count.result c.args.setup.now.unset.items c.deref.result.now c.deref.ensures.value c.args.setup.now.cleared ∙ ap (λ n. replicate (size - n) None) count in
    c.in_ok-extend_from_slice.ensures.items ∙ ap (λ xs. c.args.registers.now.items ++ xs) rest
