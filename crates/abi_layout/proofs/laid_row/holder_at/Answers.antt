use Rattle.std.proofs.Common.{Some, sym, ap, ◌∙◌}
use Rattle.cxx_subobject.proofs.InsideLemmas.{copied}
use Rattle.abi_layout.proofs.algorithm.SettledLemmas.{held_here}
use Rattle.abi_layout.proofs.laid_row.holder_at.Goals as goal

pub returns-in_ok-subobject_below-in-Some : goal.returns-in_ok-subobject_below-in-Some
returns-in_ok-subobject_below-in-Some c =
    ap (λ s. Some s) (copied c.index-list-n.result c.in_ok-subobject_below-in-Some.field-0 c.in_ok-subobject_below-in-Some.ensures)
    ∙ sym (held_here c.args.list.now c.args.holders.now c.args.v.0 c.in-Some.n c.index-list-n.result c.in-Some.ensures (c.requires c.in-Some.n (sym c.in-Some.ensures)) c.index-list-n.is)
