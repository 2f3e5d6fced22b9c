use Rattle.std.proofs.Common.{Some, None, sym, ◌∙◌}
use Rattle.abi_primary.proofs.HolderLemmas.{holder_at, no_holder, held}
use Rattle.abi_primary.proofs.holders.holder_of.Goals as goal

pub returns-in-Some-clause-first : goal.returns-in-Some-clause-first
returns-in-Some-clause-first c =
    sym (holder_at c.args.h.now c.args.primaries.now c.args.c c.args.v c.as_slice-subobjects.result.now c.in-Some.n c.index-subobjects-n.result c.in_ok-subobject_below-in-Some.field-0 (c.as_slice-subobjects.ensures ∙ c.in_ok-list.ensures.preorder) (sym c.holder_among.ensures ∙ c.in-Some.is) c.index-subobjects-n.is c.in_ok-subobject_below-in-Some.ensures)

pub returns-in-Some-clause-held : goal.returns-in-Some-clause-held
returns-in-Some-clause-held c =
    let holder = holder_at c.args.h.now c.args.primaries.now c.args.c c.args.v c.as_slice-subobjects.result.now c.in-Some.n c.index-subobjects-n.result c.in_ok-subobject_below-in-Some.field-0 (c.as_slice-subobjects.ensures ∙ c.in_ok-list.ensures.preorder) (sym c.holder_among.ensures ∙ c.in-Some.is) c.index-subobjects-n.is c.in_ok-subobject_below-in-Some.ensures in
    held c.args.h.now c.args.primaries.now c.args.c c.args.v c.in_ok-list.list (Some c.in_ok-subobject_below-in-Some.field-0) c.in_ok-list.ensures.preorder c.in_ok-list.ensures.lists holder

pub returns-clause-first : goal.returns-clause-first
returns-clause-first c = sym (no_holder c.args.h.now c.args.primaries.now c.args.c c.args.v c.as_slice-subobjects.result.now (c.as_slice-subobjects.ensures ∙ c.in_ok-list.ensures.preorder) (sym c.holder_among.ensures ∙ c.in-None.is))

pub returns-clause-held : goal.returns-clause-held
returns-clause-held c =
    let none = no_holder c.args.h.now c.args.primaries.now c.args.c c.args.v c.as_slice-subobjects.result.now (c.as_slice-subobjects.ensures ∙ c.in_ok-list.ensures.preorder) (sym c.holder_among.ensures ∙ c.in-None.is) in
    held c.args.h.now c.args.primaries.now c.args.c c.args.v c.in_ok-list.list None c.in_ok-list.ensures.preorder c.in_ok-list.ensures.lists none
