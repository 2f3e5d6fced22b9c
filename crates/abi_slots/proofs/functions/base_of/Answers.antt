use Rattle.std.proofs.Common.{sym, ◌∙◌}
use Rattle.abi_slots.proofs.Loops.{base_found, base_missing, base_valid}
use Rattle.abi_slots.proofs.functions.base_of.Goals as goal

pub returns-in-Some-clause-base : goal.returns-in-Some-clause-base
returns-in-Some-clause-base c = base_found c.args.h.now c.args.x c.args.y c.as_slice-subobjects.result.now c.in-Some.n c.index-subobjects-n.result c.in_ok-subobject_below-in-Some.field-0 (c.as_slice-subobjects.ensures ∙ c.in_ok-list.ensures.preorder) (sym c.number_of_class.ensures ∙ c.in-Some.is) c.index-subobjects-n.is c.in_ok-subobject_below-in-Some.ensures

pub returns-in-Some-clause-valid : goal.returns-in-Some-clause-valid
returns-in-Some-clause-valid c = base_valid c.args.h.now c.args.x c.as_slice-subobjects.result.now c.in-Some.n c.index-subobjects-n.result c.in_ok-subobject_below-in-Some.field-0 c.in_ok-list.list c.args.y c.as_slice-subobjects.ensures c.in_ok-list.ensures.lists (sym c.number_of_class.ensures ∙ c.in-Some.is) c.index-subobjects-n.is c.in_ok-subobject_below-in-Some.ensures

pub returns-clause-base : goal.returns-clause-base
returns-clause-base c = base_missing c.args.h.now c.args.x c.args.y c.as_slice-subobjects.result.now (c.as_slice-subobjects.ensures ∙ c.in_ok-list.ensures.preorder) (sym c.number_of_class.ensures ∙ c.in-None.is)
