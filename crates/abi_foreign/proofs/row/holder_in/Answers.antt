use Rattle.std.proofs.Common.{◌∙◌, sym}
use Rattle.abi_primary.specs.PrimaryBase.{has_primary}
use Rattle.abi_foreign.proofs.Positions.{copy_found, nowhere}
use Rattle.abi_foreign.proofs.row.holder_in.Goals as goal

pub returns-in_ok-subobject_below-in-Some : goal.returns-in_ok-subobject_below-in-Some
returns-in_ok-subobject_below-in-Some c =
    copy_found (has_primary c.args.primaries.now c.args.v) c.args.list.now c.in-Some.n c.index-list-n.result c.in_ok-subobject_below-in-Some.field-0 (sym c.holder_among.ensures ∙ c.in-Some.is) c.index-list-n.is c.in_ok-subobject_below-in-Some.ensures

pub returns-in-None : goal.returns-in-None
returns-in-None c = sym (nowhere (has_primary c.args.primaries.now c.args.v) c.args.list.now (sym c.holder_among.ensures ∙ c.in-None.is))
