use Rattle.std.proofs.Common.{◌∙◌, ap}
use Rattle.cxx_overrider.specs.declared.FunctionId.{FunctionId}
use Rattle.cxx_overrider.specs.Virtuals.{is_virtual}
use Rattle.abi_slots.proofs.Complete.{test_is}
use Rattle.code_statements.proofs.deletes.is_virtual_end.Goals as goal

pub returns : goal.returns
returns g c =
    let h = c.args.site.now.h.now in
    test_is h c.keeps.ensures c.destructor_of.result c.is_virtual.result (c.is_virtual.ensures h c.requires.overriders) ∙ ap (λ (f : FunctionId). is_virtual h f) c.destructor_of.ensures
