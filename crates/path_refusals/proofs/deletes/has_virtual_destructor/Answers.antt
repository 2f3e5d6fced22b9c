use Rattle.std.proofs.Common.{◌∙◌, ap, sym}
use Rattle.cxx_overrider.specs.declared.FunctionId.{FunctionId}
use Rattle.cxx_overrider.specs.Virtuals.{is_virtual}
use Rattle.path_refusals.proofs.Owning.{virtual_is, last_index}
use Rattle.path_refusals.proofs.deletes.has_virtual_destructor.Goals as goal

pub returns : goal.returns
returns c =
    let f : FunctionId = record { class = c.args.c; index = c.len-2.result } in
    virtual_is c.args.world.now.h.now c.requires.world.hierarchy f c.is_virtual.result (c.is_virtual.ensures c.args.world.now.h.now c.requires.world.are_overriders)
    ∙ ap (is_virtual c.args.world.now.h.now) (sym (last_index c.args.world.now.h.now c.args.c c.class.result.now c.len-2.result c.class.ensures c.len-2.ensures))
