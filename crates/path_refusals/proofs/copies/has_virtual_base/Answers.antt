use Rattle.std.proofs.Common.{◌∙◌, ap}
use Rattle.std.specs.Prelude.{nat_lt}
use Rattle.path_plan.specs.declared.form.Form.TheVariants.{AsBase}
use Rattle.path_numbers.specs.Sizes.{sizes_of}
use Rattle.path_refusals.proofs.Covering.{has_virtual_is}
use Rattle.path_refusals.proofs.copies.has_virtual_base.Goals as goal

pub returns : goal.returns
returns c =
    ap (λ k. nat_lt k c.in_full.result) (c.as_base.ensures c.args.world.now.h.now c.requires.world.are_numbers)
    ∙ (ap (λ k. nat_lt (sizes_of c.args.world.now.h.now AsBase c.args.c) k) (c.in_full.ensures c.args.world.now.h.now c.requires.world.are_numbers) ∙ has_virtual_is c.args.world.now.h.now c.requires.world.hierarchy c.args.c)
