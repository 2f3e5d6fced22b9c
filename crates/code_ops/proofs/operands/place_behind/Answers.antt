use Rattle.std.proofs.Common.{◌∙◌, ◌++◌, [], ap}
use Rattle.code_ops.proofs.Bases.{behind_base}
use Rattle.code_ops.proofs.operands.place_behind.Goals as goal

pub place-requires-clause-known : goal.place-requires-clause-known
place-requires-clause-known g c =
    (behind_base c.args.site.now.h.now c.requires.laid.site.keeps c.args.c c.args.v c.args.i.now c.in_ok-path.path c.requires.base c.requires.shared (c.in_ok-path.ensures ∙ ap (λ (p : _). p ++ []) c.as_slice.ensures)).known

pub place-requires-clause-subobject : goal.place-requires-clause-subobject
place-requires-clause-subobject g c =
    (behind_base c.args.site.now.h.now c.requires.laid.site.keeps c.args.c c.args.v c.args.i.now c.in_ok-path.path c.requires.base c.requires.shared (c.in_ok-path.ensures ∙ ap (λ (p : _). p ++ []) c.as_slice.ensures)).valid
