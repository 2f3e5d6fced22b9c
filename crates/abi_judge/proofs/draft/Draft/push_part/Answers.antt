use Rattle.std.proofs.Common.{◌∙◌, [], ◌∷◌, ◌++◌, ap}
use Rattle.abi_judge.specs.declared.things.PlacedPart.{PlacedPart}
use Rattle.abi_judge.specs.declared.things.Thing.TheVariants.{Part}
use Rattle.abi_judge.proofs.draft.Draft.push_part.Goals as goal

pub returns : goal.returns
returns c = c.in_ok-push.ensures.items ∙ ap (λ (p : PlacedPart). c.args.things.now.items ++ Part p ∷ []) c.part.ensures
