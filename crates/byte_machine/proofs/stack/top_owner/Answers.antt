use Rattle.std.proofs.Common.{◌∷◌, [], reverse, ap, ◌∙◌}
use Rattle.std.proofs.lemmas.List.{reverse-append}
use Rattle.byte_machine.proofs.stack.top_owner.Goals as goal

pub returns : goal.returns
returns c =
    let rest = c.in_ok-owner.field-0-1.now in
    (reverse rest, ap reverse c.in_ok-owner.ensures.cases.0 ∙ reverse-append rest (c.in_ok-owner.owner.now ∷ []))
