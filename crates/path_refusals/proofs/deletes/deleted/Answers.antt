use Rattle.std.proofs.Common.{◌∙◌, [], ◌∷◌, ap, sym, not}
use Rattle.path_model.specs.Values.{Pointer}
use Rattle.path_model.specs.Uses.{Deletes}
use Rattle.path_model.specs.Rules.{refused}
use Rattle.path_refusals.proofs.Reading.{begun_of}
use Rattle.path_refusals.proofs.Owning.{base_deleted, whole_deleted}
use Rattle.path_refusals.proofs.deletes.deleted.Goals as goal

pub returns-then-is_virtual : goal.returns-then-is_virtual
returns-then-is_virtual c = λ h s p stands q e. c.owned.ensures h s p stands q e ∙ ap (λ b. refused h s (Deletes (Pointer p) b ∷ [])) (sym c.if-is_virtual.true)

pub returns-then-is_whole : goal.returns-then-is_whole
returns-then-is_whole c = λ h s p stands q e.
    c.owned-then-is_whole.ensures h s p stands q e ∙ (whole_deleted h s p (c.is_whole.ensures h s p stands q (begun_of s p e) ∙ ap not c.if-is_whole.true) ∙ ap (λ b. refused h s (Deletes (Pointer p) b ∷ [])) (sym c.if-is_virtual.false))

pub returns-else-is_whole : goal.returns-else-is_whole
returns-else-is_whole c = λ h s p stands q e.
    base_deleted h s p (c.is_whole.ensures h s p stands q (begun_of s p e) ∙ ap not c.if-is_whole.false) ∙ ap (λ b. refused h s (Deletes (Pointer p) b ∷ [])) (sym c.if-is_virtual.false)
