use Rattle.std.proofs.Common.{◌≡◌, false, None, [], ◌∷◌, refl}
use Rattle.path_model.specs.Values.{Unset, Number, Null}
use Rattle.path_model.specs.Uses.{Deletes}
use Rattle.path_model.specs.Rules.{refused, names, is_unready}
use Rattle.path_refusals.proofs.Reading.{unset_case, null_case, number_case}
use Rattle.path_refusals.proofs.Owning.{off_delete}
use Rattle.path_refusals.proofs.deletes.deleted_of.Goals as goal

pub returns-in-Unset : goal.returns-in-Unset
returns-in-Unset c = λ h s x stands m e. unset_case h s.classes (λ x. names (is_unready s) x ≡ false → None ≡ refused h s (Deletes x c.args.is_virtual ∷ [])) (λ e. off_delete h s Unset c.args.is_virtual refl) c.args.v c.in-Unset.is x m e

pub returns-in-Number : goal.returns-in-Number
returns-in-Number c = λ h s x stands m e. number_case h s.classes (λ x. names (is_unready s) x ≡ false → None ≡ refused h s (Deletes x c.args.is_virtual ∷ [])) (λ z e. off_delete h s (Number z) c.args.is_virtual refl) c.args.v c.in-Number.field-0 c.in-Number.is x m e

pub returns-in-Null : goal.returns-in-Null
returns-in-Null c = λ h s x stands m e. null_case h s.classes (λ x. names (is_unready s) x ≡ false → None ≡ refused h s (Deletes x c.args.is_virtual ∷ [])) (λ e. off_delete h s Null c.args.is_virtual refl) c.args.v c.in-Null.is x m e
