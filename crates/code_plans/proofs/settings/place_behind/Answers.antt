use Rattle.std.proofs.Common.{subst, sym, ◌∙◌}
use Rattle.std.proofs.lemmas.List.{append-nil}
use Rattle.cxx_subobject.specs.declared.Root.TheVariants.{Whole}
use Rattle.cxx_subobject.specs.Subobjects.{IsSubobject, subobject}
use Rattle.code_plans.proofs.settings.place_behind.Goals as goal

pub place-requires-clause-subobject : goal.place-requires-clause-subobject
place-requires-clause-subobject g c =
    let same = c.in_ok-path.ensures ∙ append-nil c.as_slice.result.now ∙ c.as_slice.ensures in
    subst (λ path. IsSubobject c.args.site.now.h.now c.args.v (subobject Whole path)) (sym same) c.requires.valid
