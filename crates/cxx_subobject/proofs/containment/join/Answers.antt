use Rattle.std.proofs.Common.{◌≡◌, ◌++◌, [], subst, sym, ◌∙◌, ap}
use Rattle.std.proofs.lemmas.Result.{IfOk-weaker}
use Rattle.cxx_subobject.specs.declared.Subobject.{Subobject}
use Rattle.cxx_subobject.specs.Subobjects.{IsSubobject, subobject, tail_of}
use Rattle.cxx_subobject.proofs.InsideLemmas.{join_valid, join_shared, join_below}
use Rattle.cxx_subobject.proofs.containment.join.Goals as goal

pub returns-in-Shared-clause-valid : goal.returns-in-Shared-clause-valid
returns-in-Shared-clause-valid c =
    let valid = join_valid c.args._h.now c.args._c c.requires.inner.class c.args.outer.now c.args.inner.now c.requires.outer c.requires.inner.of_class c.requires.inner.valid in
    IfOk-weaker c.subobject_below.result (λ s. s ≡ subobject c.args.inner.now.root (c.args.inner.now.path ++ [])) (λ s. IsSubobject c.args._h.now c.args._c s)
    (λ s e. subst (λ (x : Subobject). IsSubobject c.args._h.now c.args._c x) (sym (e ∙ join_shared c.args.outer.now c.args.inner.now c.in-Shared.field-0 c.in-Shared.is)) valid) c.subobject_below.ensures

pub returns-in-Whole-clause-valid : goal.returns-in-Whole-clause-valid
returns-in-Whole-clause-valid c =
    let valid = join_valid c.args._h.now c.args._c c.requires.inner.class c.args.outer.now c.args.inner.now c.requires.outer c.requires.inner.of_class c.requires.inner.valid in
    IfOk-weaker c.subobject_below-in-Whole.result (λ s. s ≡ subobject c.args.outer.now.root (c.args.outer.now.path ++ c.classes_below.result.now)) (λ s. IsSubobject c.args._h.now c.args._c s)
    (λ s e. subst (λ (x : Subobject). IsSubobject c.args._h.now c.args._c x) (sym (e ∙ join_below c.args.outer.now c.args.inner.now c.classes_below.result.now c.in-Whole.is (c.classes_below.ensures ∙ ap tail_of c.as_slice.ensures))) valid) c.subobject_below-in-Whole.ensures
