use Rattle.std.proofs.Common.{[], ◌∙◌, ap, sym, subst}
use Rattle.cxx_subobject.specs.declared.Subobject.{Subobject}
use Rattle.cxx_subobject.specs.Subobjects.{IsSubobject, whole, class_of}
use Rattle.cxx_search.specs.Searches.{is_public_in}
use Rattle.cxx_search.proofs.Walks.{public_walk, walk_public}
use Rattle.foundation.proofs.Truth.{same_test}
use Rattle.code_statements.proofs.hints.is_public.Goals as goal

pub is_public_base-requires-clause-outer : goal.is_public_base-requires-clause-outer
is_public_base-requires-clause-outer c = subst (λ (s : Subobject). IsSubobject c.args.h.now c.args.c s) (sym c.requires.whole) (whole [] tt)

pub returns : goal.returns
returns c =
    let h = c.args.h.now in
    let x = c.args.whole.now in
    same_test _ (is_public_in h x c.args.s.now) c.is_public_base.ensures
    (public_walk h x c.args.s.now, walk_public h c.keeps.ensures c.args.c x c.args.s.now (ap class_of c.requires.whole))
    ∙ ap (λ (s : Subobject). is_public_in h s c.args.s.now) c.requires.whole
