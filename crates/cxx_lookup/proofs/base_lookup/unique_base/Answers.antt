-- The first of the class, and whether another follows.
use Rattle.std.proofs.Common.{◌∙◌, sym, ap, subst, List, length, take, drop, ◌+◌, ◌-◌}
use Rattle.std.specs.Prelude.{position}
use Rattle.cxx_subobject.specs.declared.Subobject.{Subobject}
use Rattle.cxx_subobject.specs.Preorder.{ListsSubobjects}
use Rattle.cxx_subobject.specs.Subobjects.{is_of_class}
use Rattle.cxx_lookup.proofs.OfClass.{none_of_class, two_by_test, one_by_test}
use Rattle.cxx_lookup.proofs.base_lookup.unique_base.Goals as goal

pub returns-in_default-clause-err : goal.returns-in_default-clause-err
returns-in_default-clause-err c =
    let lists = subst (ListsSubobjects c.args.h.now c.args.c) (sym c.into_vec-parts.ensures) c.in_ok-list_subobjects.ensures.lists in
    let first = ap (position (is_of_class c.args.base)) (sym c.deref.ensures.value) ∙ sym c.in_default.ensures in
    none_of_class c.args.h.now c.args.c c.args.base c.into_vec-parts.result.items lists first

pub returns-then-is_some-clause-err : goal.returns-then-is_some-clause-err
returns-then-is_some-clause-err c =
    let lists = subst (ListsSubobjects c.args.h.now c.args.c) (sym c.into_vec-parts.ensures) c.in_ok-list_subobjects.ensures.lists in
    let first = ap (position (is_of_class c.args.base)) (sym c.deref.ensures.value) ∙ sym c.in-Some.ensures in
    let rest = c.first_of_class-2.ensures ∙ ap (λ (xs : List Subobject). position (is_of_class c.args.base) (take (length xs - (c.in-Some.number + 1)) (drop (c.in-Some.number + 1) xs))) c.deref-2.ensures.value in
    two_by_test c.args.h.now c.args.c c.args.base c.into_vec-parts.result.items c.in-Some.number c.first_of_class-2.result c.is_some.result lists first rest c.is_some.ensures c.if-is_some.true

pub returns-clause-ok : goal.returns-clause-ok
returns-clause-ok c =
    let lists = subst (ListsSubobjects c.args.h.now c.args.c) (sym c.into_vec-parts.ensures) c.in_ok-list_subobjects.ensures.lists in
    let first = ap (position (is_of_class c.args.base)) (sym c.deref.ensures.value) ∙ sym c.in-Some.ensures in
    let rest = c.first_of_class-2.ensures ∙ ap (λ (xs : List Subobject). position (is_of_class c.args.base) (take (length xs - (c.in-Some.number + 1)) (drop (c.in-Some.number + 1) xs))) c.deref-2.ensures.value in
    one_by_test c.args.h.now c.args.c c.args.base c.into_vec-parts.result.items c.in-Some.number c.swap_remove.result c.first_of_class-2.result c.is_some.result lists first c.swap_remove.ensures.value rest c.is_some.ensures c.if-is_some.false
