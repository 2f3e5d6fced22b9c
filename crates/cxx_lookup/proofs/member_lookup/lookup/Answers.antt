-- The highest declaration, and whether one is left that it does not hide.
use Rattle.std.proofs.Common.{subst, List, length, arith, None}
use Rattle.std.specs.Prelude.{slice_get}
use Rattle.std.proofs.lemmas.Option.{slice_get_within}
use Rattle.cxx_lookup.specs.declared.Found.{Found}
use Rattle.cxx_lookup.specs.invariants.Searches.{IsHighest}
use Rattle.cxx_lookup.proofs.Highest.{IsOrder, Tells, found_once, found_twice}
use Rattle.cxx_lookup.proofs.member_lookup.lookup.Goals as goal

pub returns-then-is_some-clause-err : goal.returns-then-is_some-clause-err
returns-then-is_some-clause-err c =
    let h = c.args.h.now in
    let order : IsOrder h = record { itself = c.containment_is_order.ensures.itself h; through = c.containment_is_order.ensures.through h; back = λ s t. c.containment_is_order.ensures.back h s t c.keeps.ensures } in
    let first = subst (λ (xs : List Found). IsHighest h None xs (length xs) c.in-Some.best) c.deref.ensures.value c.in-Some.ensures in
    let second = subst (λ (xs : List Found). Tells h (slice_get xs c.in-Some.best) xs (length xs) c.highest-2.result) c.deref-2.ensures.value c.highest-2.ensures in
    found_twice h c.keeps.ensures order c.args.c c.args.name.now c.in_ok-list.list.items c.in-Some.best c.highest-2.result c.is_some.result c.in_ok-list.ensures first second c.is_some.ensures c.if-is_some.true

pub swap_remove-requires : goal.swap_remove-requires
swap_remove-requires c =
    let within = slice_get_within c.deref.result.now c.in-Some.best c.in-Some.ensures.found c.in-Some.ensures.there in
    omega (arith, c.deref.ensures.len)

pub returns-clause-ok : goal.returns-clause-ok
returns-clause-ok c =
    let h = c.args.h.now in
    let first = subst (λ (xs : List Found). IsHighest h None xs (length xs) c.in-Some.best) c.deref.ensures.value c.in-Some.ensures in
    let second = subst (λ (xs : List Found). Tells h (slice_get xs c.in-Some.best) xs (length xs) c.highest-2.result) c.deref-2.ensures.value c.highest-2.ensures in
    found_once h c.keeps.ensures c.args.c c.args.name.now c.in_ok-list.list.items c.in-Some.best c.swap_remove.result c.highest-2.result c.is_some.result c.in_ok-list.ensures first c.swap_remove.ensures.value second c.is_some.ensures c.if-is_some.false
