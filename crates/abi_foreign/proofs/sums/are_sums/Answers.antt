use Rattle.std.proofs.Common.{◌∙◌, ℕ, List, length, arith, sym, ap, subst}
use Rattle.std.specs.Prelude.{slice_get}
use Rattle.foundation.proofs.Truth.{not_both}
use Rattle.cxx_subobject.specs.declared.Subobject.{Subobject}
use Rattle.abi_print.specs.LayoutTexts.{proper}
use Rattle.abi_foreign.specs.invariants.Sums.{AreSumsOf}
use Rattle.abi_foreign.proofs.SumFacts.{no_sums, sums_next, sums_all}
use Rattle.abi_foreign.proofs.sums.are_sums.Goals as goal

pub loop-n-init : goal.loop-n-init
loop-n-init c = no_sums c.args.h.now c.args.rows.now c.args.c c.proper_of-list.result.now c.as_slice-places.result.now

pub nth_place-requires : goal.nth_place-requires
nth_place-requires c =
    let lt = c.loop-n-test.true in
    let each = c.requires.each in
    let list = ap (λ (l : List Subobject). length l) (c.proper_of-list.ensures ∙ ap proper c.as_slice.ensures) in
    let places = ap (λ (l : List ℕ). length l) c.as_slice-places.ensures in
    omega (arith, lt, each, list, places)

pub returns-then-not-is_place-clause-no : goal.returns-then-not-is_place-clause-no
returns-then-not-is_place-clause-no c = λ off. record {
  number = c.loop-n.n;
  s = c.nth_subobject.result.now;
  place = c.nth_place.result;
  there = ap (λ (l : List Subobject). slice_get l c.loop-n.n) (sym (c.proper_of-list.ensures ∙ ap proper c.as_slice.ensures)) ∙ c.nth_subobject.ensures;
  said = ap (λ (l : List ℕ). slice_get l c.loop-n.n) (sym c.as_slice-places.ensures) ∙ c.nth_place.ensures;
  other = λ e. not_both (c.is_place.ensures.1 e) c.if-not-is_place.true;
}

pub loop-n-preserved : goal.loop-n-preserved
loop-n-preserved c =
    sums_next c.args.h.now c.args.rows.now c.args.c c.proper_of-list.result.now c.as_slice-places.result.now c.loop-n.n c.nth_subobject.result.now c.nth_place.result c.loop-n.invariant
    c.nth_subobject.ensures c.nth_place.ensures (c.is_place.ensures.0 c.if-not-is_place.false)

pub returns-clause-yes : goal.returns-clause-yes
returns-clause-yes c = λ on.
    let list = c.proper_of-list.ensures ∙ ap proper c.as_slice.ensures in
    let past = c.loop-n-test.false in
    let each = c.requires.each in
    let count = ap (λ (l : List Subobject). length l) list in
    let places = ap (λ (l : List ℕ). length l) c.as_slice-places.ensures in
    subst (λ (l : List Subobject). AreSumsOf c.args.h.now c.args.rows.now c.args.c l c.args.said.now.places) list
    (subst (λ (p : List ℕ). AreSumsOf c.args.h.now c.args.rows.now c.args.c c.proper_of-list.result.now p) c.as_slice-places.ensures
    (sums_all c.args.h.now c.args.rows.now c.args.c c.proper_of-list.result.now c.as_slice-places.result.now c.loop-n.n (omega (arith, each, count, places)) (omega (arith, past)) c.loop-n.invariant))
