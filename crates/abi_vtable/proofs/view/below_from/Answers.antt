use Rattle.std.proofs.Common.{◌∷◌, [], ◌++◌, ◌≡◌, ◌≤◌, Some, ap, sym, ◌∙◌, subst, below_more, arith, true}
use Rattle.std.specs.List.{slice_get}
use Rattle.std.proofs.lemmas.Option.{slice_get_within}
use Rattle.foundation.proofs.Truth.{not_both}
use Rattle.foundation.proofs.Places.{get_read}
use Rattle.cxx_subobject.proofs.TreeLemmas.{subobject_same, same_itself}
use Rattle.cxx_subobject.specs.declared.Subobject.{Subobject}
use Rattle.cxx_hierarchy.specs.declared.records.ClassId.{ClassId}
use Rattle.cxx_subobject.specs.Subobjects.{same_subobject, subobject}
use Rattle.abi_slots.proofs.Chains.{same_some}
use Rattle.abi_vtable.proofs.view.below_from.Goals as goal

abbrev below : Subobject → ClassId → Subobject
below s b = subobject s.root (s.path ++ b ∷ [])

pub returns-then-is_below : goal.returns-then-is_below
returns-then-is_below c = get_read c.args.list.now c.loop-n.n c.index-list-n.result c.loop-n-test.true c.index-list-n.is ∙ ap (λ a. Some a) (subobject_same c.index-list-n.result (below c.args.s.now c.args.b) (sym c.is_below.ensures ∙ c.if-is_below.true))

pub loop-n-preserved : goal.loop-n-preserved
loop-n-preserved c =
    let item = c.index-list-n.result in
    let target = below c.args.s.now c.args.b in
    below_more (λ k. c.args.from ≤ k → slice_get c.args.list.now k ≡ Some target → ⊥) c.loop-n.n c.loop-n.invariant
    (λ ge e.
    let same : item ≡ target = same_some item target (sym (get_read c.args.list.now c.loop-n.n item c.loop-n-test.true c.index-list-n.is) ∙ e) in
    not_both (subst (λ (a : Subobject). same_subobject item a ≡ true) same (same_itself item)) (sym c.is_below.ensures ∙ c.if-is_below.false))

pub returns : goal.returns
returns c = λ i ge e. let lt = slice_get_within c.args.list.now i (below c.args.s.now c.args.b) e in c.loop-n.invariant i (omega arith) ge e
