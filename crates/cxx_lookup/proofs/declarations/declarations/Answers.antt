-- Each subobject's declaration is put behind those before it.
use Rattle.std.proofs.Common.{◌+◌, sym, subst, List, Vec, Global}
use Rattle.std.proofs.lemmas.Option.{MatchOption-at_some, MatchOption-at_none}
use Rattle.cxx_subobject.specs.Preorder.{ListsSubobjects}
use Rattle.cxx_lookup.specs.declared.Found.{Found}
use Rattle.cxx_lookup.specs.invariants.Searches.{IsDeclaredAt}
use Rattle.cxx_lookup.proofs.Gathered.{AreGathered, none_yet, none_more, one_more, all_gathered}
use Rattle.cxx_lookup.proofs.declarations.declarations.Goals.{in-Some+in_ok-push, in_default}
use Rattle.cxx_lookup.proofs.declarations.declarations.Goals as goal

pub loop-s-init : goal.loop-s-init
loop-s-init c = none_yet c.args.h.now c.args.c c.args.name.now c.as_slice-s-items.result.now c.new-list.result.items c.new-list.ensures.items

pub loop-s-preserved : goal.loop-s-preserved
loop-s-preserved c =
    let h = c.args.h.now in
    let parts = c.as_slice-s-items.result.now in
    let i = c.loop-s.s-index in
    let s = c.s-item.result in
    let lists = subst (ListsSubobjects h c.args.c) (sym c.as_slice-s-items.ensures) c.in_ok-parts.ensures.lists in
    let valid = lists.valid s (i, c.loop-s-test.true, sym c.s-item.is) in
    let more : List Found → Type 0 = λ list. AreGathered h c.args.c c.args.name.now parts (i + 1) list in
    elim c.match-branch-3.branch [
      | in-Some+in_ok-push w ↦ subst (λ (v : Vec Found Global). more v.items) (sym w.list-is) (subst more (sym w.in_ok-push.ensures.items)
          (one_more h c.keeps.ensures c.args.c c.args.name.now parts i c.loop-s.list.items s w.in-Some.found c.loop-s-test.true c.s-item.is valid
          (MatchOption-at_some ((f : Found) → IsDeclaredAt h s c.args.name.now f → ⊥) (IsDeclaredAt h s c.args.name.now) w.in-Some.found w.in-Some.is c.in_ok-found.ensures) c.loop-s.invariant))
      | in_default w ↦ subst (λ (v : Vec Found Global). more v.items) (sym w.list-is) (none_more h c.args.c c.args.name.now parts i c.loop-s.list.items s c.loop-s-test.true c.s-item.is
          (MatchOption-at_none _ (IsDeclaredAt h s c.args.name.now) w.in_default.is c.in_ok-found.ensures) c.loop-s.invariant)
    ]

pub returns : goal.returns
returns c =
    let lists = subst (ListsSubobjects c.args.h.now c.args.c) (sym c.as_slice-s-items.ensures) c.in_ok-parts.ensures.lists in
    all_gathered c.args.h.now c.args.c c.args.name.now c.as_slice-s-items.result.now c.loop-s.s-index c.loop-s.list.items lists c.loop-s-test.false c.loop-s.invariant
