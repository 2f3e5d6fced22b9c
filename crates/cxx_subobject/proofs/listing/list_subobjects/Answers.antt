use Rattle.std.proofs.Common.{◌≡◌, ◌+◌, ◌++◌, ◌∷◌, [], List, length, ap, subst, sym, ◌∙◌, replicate, false, Bool}
use Rattle.std.proofs.lemmas.List.{length-replicate}
use Rattle.cxx_hierarchy.specs.declared.records.ClassId.{ClassId}
use Rattle.cxx_subobject.specs.declared.Root.TheVariants.{Whole}
use Rattle.cxx_subobject.specs.declared.Subobject.{Subobject}
use Rattle.cxx_subobject.specs.Subobjects.{subobject, whole_of}
use Rattle.cxx_subobject.specs.Preorder.{tree, ListsSubobjects}
use Rattle.cxx_subobject.specs.invariants.Walks.{with_new, IsFresh, AreSharedMarks, IsPlaced, IsClosed}
use Rattle.cxx_subobject.proofs.TreeLemmas.{preorder_lists}
use Rattle.cxx_subobject.proofs.WalkLemmas.{fresh_start, closed_start, marks_start, walked_whole, whole_placed}
use Rattle.cxx_subobject.proofs.listing.list_subobjects.Goals as goal

whole_is : (path : List ClassId) (c : ClassId) → path ≡ c ∷ [] → subobject Whole path ≡ whole_of c
whole_is path c e = ap (λ (p : List ClassId). subobject Whole p) e

pub visit-requires : goal.visit-requires
visit-requires c =
    let h = c.args.h.now in
    let whole = sym (whole_is c.in_ok-longer_path.field-0 c.args.c c.in_ok-longer_path.ensures) in
    let none = c.new-found.ensures.items in
    let marks : c.deref_mut.result.now ≡ replicate c.len.result false = c.deref_mut.ensures.value ∙ c.in_ok-marks.ensures in
    record {
      known = c.requires;
      size = ap length marks ∙ length-replicate c.len.result false ∙ c.len.ensures;
      place = subst (λ (x : Subobject). IsPlaced h c.args.c x) whole (whole_placed h c.args.c);
      fresh = subst (λ (xs : List Subobject). IsFresh xs (subobject Whole c.in_ok-longer_path.field-0)) (sym none) (fresh_start (subobject Whole c.in_ok-longer_path.field-0));
      marks = subst (λ (xs : List Subobject). AreSharedMarks c.deref_mut.result.now (xs ++ subobject Whole c.in_ok-longer_path.field-0 ∷ [])) (sym none)
          (subst (λ (x : Subobject). AreSharedMarks c.deref_mut.result.now (x ∷ [])) whole (subst (λ (bs : List Bool). AreSharedMarks bs (whole_of c.args.c ∷ [])) (sym marks) (marks_start c.len.result c.args.c)));
      closed = subst (λ (xs : List Subobject). IsClosed h (c.args.c.0 + 1) xs) (sym none) (closed_start h (c.args.c.0 + 1));
    }

pub returns-clause-preorder : goal.returns-clause-preorder
returns-clause-preorder c =
    let h = c.args.h.now in
    let whole = whole_is c.in_ok-longer_path.field-0 c.args.c c.in_ok-longer_path.ensures in
    c.from_vec.ensures ∙ walked_whole h c.args.c _ (c.in_ok-visit.ensures.found
    ∙ ap (λ (xs : List Subobject). with_new xs (tree h (c.args.c.0 + 1) c.args.c (subobject Whole c.in_ok-longer_path.field-0))) c.new-found.ensures.items
    ∙ ap (λ (x : Subobject). with_new [] (tree h (c.args.c.0 + 1) c.args.c x)) whole)

pub returns-clause-lists : goal.returns-clause-lists
returns-clause-lists c = subst (λ (list : List Subobject). ListsSubobjects c.args.h.now c.args.c list) (sym (returns-clause-preorder c)) (preorder_lists c.args.h.now c.args.c c.keeps.ensures)
