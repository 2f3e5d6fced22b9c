-- Leaves that take values one after the other have taken the old values, where a leaf that two parts have in common is the same one of both.
use Rattle.std.proofs.Common.{◌≡◌, ℕ, Bool, true, false, Option, Some, None, List, [], ◌∷◌, ◌++◌, refl, ap, sym, ◌∙◌}
use Rattle.std.specs.Prelude.{find, if◌then◌else◌}
use Rattle.foundation.proofs.Members.{Has}
use Rattle.foundation.proofs.Truth.{split}
use Rattle.foundation.proofs.Chosen.{find_passes}
use Rattle.cxx_hierarchy.specs.declared.records.ClassId.{ClassId}
use Rattle.cxx_hierarchy.specs.Classes.{Classes}
use Rattle.cxx_hierarchy.specs.Hierarchies.{IsHierarchy}
use Rattle.cxx_subobject.specs.Locations.{ObjectPart}
use Rattle.path_model.specs.Values.{Leaf, Objects}
use Rattle.path_model.specs.Places.{leaf}
use Rattle.path_model.specs.TypedStates.{IsPartMade}
use Rattle.path_model.specs.Effects.{same_leaf, value_behind}
use Rattle.path_model.proofs.TypedEvents.{leaf_is}
use Rattle.agree_copies.proofs.SameParts.{IsLike, like_one, like_common}

-- the objects in which the first leaf of each pair has the old value of the second one
abbrev pub copied_by : Objects → List (Leaf × Leaf) → Objects
copied_by s pairs = record { classes = s.classes; is_closed = s.is_closed; phases = s.phases; leaf = λ l. value_behind s.leaf l (find (λ pair. same_leaf pair.0 l) pairs) }

-- the same leaf of two parts of class c: a in the part that is copied to, and b in the other one
pub record AreLike (h : Classes) (c : ClassId) (to from : ObjectPart) (a b : Leaf) : Type 0 where
  pub part : IsLike h c to from a.part b.part
  pub member : a.member ≡ b.member
  pub index : a.index ≡ b.index

-- such leaves are all pairs of a list
pub record AreCopied (h : Classes) (c : ClassId) (to from : ObjectPart) (pairs : List (Leaf × Leaf)) : Type 0 where
  pub each : (pair : Leaf × Leaf) → Has pairs pair → AreLike h c to from pair.0 pair.1

leaf_by : (a b : Leaf) → a.part ≡ b.part → a.member ≡ b.member → a.index ≡ b.index → a ≡ b
leaf_by a b part member index = ap (λ (z : ObjectPart). leaf z a.member a.index) part ∙ (ap (λ (z : ℕ). leaf b.part z a.index) member ∙ ap (λ (z : ℕ). leaf b.part b.member z) index)

-- what is found behind one item more: what was found before, else that item
found_with : {A : Type 0} (p : A → Bool) (xs : List A) (y x : A) → find p xs ≡ Some x → find p (xs ++ y ∷ []) ≡ Some x
found_with {A} p [] y x e = absurd (let f : None ≡ Some x = e in cc)
found_with {A} p (z ∷ xs) y x e = split (p z) (λ (q : Bool). (if q then Some z else find p xs) ≡ Some x → (if q then Some z else find p (xs ++ y ∷ [])) ≡ Some x) (λ _ k. k) (λ _ k. found_with p xs y x k) e

found_last : {A : Type 0} (p : A → Bool) (xs : List A) (y : A) → find p xs ≡ None → find p (xs ++ y ∷ []) ≡ (if p y then Some y else None)
found_last {A} p [] y e = refl
found_last {A} p (z ∷ xs) y e =
    split (p z) (λ (q : Bool). (if q then Some z else find p xs) ≡ None → (if q then Some z else find p (xs ++ y ∷ [])) ≡ (if p y then Some y else None))
    (λ _ k. absurd (let f : Some z ≡ None = k in cc)) (λ _ k. found_last p xs y k) e

module _ (h : Classes) (keeps : IsHierarchy h) (cs : List ClassId) (c : ClassId) (to from : ObjectPart) (made_to : IsPartMade h cs to c) (made_from : IsPartMade h cs from c) (s : Objects) (done : List (Leaf × Leaf)) (all : AreCopied h c to from done) (a b : Leaf) (like : AreLike h c to from a b) where
  -- a leaf that is copied to first of all takes one value
  one_source : (a' b' : Leaf) → AreLike h c to from a' b' → a' ≡ a → b' ≡ b
  one_source a' b' like' same = leaf_by b' b (like_one h keeps cs c to from made_to made_from a'.part b'.part a.part b.part like'.part like.part (ap (λ (z : Leaf). z.part) same))
      (sym like'.member ∙ (ap (λ (z : Leaf). z.member) same ∙ like.member)) (sym like'.index ∙ (ap (λ (z : Leaf). z.index) same ∙ like.index))

  -- and one that is copied from has its old value
  own_source : (a' b' : Leaf) → AreLike h c to from a' b' → a' ≡ b → b' ≡ b
  own_source a' b' like' same =
      sym (leaf_by a' b' (like_common h keeps cs c to from made_to made_from a.part b.part a'.part b'.part like.part like'.part (ap (λ (z : Leaf). z.part) (sym same))) like'.member like'.index) ∙ same

  pub source_old : (copied_by s done).leaf b ≡ s.leaf b
  source_old = by_found (find (λ pair. same_leaf pair.0 b) done) refl
    where
      by_found : (o : Option (Leaf × Leaf)) → find (λ pair. same_leaf pair.0 b) done ≡ o → value_behind s.leaf b o ≡ s.leaf b
      by_found None e = refl
      by_found (Some pair) e =
          let p = find_passes (λ (pair : Leaf × Leaf). same_leaf pair.0 b) done pair e in
          ap s.leaf (own_source pair.0 pair.1 (all.each pair p.0) (leaf_is pair.0 b p.1))

  -- the leaf that is copied to
  pub target_new : (l : Leaf) → same_leaf a l ≡ true → (copied_by s (done ++ (a, b) ∷ [])).leaf l ≡ s.leaf b
  target_new l same = by_found (find (λ pair. same_leaf pair.0 l) done) refl
    where
      by_found : (o : Option (Leaf × Leaf)) → find (λ pair. same_leaf pair.0 l) done ≡ o → value_behind s.leaf l (find (λ pair. same_leaf pair.0 l) (done ++ (a, b) ∷ [])) ≡ s.leaf b
      by_found None e = ap (value_behind s.leaf l) (found_last (λ (pair : Leaf × Leaf). same_leaf pair.0 l) done (a, b) e ∙ ap (λ (q : Bool). if q then Some (a, b) else None) same)
      by_found (Some pair) e =
          let p = find_passes (λ (pair : Leaf × Leaf). same_leaf pair.0 l) done pair e in
          ap (value_behind s.leaf l) (found_with (λ (pair : Leaf × Leaf). same_leaf pair.0 l) done (a, b) pair e)
          ∙ ap s.leaf (one_source pair.0 pair.1 (all.each pair p.0) (leaf_is pair.0 l p.1 ∙ sym (leaf_is a l same)))

  -- any other leaf
  pub other_kept : (l : Leaf) → same_leaf a l ≡ false → (copied_by s (done ++ (a, b) ∷ [])).leaf l ≡ (copied_by s done).leaf l
  other_kept l other = by_found (find (λ pair. same_leaf pair.0 l) done) refl
    where
      by_found : (o : Option (Leaf × Leaf)) → find (λ pair. same_leaf pair.0 l) done ≡ o → value_behind s.leaf l (find (λ pair. same_leaf pair.0 l) (done ++ (a, b) ∷ [])) ≡ value_behind s.leaf l (find (λ pair. same_leaf pair.0 l) done)
      by_found None e = ap (value_behind s.leaf l) (found_last (λ (pair : Leaf × Leaf). same_leaf pair.0 l) done (a, b) e ∙ (ap (λ (q : Bool). if q then Some (a, b) else None) other ∙ sym e))
      by_found (Some pair) e = ap (value_behind s.leaf l) (found_with (λ (pair : Leaf × Leaf). same_leaf pair.0 l) done (a, b) pair e ∙ sym e)
