-- What a copy gives to each leaf.
use Rattle.std.proofs.Common.{◌≡◌, inl, inr, ⊎_elim, Bool, true, false, Option, Some, None, List, [], ◌∷◌, refl, ap, subst, sym, ◌∙◌}
use Rattle.std.specs.Prelude.{if◌then◌else◌, find, zip}
use Rattle.std.specs.List.{AllZip}
use Rattle.std.proofs.lemmas.Bool.{eq-eqb}
use Rattle.foundation.proofs.Members.{Has}
use Rattle.foundation.proofs.Chosen.{find_passes}
use Rattle.foundation.proofs.Truth.{split}
use Rattle.cxx_hierarchy.specs.declared.records.ClassId.{ClassId}
use Rattle.cxx_hierarchy.specs.Classes.{Classes}
use Rattle.cxx_hierarchy.specs.Hierarchies.{IsHierarchy}
use Rattle.cxx_subobject.specs.Subobjects.{IsSubobject, class_of}
use Rattle.cxx_subobject.specs.Locations.{ObjectPart}
use Rattle.cxx_program.specs.declared.statement.TypedPlace.{TypedPlace}
use Rattle.path_plan.proofs.Same.{part_itself}
use Rattle.path_model.specs.Values.{Leaf, Objects}
use Rattle.path_model.specs.Places.{leaf_at, leaves_of}
use Rattle.path_model.specs.Effects.{same_leaf, value_behind, copied}
use Rattle.path_model.proofs.TypedEvents.{leaf_is}
use Rattle.path_laws.specs.Leaves.{LiesIn, IsLeafPlace}
use Rattle.path_laws.proofs.Ways.{end_leaf, way_of, one_way}
use Rattle.path_laws.proofs.Lists.{ArePartners, leaves_zip, way_in_list, listed_lies}

-- pairs of lists that go along

pair_left : {A B : Type 0} (as_ : List A) (bs : List B) (pair : A × B) → Has (zip as_ bs) pair → Has as_ pair.0
pair_left [] bs pair has = absurd has
pair_left (x ∷ as_) [] pair has = absurd has
pair_left {A} {B} (x ∷ as_) (y ∷ bs) pair has = ⊎_elim (λ e. inl (ap (λ (z : A × B). z.0) e)) (λ more. inr (pair_left as_ bs pair more)) has

pair_goes : {A B : Type 0} (R : A → B → Type 0) (as_ : List A) (bs : List B) (pair : A × B) → AllZip R as_ bs → Has (zip as_ bs) pair → R pair.0 pair.1
pair_goes R [] bs pair z has = absurd has
pair_goes R (x ∷ as_) [] pair z has = absurd has
pair_goes {A} {B} R (x ∷ as_) (y ∷ bs) pair z has = ⊎_elim (λ e. subst (λ (p : A × B). R p.0 p.1) e z.0) (λ more. pair_goes R as_ bs pair z.1 more) has

-- a pair of an item of the first list
has_pair : {A B : Type 0} (R : A → B → Type 0) (as_ : List A) (bs : List B) (x : A) → AllZip R as_ bs → Has as_ x → (y : B) × Has (zip as_ bs) (x, y)
has_pair R [] bs x z has = absurd has
has_pair R (a ∷ as_) [] x z has = absurd z
has_pair R (a ∷ as_) (b ∷ bs) x z has = ⊎_elim (λ e. (b, inl (ap (λ k. (k, b)) e))) (λ more. let r = has_pair R as_ bs x z.1 more in (r.0, inr r.1)) has

found : {X : Type 0} (t : X → Bool) (xs : List X) (x : X) → Has xs x → t x ≡ true → (y : X) × (find t xs ≡ Some y)
found t [] x has e = absurd has
found {X} t (y ∷ xs) x has e = split (t y) (λ b. (z : X) × ((if b then Some y else find t xs) ≡ Some z))
    (λ _. (y, refl))
    (λ f. ⊎_elim (λ same. let g : true ≡ false = sym e ∙ (ap t (sym same) ∙ f) in absurd (cc)) (λ more. found t xs x more e) has)

leaf_itself : (l : Leaf) → same_leaf l l ≡ true
leaf_itself l = rw (part_itself l.part, eq-eqb l.member l.member refl, eq-eqb l.index l.index refl) refl

module _ (h : Classes) (c : ClassId) (to from : ObjectPart) (s : Objects) where
  abbrev pairs : List (Leaf × Leaf)
  pairs = zip (leaves_of h c to) (leaves_of h c from)

  abbrev is_to : Leaf → Leaf × Leaf → Bool
  is_to l pair = same_leaf pair.0 l

  pub copy_keeps : (l : Leaf) → class_of to.at ≡ Some c → (LiesIn h to l → ⊥) → (copied h c to from s).leaf l ≡ s.leaf l
  copy_keeps l class none = by_pair (find (is_to l) pairs) refl
    where
      by_pair : (o : Option (Leaf × Leaf)) → find (is_to l) pairs ≡ o → value_behind s.leaf l o ≡ s.leaf l
      by_pair None e = refl
      by_pair (Some pair) e =
          let r = find_passes (is_to l) pairs pair e in
          let lies = listed_lies h c to pair.0 class (pair_left (leaves_of h c to) (leaves_of h c from) pair r.0) in
          absurd (none (subst (LiesIn h to) (leaf_is pair.0 l r.1) lies))

  -- the pair of a leaf to which a place leads has the leaf to which the same place leads from the other part
  same_place : IsHierarchy h → (d : ClassId) (place : TypedPlace) → IsSubobject h d to.at → class_of to.at ≡ Some c → IsLeafPlace h c place → (pair : Leaf × Leaf) → Has pairs pair → pair.0 ≡ leaf_at to place → pair.1 ≡ leaf_at from place
  same_place keeps d place valid class a pair has is =
      let k = pair_goes (ArePartners h c to from) (leaves_of h c to) (leaves_of h c from) pair (leaves_zip h c to from) has in
      let one = one_way h keeps k.passed place.passed d c to k.base place.base k.member k.index place.member place.index valid class k.way (way_of h c place a) (k.left ∙ is) in
      let same : end_leaf from k.passed k.base k.member k.index ≡ end_leaf from place.passed place.base place.member place.index = cc (one.passed, one.last.base, one.last.member, one.last.index) in
      sym k.right ∙ same

  given : (l m : Leaf) (o : Option (Leaf × Leaf)) (pair : Leaf × Leaf) → o ≡ Some pair → pair.1 ≡ m → value_behind s.leaf l o ≡ s.leaf m
  given l m o pair e same = ap (value_behind s.leaf l) e ∙ ap s.leaf same

  pub copy_gives : IsHierarchy h → (d : ClassId) (place : TypedPlace) → IsSubobject h d to.at → class_of to.at ≡ Some c → IsLeafPlace h c place → (copied h c to from s).leaf (leaf_at to place) ≡ s.leaf (leaf_at from place)
  copy_gives keeps d place valid class a =
      let l = leaf_at to place in
      let has = way_in_list h keeps c to place.passed place.base place.member place.index (way_of h c place a) in
      let p = has_pair (ArePartners h c to from) (leaves_of h c to) (leaves_of h c from) l (leaves_zip h c to from) has in
      let some = found (is_to l) pairs (l, p.0) p.1 (leaf_itself l) in
      let r = find_passes (is_to l) pairs some.0 some.1 in
      given l (leaf_at from place) (find (is_to l) pairs) some.0 some.1 (same_place keeps d place valid class a some.0 r.0 (leaf_is some.0.0 l r.1))
