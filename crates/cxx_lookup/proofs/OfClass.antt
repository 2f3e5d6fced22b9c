-- The one subobject of a class in a list.
use Rattle.std.proofs.Common.{◌≡◌, ℕ, ◌+◌, ◌-◌, ◌<◌, ◌≤◌, List, length, take, drop, get_or, sym, ◌∙◌, ap, refl, arith, Bool, true, false, ⊎_elim}
use Rattle.std.specs.Prelude.{Option, Some, None, slice_get, position, is_some}
use Rattle.std.proofs.lemmas.List.{get_or-drop, take_all, length-drop}
use Rattle.std.proofs.lemmas.List.Quantifiers.{position-Some}
use Rattle.std.proofs.lemmas.Option.{slice_get-get_or, slice_get_within, get_or_from_slice_get}
use Rattle.std.proofs.lemmas.Bool.{cases_order, eqb-true, eq-eqb}
use Rattle.foundation.proofs.Places.{contains_at}
use Rattle.cxx_hierarchy.specs.declared.records.ClassId.{ClassId}
use Rattle.cxx_hierarchy.specs.Classes.{Classes}
use Rattle.cxx_subobject.specs.declared.Subobject.{Subobject}
use Rattle.cxx_subobject.specs.Subobjects.{class_of, whole_of, is_class, is_of_class, IsOfClass}
use Rattle.cxx_subobject.specs.Preorder.{ListsSubobjects}
use Rattle.cxx_subobject.proofs.PathLemmas.{same_id}
use Rattle.cxx_lookup.specs.UniqueBase.{IsUniqueBase, HasTwoBases}
use Rattle.cxx_lookup.proofs.Listing.{at_place, none_passes}

-- the test of a class says which one it is
pub tells_class : (d : ClassId) (s : Subobject) → is_of_class d s ≡ true → class_of s ≡ Some d
tells_class d s = by_class (class_of s)
  where
    by_class : (o : Option ClassId) → is_class d o ≡ true → o ≡ Some d
    by_class None e = absurd (cc)
    by_class (Some c) e = ap Some (sym (same_id d c (eqb-true d.0 c.0 e)))

pub told_class : (d : ClassId) (s : Subobject) → class_of s ≡ Some d → is_of_class d s ≡ true
told_class d s e = ap (is_class d) e ∙ eq-eqb d.0 d.0 refl

past_drop : {X : Type 0} (xs : List X) (n k : ℕ) (x : X) → n ≤ k → slice_get xs k ≡ Some x → slice_get (drop n xs) (k - n) ≡ Some x
past_drop xs n k x less at =
    let within = slice_get_within xs k x at in
    let inside : k - n < length (drop n xs) = omega (arith, length-drop n xs) in
    let place : n + (k - n) ≡ k = omega arith in
    slice_get-get_or (drop n xs) (k - n) x inside ∙ ap Some (get_or-drop n xs (k - n) x ∙ ap (λ (i : ℕ). get_or xs i x) place ∙ get_or_from_slice_get xs k x x at)

whole_rest : {X : Type 0} (xs : List X) (n : ℕ) → take (length xs - n) (drop n xs) ≡ drop n xs
whole_rest xs n = take_all (length xs - n) (drop n xs) (omega (arith, length-drop n xs))

-- none is, where no place of the list is of the class
pub none_of_class : (h : Classes) (c d : ClassId) (list : List Subobject) → ListsSubobjects h c list → position (is_of_class d) list ≡ None → (s : Subobject) → IsOfClass h c d s → ⊥
none_of_class h c d list lists nothing s of_class =
    let has = lists.listed s of_class.valid in
    none_passes (is_of_class d) list has.0 s nothing (at_place list s has) (told_class d s of_class.class)

of_class_at : (h : Classes) (c d : ClassId) (list : List Subobject) (k : ℕ) (s : Subobject) → ListsSubobjects h c list → slice_get list k ≡ Some s → is_of_class d s ≡ true → IsOfClass h c d s
of_class_at h c d list k s lists at passes = record { valid = lists.valid s (contains_at list k s at); class = tells_class d s passes }

-- one is, where no other place is
one_of_class : (h : Classes) (c d : ClassId) (list : List Subobject) (n : ℕ) (s : Subobject) → ListsSubobjects h c list → position (is_of_class d) list ≡ Some n → s ≡ get_or list n s →
    position (is_of_class d) (drop (n + 1) list) ≡ None → IsUniqueBase h c d s
one_of_class h c d list n s lists found is rest =
    let p = position-Some (is_of_class d) list n s found in
    let here : slice_get list n ≡ Some s = slice_get-get_or list n s p.0 ∙ ap Some (sym is) in
    record {
      is = of_class_at h c d list n s lists here (ap (is_of_class d) is ∙ p.1);
      only = λ t other.
          let has = lists.listed t other.valid in
          let there = at_place list t has in
          let passes = told_class d t other.class in
          ⊎_elim
          (λ same. let e : Some t ≡ Some s = sym there ∙ ap (slice_get list) same ∙ here in cc)
          (λ o. ⊎_elim
          (λ less. let fails : is_of_class d (get_or list has.0 s) ≡ false = p.2 has.0 less in
          let same : get_or list has.0 s ≡ t = get_or_from_slice_get list has.0 t s there in
          let clash : true ≡ false = sym passes ∙ ap (is_of_class d) (sym same) ∙ fails in absurd (cc))
          (λ more. absurd (none_passes (is_of_class d) (drop (n + 1) list) (has.0 - (n + 1)) t rest (past_drop list (n + 1) has.0 t (omega arith) there) passes))
          o)
          (cases_order has.0 n);
    }

-- and two are, where a later place is too
two_of_class : (h : Classes) (c d : ClassId) (list : List Subobject) (n k : ℕ) → ListsSubobjects h c list → position (is_of_class d) list ≡ Some n → position (is_of_class d) (drop (n + 1) list) ≡ Some k → HasTwoBases h c d
two_of_class h c d list n k lists found rest =
    let s : Subobject = whole_of c in
    let p = position-Some (is_of_class d) list n s found in
    let q = position-Some (is_of_class d) (drop (n + 1) list) k s rest in
    let place : get_or (drop (n + 1) list) k s ≡ get_or list ((n + 1) + k) s = get_or-drop (n + 1) list k s in
    let within : (n + 1) + k < length list = let l = q.0 in omega (arith, length-drop (n + 1) list) in
    let first : slice_get list n ≡ Some (get_or list n s) = slice_get-get_or list n s p.0 in
    let second : slice_get list ((n + 1) + k) ≡ Some (get_or list ((n + 1) + k) s) = slice_get-get_or list ((n + 1) + k) s within in
    record {
      one = get_or list n s;
      other = get_or list ((n + 1) + k) s;
      is_one = of_class_at h c d list n (get_or list n s) lists first p.1;
      is_other = of_class_at h c d list ((n + 1) + k) (get_or list ((n + 1) + k) s) lists second (ap (is_of_class d) (sym place) ∙ q.1);
      differ = λ e. let same : n ≡ (n + 1) + k = lists.once n ((n + 1) + k) (get_or list ((n + 1) + k) s) (first ∙ ap Some e) second in absurd (omega arith);
    }

-- what the second search tells
record IsItem {X : Type 0} (o : Option X) : Type 0 where
  item : X
  is : o ≡ Some item

is_there : {X : Type 0} (o : Option X) (test : Bool) → test ≡ is_some o → test ≡ true → IsItem o
is_there None test e t = absurd (cc)
is_there (Some x) test e t = record { item = x; is = refl }

is_not_there : {X : Type 0} (o : Option X) (test : Bool) → test ≡ is_some o → test ≡ false → o ≡ None
is_not_there None test e t = refl
is_not_there (Some x) test e t = absurd (cc)

pub two_by_test : (h : Classes) (c d : ClassId) (list : List Subobject) (n : ℕ) (r : Option ℕ) (test : Bool) → ListsSubobjects h c list → position (is_of_class d) list ≡ Some n →
    r ≡ position (is_of_class d) (take (length list - (n + 1)) (drop (n + 1) list)) → test ≡ is_some r → test ≡ true → HasTwoBases h c d
two_by_test h c d list n r test lists found rest e t =
    let there = is_there r test e t in
    two_of_class h c d list n there.item lists found (sym (rest ∙ ap (position (is_of_class d)) (whole_rest list (n + 1))) ∙ there.is)

pub one_by_test : (h : Classes) (c d : ClassId) (list : List Subobject) (n : ℕ) (s : Subobject) (r : Option ℕ) (test : Bool) → ListsSubobjects h c list → position (is_of_class d) list ≡ Some n → s ≡ get_or list n s →
    r ≡ position (is_of_class d) (take (length list - (n + 1)) (drop (n + 1) list)) → test ≡ is_some r → test ≡ false → IsUniqueBase h c d s
one_by_test h c d list n s r test lists found is rest e t = one_of_class h c d list n s lists found is (sym (rest ∙ ap (position (is_of_class d)) (whole_rest list (n + 1))) ∙ is_not_there r test e t)
