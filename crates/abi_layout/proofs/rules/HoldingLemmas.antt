-- Lemmas on the table of holders.
use Rattle.std.proofs.Common.{◌≡◌, ℕ, zero, suc, ◌+◌, ◌<◌, ⊎_elim, Bool, true, false, cond, ltb, Option, Some, None, List, [], ◌∷◌, length, get_or, refl, ap, subst, sym, ◌∙◌, arith}
use Rattle.std.specs.Prelude.{nat_eq, nat_lt, ◌&&◌, slice_set, position, if◌then◌else◌}
use Rattle.std.specs.Option.{is_none}
use Rattle.std.specs.List.{slice_get, position_or_len}
use Rattle.std.proofs.lemmas.Bool.{eqb-true, ltb-true, ltb-false, cases_order}
use Rattle.std.proofs.lemmas.List.{get_or-set_same, get_or-set_other, length-set}
use Rattle.std.proofs.lemmas.List.Sums.{position_or_len_is}
use Rattle.std.proofs.lemmas.Bool.Decides.{nat_tests}
use Rattle.cxx_hierarchy.specs.declared.records.ClassId.{ClassId}
use Rattle.cxx_subobject.specs.declared.Subobject.{Subobject}
use Rattle.cxx_subobject.specs.Subobjects.{class_of}
use Rattle.abi_primary.specs.declared.Primary.{Primary}
use Rattle.abi_primary.specs.declared.Primary.TheVariants.{None as NoPrimary, Direct, Virtual}
use Rattle.abi_primary.specs.PrimaryBase.{is_virtual_primary, has_primary_in, has_primary}
use Rattle.abi_layout.specs.Holding.{virtual_in, primary_in_class, virtual_primary_of, AreHolders, with_holder}
use Rattle.abi_layout.proofs.rules.Parts.{split, opposed}
pub use Rattle.foundation.proofs.Places.{any_default}

-- whether it is this class
abbrev pub is_class : Option ClassId → ClassId → Bool
is_class None v = false
is_class (Some w) v = nat_eq w.0 v.0

at_list : (ps : List Primary) (i : ℕ) (v : ClassId) → is_virtual_primary (get_or ps i NoPrimary) v ≡ is_class (virtual_in (slice_get ps i)) v
at_list [] i v = refl
at_list (NoPrimary ∷ ps) zero v = refl
at_list (Direct b ∷ ps) zero v = refl
at_list (Virtual w ∷ ps) zero v = refl
at_list (p ∷ ps) (suc i) v = at_list ps i v

at_class : (ps : List Primary) (v : ClassId) (o : Option ClassId) → has_primary_in ps v o ≡ is_class (primary_in_class ps o) v
at_class ps v None = refl
at_class ps v (Some d) = at_list ps d.0 v

pub test_is : (ps : List Primary) (v : ClassId) (s : Subobject) → has_primary ps v s ≡ is_class (virtual_primary_of ps s) v
test_is ps v s = at_class ps v (class_of s)

-- the first of the first n elements that passes
abbrev IsFirstOf : {X : Type 0} → (X → Bool) → List X → ℕ → Option ℕ → Type 0
IsFirstOf {X} p xs n None = (k : ℕ) (d : X) → k < n → p (get_or xs k d) ≡ false
IsFirstOf {X} p xs n (Some m) = (m < n) × ((d : X) → p (get_or xs m d) ≡ true) × ((k : ℕ) (d : X) → k < m → p (get_or xs k d) ≡ false)

fails_more : {X : Type 0} (p : X → Bool) (xs : List X) (n : ℕ) (x : X) (o : Option ℕ) → n < length xs → x ≡ get_or xs n x → p x ≡ false → IsFirstOf p xs n o → IsFirstOf p xs (n + 1) o
fails_more p xs n x None lt is fails before = λ k d less. ⊎_elim
    (λ e. subst (λ j. p (get_or xs j d) ≡ false) (sym e) (ap p (any_default xs n d x lt ∙ sym is) ∙ fails))
    (λ o. ⊎_elim (λ l. before k d l) (λ g. absurd (omega arith)) o)
    (cases_order k n)
fails_more p xs n x (Some m) lt is fails before = let l = before.0 in (omega arith, before.1, before.2)

passes_here : {X : Type 0} (p : X → Bool) (xs : List X) (n : ℕ) (x : X) → n < length xs → x ≡ get_or xs n x → p x ≡ true → IsFirstOf p xs n None → IsFirstOf p xs (n + 1) (Some n)
passes_here p xs n x lt is passes before = (omega arith, λ d. ap p (any_default xs n d x lt ∙ sym is) ∙ passes, before)

found_before : {X : Type 0} (p : X → Bool) (xs : List X) (n m : ℕ) → IsFirstOf p xs n (Some m) → IsFirstOf p xs (n + 1) (Some m)
found_before p xs n m before = let l = before.0 in (omega arith, before.1, before.2)

first_is_position : {X : Type 0} (p : X → Bool) (xs : List X) (d : X) (o : Option ℕ) → IsFirstOf p xs (length xs) o → o ≡ position p xs
first_is_position p xs d None first =
    let e = position_or_len_is p xs (length xs) d (omega arith) (λ k lt. first k d lt) (λ lt. absurd (omega arith)) in
    let f : ltb (position_or_len p xs) (length xs) ≡ false = split (ltb (position_or_len p xs) (length xs)) (λ b. b ≡ false) (λ t. let lt = ltb-true (position_or_len p xs) (length xs) t in absurd (omega arith)) (λ f. refl) in
    sym (ap (λ b. cond b (Some (position_or_len p xs)) None) f)
first_is_position p xs d (Some m) first =
    let e = position_or_len_is p xs m d (let l = first.0 in omega arith) (λ k lt. first.2 k d lt) (λ lt. first.1 d) in
    let less = first.0 in
    let t : ltb (position_or_len p xs) (length xs) ≡ true = split (ltb (position_or_len p xs) (length xs)) (λ b. b ≡ true) (λ t. refl) (λ f. let le = ltb-false (position_or_len p xs) (length xs) f in absurd (omega arith)) in
    ap (λ n. Some n) (sym e) ∙ sym (ap (λ b. cond b (Some (position_or_len p xs)) None) t)

-- the table after the first n subobjects
pub record AreFirst (ps : List Primary) (list : List Subobject) (count n : ℕ) (holders : List (Option ℕ)) : Type 0 where
  pub one_each : length holders ≡ count
  pub first : (v : ClassId) → v.0 < count → IsFirstOf (has_primary ps v) list n (get_or holders v.0 None)

eqb-refl : (a : ℕ) → nat_eq a a ≡ true
eqb-refl a = grind (arith, nat_tests)

same_false : (a b : ℕ) → (a ≡ b → ⊥) → nat_eq a b ≡ false
same_false a b differ = split (nat_eq a b) (λ t. t ≡ false) (λ t. absurd (differ (eqb-true a b t))) (λ f. refl)

pub one_more_first : (ps : List Primary) (list : List Subobject) (count n : ℕ) (holders : List (Option ℕ)) (s : Subobject) (o : Option ClassId) → n < length list → s ≡ get_or list n s → o ≡ virtual_primary_of ps s → AreFirst ps list count n holders → AreFirst ps list count (n + 1) (with_holder holders o n)
one_more_first ps list count n holders s None lt is e before = record {
  one_each = before.one_each;
  first = λ v less. fails_more (has_primary ps v) list n s (get_or holders v.0 None) lt is (test_is ps v s ∙ ap (λ (x : Option ClassId). is_class x v) (sym e)) (before.first v less);
}
one_more_first ps list count n holders s (Some w) lt is e before =
    split (nat_lt w.0 (length holders) && is_none (get_or holders w.0 None))
    (λ b. AreFirst ps list count (n + 1) (if b then slice_set holders w.0 (Some n) else holders))
    (λ t. record {
      one_each = length-set holders w.0 (Some n) ∙ before.one_each;
      first = λ v less. ⊎_elim (λ same. put_at v less same (and_left (nat_lt w.0 (length holders)) (is_none (get_or holders w.0 None)) t) (and_right (nat_lt w.0 (length holders)) (is_none (get_or holders w.0 None)) t))
          (λ d. other_at v less (λ same. ⊎_elim (λ l. omega arith) (λ g. omega arith) d)) (cases_order v.0 w.0);
    })
    (λ f. record {
      one_each = before.one_each;
      first = λ v less. ⊎_elim (λ same. kept_at v less same f) (λ d. fails_more (has_primary ps v) list n s (get_or holders v.0 None) lt is (fails v (λ same. ⊎_elim (λ l. omega arith) (λ g. omega arith) d)) (before.first v less)) (cases_order v.0 w.0);
    })
  where
    fails : (v : ClassId) → (v.0 ≡ w.0 → ⊥) → has_primary ps v s ≡ false
    fails v differ = test_is ps v s ∙ (ap (λ (x : Option ClassId). is_class x v) (sym e) ∙ same_false w.0 v.0 (λ same. differ (sym same)))

    passes : (v : ClassId) → v.0 ≡ w.0 → has_primary ps v s ≡ true
    passes v same = test_is ps v s ∙ (ap (λ (x : Option ClassId). is_class x v) (sym e) ∙ (ap (λ i. nat_eq w.0 i) same ∙ eqb-refl w.0))

    and_left : (a b : Bool) → (a && b) ≡ true → a ≡ true
    and_left true b t = refl
    and_left false b t = t

    and_right : (a b : Bool) → (a && b) ≡ true → b ≡ true
    and_right true b t = t
    and_right false b t = let f : false ≡ true = t in cc

    none_is : (x : Option ℕ) → is_none x ≡ true → x ≡ None
    none_is None t = refl
    none_is (Some m) t = let f : false ≡ true = t in cc

    put_at : (v : ClassId) → v.0 < count → v.0 ≡ w.0 → nat_lt w.0 (length holders) ≡ true → is_none (get_or holders w.0 None) ≡ true → IsFirstOf (has_primary ps v) list (n + 1) (get_or (slice_set holders w.0 (Some n)) v.0 None)
    put_at v less same within free =
        let old : get_or holders v.0 None ≡ None = ap (λ i. get_or holders i None) same ∙ none_is (get_or holders w.0 None) free in
        let new : get_or (slice_set holders w.0 (Some n)) v.0 None ≡ Some n = ap (λ i. get_or (slice_set holders w.0 (Some n)) i None) same ∙ get_or-set_same holders w.0 (Some n) None (ltb-true w.0 (length holders) within) in
        subst (IsFirstOf (has_primary ps v) list (n + 1)) (sym new) (passes_here (has_primary ps v) list n s lt is (passes v same) (subst (IsFirstOf (has_primary ps v) list n) old (before.first v less)))

    other_at : (v : ClassId) → v.0 < count → (v.0 ≡ w.0 → ⊥) → IsFirstOf (has_primary ps v) list (n + 1) (get_or (slice_set holders w.0 (Some n)) v.0 None)
    other_at v less differ = subst (IsFirstOf (has_primary ps v) list (n + 1)) (sym (get_or-set_other holders w.0 v.0 (Some n) None differ)) (fails_more (has_primary ps v) list n s (get_or holders v.0 None) lt is (fails v differ) (before.first v less))

    kept_at : (v : ClassId) → v.0 < count → v.0 ≡ w.0 → (nat_lt w.0 (length holders) && is_none (get_or holders w.0 None)) ≡ false → IsFirstOf (has_primary ps v) list (n + 1) (get_or holders v.0 None)
    kept_at v less same f = by_holder (get_or holders v.0 None) refl (before.first v less)
      where
        by_holder : (x : Option ℕ) → get_or holders v.0 None ≡ x → IsFirstOf (has_primary ps v) list n x → IsFirstOf (has_primary ps v) list (n + 1) x
        by_holder (Some m) at first = found_before (has_primary ps v) list n m first
        by_holder None at first =
            let count_is = before.one_each in
            let within : nat_lt w.0 (length holders) ≡ true = split (nat_lt w.0 (length holders)) (λ b. b ≡ true) (λ t. refl) (λ g. let le = ltb-false w.0 (length holders) g in absurd (omega arith)) in
            let free : is_none (get_or holders w.0 None) ≡ true = ap is_none (ap (λ i. get_or holders i None) (sym same) ∙ at) in
            let both : (nat_lt w.0 (length holders) && is_none (get_or holders w.0 None)) ≡ true = ap (λ b. b && is_none (get_or holders w.0 None)) within ∙ free in
            absurd (opposed both f)

pub all_first : (ps : List Primary) (list : List Subobject) (count n : ℕ) (holders : List (Option ℕ)) (d : Subobject) → n ≡ length list → AreFirst ps list count n holders → AreHolders ps list count holders
all_first ps list count n holders d e first = record {
  one_each = first.one_each;
  first = λ v lt. first_is_position (has_primary ps v) list d (get_or holders v.0 None) (subst (λ m. IsFirstOf (has_primary ps v) list m (get_or holders v.0 None)) e (first.first v lt));
}
