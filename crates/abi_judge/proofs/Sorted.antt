-- In a list that is in order, each two items are as neighbours are.
use Rattle.std.proofs.Common.{◌≡◌, ℕ, zero, suc, ◌+◌, ◌-◌, ◌<◌, ◌≤◌, ◌⊎◌, inl, inr, ⊎_elim, Bool, true, false, cond, ◌==◌, Some, List, length, get_or, refl, ap, subst, sym, ◌∙◌, arith}
use Rattle.std.specs.Prelude.{nat_lt, ◌↔◌, IsTrue}
use Rattle.std.specs.List.{slice_get, AllAdjacentBelow}
use Rattle.std.specs.List.Sorted.{IsNonDecreasingBy, IsPermutation, IsSorted}
use Rattle.std.specs.declared.cmp.Ordering.TheVariants.{Less, Equal, Greater}
use Rattle.std.specs.Ordering.{is_lt, ordering_then}
use Rattle.std.proofs.lemmas.Bool.{eqb-true, ltb-false, eqb-false}
use Rattle.std.proofs.lemmas.List.Sorted.{all_adjacent_more, Contains-permutation, IsPermutation-sym}
use Rattle.foundation.proofs.Places.{any_default, contains_at, get_read, place_of}
use Rattle.abi_judge.specs.declared.apart.BitSpan.{BitSpan}
use Rattle.abi_judge.specs.invariants.Apart.{EachTwo, LieApart, ShareNoBit, AreLong, Differ, AreDistinct, key_cmp}
use Rattle.abi_judge.proofs.Pairs.{read_at, two_permuted}

-- each two items, where it is known of those that stand in order
pub two_in_order : {X : Type 0} (R : X → X → Type 0) → ((x y : X) → R x y → R y x) → (xs : List X) → ((i j : ℕ) (x y : X) → i < j → slice_get xs i ≡ Some x → slice_get xs j ≡ Some y → R x y) → EachTwo R xs
two_in_order {X} R turned xs known = record { each = λ i j x y differ e f. by_order i j x y (cases i j) differ e f }
  where
    cases : (i j : ℕ) → (i < j) ⊎ ((i ≡ j) ⊎ (j < i))
    cases i j = grind arith

    by_order : (i j : ℕ) (x y : X) → (i < j) ⊎ ((i ≡ j) ⊎ (j < i)) → (i ≡ j → ⊥) → slice_get xs i ≡ Some x → slice_get xs j ≡ Some y → R x y
    by_order i j x y (inl less) differ e f = known i j x y less e f
    by_order i j x y (inr (inl same)) differ e f = absurd (differ same)
    by_order i j x y (inr (inr less)) differ e f = turned y x (known j i y x less f e)

-- a span ends before the next one begins
abbrev pub EndsBefore : BitSpan → BitSpan → Type 0
EndsBefore a b = a.start + a.length ≤ b.start

apart_turned : (a b : BitSpan) → LieApart a b → LieApart b a
apart_turned a b apart = ⊎_elim (λ u. inr u) (λ u. inl u) apart

pub spans_apart : (spans : List BitSpan) → IsNonDecreasingBy (λ (span : BitSpan). span.start) spans → AllAdjacentBelow EndsBefore spans (length spans) → ShareNoBit spans
spans_apart spans sorted ends = two_in_order LieApart apart_turned spans (λ i j x y less e f.
    let p = read_at spans i x x e in
    let q = read_at spans j y x f in
    let lt = q.0 in
    let first : (get_or spans i x).start + (get_or spans i x).length ≤ (get_or spans (i + 1) x).start = ends i x (omega (arith, lt, less)) in
    let next : (get_or spans (i + 1) x).start ≤ (get_or spans j x).start = sorted (i + 1) j x (omega (arith, less)) lt in
    let here : x.start + x.length ≡ (get_or spans i x).start + (get_or spans i x).length = ap (λ (s : BitSpan). s.start + s.length) p.1 in
    let there : y.start ≡ (get_or spans j x).start = ap (λ (s : BitSpan). s.start) q.1 in
    inl (omega (arith, first, next, here, there)))

-- where one goes on into the next, they are not
pub spans_meet : (spans : List BitSpan) → IsNonDecreasingBy (λ (span : BitSpan). span.start) spans → AreLong spans → (i : ℕ) (a b : BitSpan) → 1 ≤ i → i < length spans → a ≡ get_or spans (i - 1) a → b ≡ get_or spans i b → b.start - a.start < a.length → ShareNoBit spans → ⊥
spans_meet spans sorted long i a b some lt is_a is_b meet apart =
    let at_a = get_read spans (i - 1) a (omega (arith, lt)) is_a in
    let at_b = get_read spans i b lt is_b in
    let one = long.long i b at_b in
    let r = read_at spans i b a at_b in
    let order : (get_or spans (i - 1) a).start ≤ (get_or spans i a).start = sorted (i - 1) i a (omega arith) lt in
    let first : a.start ≡ (get_or spans (i - 1) a).start = ap (λ (s : BitSpan). s.start) is_a in
    let second : b.start ≡ (get_or spans i a).start = ap (λ (s : BitSpan). s.start) r.1 in
    let low : a.start ≤ b.start = omega (arith, order, first, second) in
    ⊎_elim
    (λ u. let v : a.start + a.length ≤ b.start = u in omega (arith, v, meet, low))
    (λ u. let v : b.start + b.length ≤ a.start = u in omega (arith, v, one, low))
    (apart.each (i - 1) i a b (λ e. omega (arith, e, some)) at_a at_b)

-- the order of pairs

abbrev Lexical : ℕ × ℕ → ℕ × ℕ → Type 0
Lexical a b = (a.0 < b.0) ⊎ ((a.0 ≡ b.0) × (a.1 ≤ b.1))

less_from : (m n : ℕ) → m ≤ n → (n ≡ m → ⊥) → m < n
less_from m n le other = grind arith

not_less : (a b : ℕ × ℕ) → is_lt (key_cmp b a) ≡ false → Lexical a b
not_less a b e = by_tests (nat_lt b.0 a.0) (b.0 == a.0) (nat_lt b.1 a.1) (b.1 == a.1) refl refl refl e
  where
    by_tests : (p q r s : Bool) → nat_lt b.0 a.0 ≡ p → (b.0 == a.0) ≡ q → nat_lt b.1 a.1 ≡ r
        → is_lt (ordering_then (cond p Less (cond q Equal Greater)) (cond r Less (cond s Equal Greater))) ≡ false → Lexical a b
    by_tests true q r s f g k e = let n : true ≡ false = e in cc
    by_tests false false r s f g k e = inl (less_from a.0 b.0 (ltb-false b.0 a.0 f) (eqb-false b.0 a.0 g))
    by_tests false true true s f g k e = let n : true ≡ false = e in cc
    by_tests false true false s f g k e = inr (sym (eqb-true b.0 a.0 g), ltb-false b.1 a.1 k)

lexical_through : (a b c : ℕ × ℕ) → Lexical a b → Lexical b c → Lexical a c
lexical_through a b c (inl x) (inl y) = inl (omega (arith, x, y))
lexical_through a b c (inl x) (inr y) = let e = y.0 in inl (omega (arith, x, e))
lexical_through a b c (inr x) (inl y) = let e = x.0 in inl (omega (arith, y, e))
lexical_through a b c (inr x) (inr y) = let p = x.1 in let q = y.1 in inr (x.0 ∙ y.0, omega (arith, p, q))

lexical_back : (a b : ℕ × ℕ) → Lexical a b → Lexical b a → (a.0 ≡ b.0) × (a.1 ≡ b.1)
lexical_back a b (inl x) (inl y) = absurd (omega (arith, x, y))
lexical_back a b (inl x) (inr y) = let e = y.0 in absurd (omega (arith, x, e))
lexical_back a b (inr x) (inl y) = let e = x.0 in absurd (omega (arith, y, e))
lexical_back a b (inr x) (inr y) = let p = x.1 in let q = y.1 in (x.0, omega (arith, p, q))

-- along a list in order
climbs : (keys : List (ℕ × ℕ)) → IsSorted key_cmp keys → (d : ℕ × ℕ) (i n : ℕ) → i + n < length keys → Lexical (get_or keys i d) (get_or keys (i + n) d)
climbs keys sorted d i zero lt = let e : i ≡ i + 0 = omega arith in inr (ap (λ k. (get_or keys k d).0) e, le_same (ap (λ k. (get_or keys k d).1) e))
  where
    le_same : {m n : ℕ} → m ≡ n → m ≤ n
    le_same e = omega arith
climbs keys sorted d i (suc n) lt =
    let before = climbs keys sorted d i n (omega (arith, lt)) in
    let step = not_less (get_or keys (i + n) d) (get_or keys (i + n + 1) d) (sorted (i + n) d (omega arith) (omega (arith, lt))) in
    let e : i + n + 1 ≡ i + suc n = omega arith in
    lexical_through (get_or keys i d) (get_or keys (i + n) d) (get_or keys (i + suc n) d) before (subst (λ k. Lexical (get_or keys (i + n) d) (get_or keys k d)) e step)

pair_same : (a b : ℕ × ℕ) → a.0 ≡ b.0 → a.1 ≡ b.1 → a ≡ b
pair_same a b e f = ap (λ n. let k : ℕ × ℕ = (n, a.1) in k) e ∙ ap (λ n. let k : ℕ × ℕ = (b.0, n) in k) f

abbrev pub SameKey : ℕ × ℕ → ℕ × ℕ → Type 0
SameKey a b = (a.0 ≡ b.0) × (a.1 ≡ b.1)

abbrev pub no_span : BitSpan
no_span = record { start = 0; length = 0 }

abbrev pub no_key : ℕ × ℕ
no_key = (0, 0)

differ_turned : (a b : ℕ × ℕ) → Differ a b → Differ b a
differ_turned a b differ = λ e. differ (sym e)

pub keys_distinct : (keys : List (ℕ × ℕ)) → IsSorted key_cmp keys → AllAdjacentBelow Differ keys (length keys) → AreDistinct keys
keys_distinct keys sorted differ = two_in_order Differ differ_turned keys (λ i j x y less e f same.
    let p = read_at keys i x x e in
    let q = read_at keys j y x f in
    let lt = q.0 in
    let n = j - (i + 1) in
    let at : i + 1 + n ≡ j = omega (arith, less) in
    let up : Lexical (get_or keys (i + 1) x) (get_or keys j x) = subst (λ k. Lexical (get_or keys (i + 1) x) (get_or keys k x)) at (climbs keys sorted x (i + 1) n (omega (arith, lt, at))) in
    let step : Lexical (get_or keys i x) (get_or keys (i + 1) x) = not_less (get_or keys i x) (get_or keys (i + 1) x) (sorted i x (omega arith) (omega (arith, lt, less))) in
    let last : get_or keys j x ≡ get_or keys i x = sym q.1 ∙ (sym same ∙ p.1) in
    let back : Lexical (get_or keys (i + 1) x) (get_or keys i x) = subst (λ (k : ℕ × ℕ). Lexical (get_or keys (i + 1) x) k) last up in
    let both = lexical_back (get_or keys i x) (get_or keys (i + 1) x) step back in
    differ i x (omega (arith, lt, less)) (pair_same (get_or keys i x) (get_or keys (i + 1) x) both.0 both.1))

pub keys_repeat : (keys : List (ℕ × ℕ)) (i : ℕ) (a b : ℕ × ℕ) → 1 ≤ i → i < length keys → a ≡ get_or keys (i - 1) a → b ≡ get_or keys i b → a ≡ b → AreDistinct keys → ⊥
keys_repeat keys i a b some lt is_a is_b same distinct =
    distinct.each (i - 1) i a b (λ e. omega (arith, e, some)) (get_read keys (i - 1) a (omega (arith, lt)) is_a) (get_read keys i b lt is_b) same

-- one neighbour more
pub span_next : (spans : List BitSpan) (i : ℕ) (d : BitSpan) → AreLong spans → 1 ≤ i → i < length spans → AllAdjacentBelow EndsBefore spans i → ((get_or spans i d).start - (get_or spans (i - 1) d).start < (get_or spans (i - 1) d).length → ⊥) → AllAdjacentBelow EndsBefore spans (i + 1)
span_next spans i d long some lt before ends = all_adjacent_more spans EndsBefore i some before (λ e.
    let one : get_or spans (i - 1) d ≡ get_or spans (i - 1) e = any_default spans (i - 1) d e (omega (arith, lt)) in
    let two : get_or spans i d ≡ get_or spans i e = any_default spans i d e lt in
    let at = get_read spans (i - 1) (get_or spans (i - 1) d) (omega (arith, lt)) (any_default spans (i - 1) d (get_or spans (i - 1) d) (omega (arith, lt))) in
    let bit = long.long (i - 1) (get_or spans (i - 1) d) at in
    subst (λ (s : BitSpan). EndsBefore s (get_or spans i e)) one (subst (λ (s : BitSpan). EndsBefore (get_or spans (i - 1) d) s) two (omega (arith, ends, bit))))

-- where one goes on into the next
pub spans_found : (spans : List BitSpan) (i : ℕ) (d : BitSpan) → IsNonDecreasingBy (λ (span : BitSpan). span.start) spans → AreLong spans → 1 ≤ i → i < length spans → (get_or spans i d).start - (get_or spans (i - 1) d).start < (get_or spans (i - 1) d).length → ShareNoBit spans → ⊥
spans_found spans i d sorted long some lt meet apart =
    spans_meet spans sorted long i (get_or spans (i - 1) d) (get_or spans i d) some lt (any_default spans (i - 1) d (get_or spans (i - 1) d) (omega (arith, lt))) (any_default spans i d (get_or spans i d) lt) meet apart

pub spans_done : (spans : List BitSpan) (i : ℕ) → IsNonDecreasingBy (λ (span : BitSpan). span.start) spans → length spans ≤ i → AllAdjacentBelow EndsBefore spans i → ShareNoBit spans
spans_done spans i sorted past ends = spans_apart spans sorted (λ k d lt. ends k d (omega (arith, lt, past)))

pub key_next : (keys : List (ℕ × ℕ)) (i : ℕ) (d : ℕ × ℕ) → 1 ≤ i → i < length keys → AllAdjacentBelow Differ keys i → (SameKey (get_or keys (i - 1) d) (get_or keys i d) → ⊥) → AllAdjacentBelow Differ keys (i + 1)
key_next keys i d some lt before differ = all_adjacent_more keys Differ i some before (λ e same.
    let one : get_or keys (i - 1) d ≡ get_or keys (i - 1) e = any_default keys (i - 1) d e (omega (arith, lt)) in
    let two : get_or keys i d ≡ get_or keys i e = any_default keys i d e lt in
    let both : get_or keys (i - 1) d ≡ get_or keys i d = one ∙ (same ∙ sym two) in
    differ (ap (λ (k : ℕ × ℕ). k.0) both, ap (λ (k : ℕ × ℕ). k.1) both))

pub key_found : (keys : List (ℕ × ℕ)) (i : ℕ) (d : ℕ × ℕ) → 1 ≤ i → i < length keys → SameKey (get_or keys (i - 1) d) (get_or keys i d) → AreDistinct keys → ⊥
key_found keys i d some lt same distinct =
    keys_repeat keys i (get_or keys (i - 1) d) (get_or keys i d) some lt (any_default keys (i - 1) d (get_or keys (i - 1) d) (omega (arith, lt))) (any_default keys i d (get_or keys i d) lt) (pair_same (get_or keys (i - 1) d) (get_or keys i d) same.0 same.1) distinct

pub keys_done : (keys : List (ℕ × ℕ)) (i : ℕ) → IsSorted key_cmp keys → length keys ≤ i → AllAdjacentBelow Differ keys i → AreDistinct keys
keys_done keys i sorted past differ = keys_distinct keys sorted (λ k d lt. differ k d (omega (arith, lt, past)))

-- in another order each span has a bit too
pub long_permuted : (xs ys : List BitSpan) → IsPermutation xs ys → AreLong xs → AreLong ys
long_permuted xs ys moved long = record {
  long = λ i a at.
      let there = place_of xs a (Contains-permutation ys xs a (IsPermutation-sym xs ys moved) (contains_at ys i a at)) in
      long.long there.0 a there.1;
}

-- an answer on the one order is one on the other
pub tells_permuted : {X : Type 0} (R : X → X → Type 0) (xs ys : List X) (b : Bool) → IsPermutation xs ys → IsTrue b ↔ (EachTwo R ys → ⊥) → IsTrue b ↔ (EachTwo R xs → ⊥)
tells_permuted R xs ys b moved told = (
  λ t two. told.0 t (two_permuted R xs ys moved two),
  λ none. told.1 (λ two. none (two_permuted R ys xs (IsPermutation-sym xs ys moved) two)),
)
