-- Places by address and class, after one was changed or put where it belongs.
use Rattle.std.proofs.Common.{◌≡◌, ℕ, zero, suc, get_or, ◌⊎◌, inl, inr, ⊎_elim, ◌+◌, ◌-◌, ◌^◌, ◌<◌, ◌≤◌, Option, Some, None, List, [], ◌∷◌, length, set, take, drop, insert, cond, refl, ap, sym, ◌∙◌, subst, arith, Bool, true, false}
use Rattle.std.specs.Prelude.{nat_eq, ◌&&◌, if◌then◌else◌}
use Rattle.std.specs.List.{slice_get, find}
use Rattle.std.specs.Option.{option_or}
use Rattle.std.proofs.lemmas.Bool.Decides.{nat_tests}
use Rattle.std.proofs.lemmas.Bool.{cases_lt}
use Rattle.std.proofs.lemmas.List.Folds.{find_past, find-append}
use Rattle.std.proofs.lemmas.List.{take-append-drop}
use Rattle.std.proofs.lemmas.List.Edits.{length-insert, get_or-insert_below, get_or-insert_at, get_or-insert_above}
use Rattle.std.proofs.lemmas.Option.{slice_get_within, get_or_from_slice_get, slice_get-get_or}
use Rattle.byte_memory.specs.Regions.{CountsStarts}
use Rattle.byte_memory.proofs.Ascending.{HasAddress}
use Rattle.foundation.proofs.Chosen.{find_passes}
use Rattle.byte_memory.proofs.Lists.{find-none, find-first, slice_get-set, is_false}
use Rattle.byte_shadow.specs.declared.near_list.NearPlace.{NearPlace}
use Rattle.byte_shadow.specs.NearLists.{rank_of_place, near_rank, is_near_at, AscendingNear, AreNarrow, IsNearListed, with_other}
use Rattle.byte_shadow.proofs.Changed.{one_pair}

-- the place of a class at an address has that rank
pub near-rank : {T : Type 0} (items : List (NearPlace T)) (at class : ℕ) → HasAddress near_rank (λ o. 1) items (rank_of_place at class) (is_near_at at class)
near-rank {T} items at class k o here pass =
    let pair = one_pair o.at o.class at class pass in
    let same : near_rank o ≡ rank_of_place at class = λ i. rank_of_place (pair.0 i) (pair.1 i) in
    (omega (arith, same), omega (arith, same))

-- of an address that is not of 32 bits no place is listed
pub none-far : {T : Type 0} (items : List (NearPlace T)) (at class : ℕ) → AreNarrow items → 2 ^ 32 ≤ at → find (is_near_at at class) items ≡ None
none-far {T} items at class narrow far = find-none (is_near_at at class) items (λ k o here. is_false (is_near_at at class o) (λ pass.
    let pair = one_pair o.at o.class at class pass in
    let low : o.at < 2 ^ 32 = (narrow k o here).0 in
    let same : o.at ≡ at = pair.0 in
    omega (arith, low, same, far)))

-- an item after a change has the place of the one that stood there
pub at-set : {T : Type 0} (items : List (NearPlace T)) (at : ℕ) (old new : NearPlace T) → slice_get items at ≡ Some old → new.at ≡ old.at → new.class ≡ old.class →
    (k : ℕ) (o : NearPlace T) → slice_get (set items at new) k ≡ Some o → (before : NearPlace T) × (slice_get items k ≡ Some before) × (before.at ≡ o.at) × (before.class ≡ o.class)
at-set {T} items at old new here same alike k o there = by_test (nat_eq k at) refl
  where
    by_test : (z : Bool) → nat_eq k at ≡ z → (before : NearPlace T) × (slice_get items k ≡ Some before) × (before.at ≡ o.at) × (before.class ≡ o.class)
    by_test true t =
        let e : k ≡ at = grind (arith, nat_tests) in
        let got : Some new ≡ Some o = sym (slice_get-set items at k new true t (slice_get_within items at old here)) ∙ there in
        let one : new ≡ o = cc in
        (old, ap (slice_get items) e ∙ here, sym same ∙ ap (λ (p : NearPlace T). p.at) one, sym alike ∙ ap (λ (p : NearPlace T). p.class) one)
    by_test false t = (o, sym (slice_get-set items at k new false t (slice_get_within items at old here)) ∙ there, refl, refl)

pub ascending-set : {T : Type 0} (items : List (NearPlace T)) (at : ℕ) (old new : NearPlace T) → AscendingNear items → slice_get items at ≡ Some old → new.at ≡ old.at → new.class ≡ old.class → AscendingNear (set items at new)
ascending-set {T} items at old new up here same alike i j x y less first second =
    let x' = at-set items at old new here same alike i x first in
    let y' = at-set items at old new here same alike j y second in
    let apart : near_rank x'.0 + 1 ≤ near_rank y'.0 = up i j x'.0 y'.0 less x'.1 y'.1 in
    let low : near_rank x'.0 ≡ near_rank x = λ i. rank_of_place (x'.2 i) (x'.3 i) in
    let high : near_rank y'.0 ≡ near_rank y = λ i. rank_of_place (y'.2 i) (y'.3 i) in
    omega (arith, apart, low, high)

pub narrow-set : {T : Type 0} (items : List (NearPlace T)) (at : ℕ) (old new : NearPlace T) → AreNarrow items → slice_get items at ≡ Some old → new.at ≡ old.at → new.class ≡ old.class → AreNarrow (set items at new)
narrow-set {T} items at old new narrow here same alike k x there =
    let x' = at-set items at old new here same alike k x there in
    let fits = narrow k x'.0 x'.1 in
    (subst (λ n. n < 2 ^ 32) x'.2 fits.0, subst (λ n. n < 2 ^ 16) x'.3 fits.1)

-- what is found after an item was changed
pub listed-set : {T : Type 0} (items : List (NearPlace T)) (at : ℕ) (old : NearPlace T) (other distance : ℕ) (what : T) → AscendingNear items → slice_get items at ≡ Some old → IsNearListed items (set items at (with_other old other distance what)) (with_other old other distance what)
listed-set {T} items at old other distance what up here place class = by_test (nat_eq old.at place && nat_eq old.class class) refl
  where
    new : NearPlace T
    new = with_other old other distance what

    inside : at < length items
    inside = slice_get_within items at old here

    by_test : (z : Bool) → (nat_eq old.at place && nat_eq old.class class) ≡ z → find (is_near_at place class) (set items at new) ≡ (if z then Some new else find (is_near_at place class) items)
    by_test true t =
        let there : slice_get (set items at new) at ≡ Some new = slice_get-set items at at new true (grind (arith, nat_tests)) inside in
        let pair = one_pair old.at old.class place class t in
        find-first (is_near_at place class) (set items at new) at new there t (λ k o less found. is_false (is_near_at place class o) (λ also.
        let elsewhere : nat_eq k at ≡ false = grind (arith, nat_tests) in
        let before : slice_get items k ≡ Some o = sym (slice_get-set items at k new false elsewhere inside) ∙ found in
        let apart : near_rank o + 1 ≤ near_rank old = up k at o old less before here in
        let pair' = one_pair o.at o.class place class also in
        let same : near_rank o ≡ near_rank old = λ i. rank_of_place ((pair'.0 ∙ sym pair.0) i) ((pair'.1 ∙ sym pair.1) i) in
        omega (arith, apart, same)))
    by_test false t = find_past (is_near_at place class) items at new old (ap (is_near_at place class) (get_or_from_slice_get items at old old here) ∙ t) t

pub changed-near : {T : Type 0} (items : List (NearPlace T)) (at : ℕ) (read old : NearPlace T) (other distance : ℕ) (what : T) → read ≡ old → AscendingNear items → slice_get items at ≡ Some old → IsNearListed items (set items at (with_other read other distance what)) (with_other old other distance what)
changed-near {T} items at read old other distance what one up here place class = ap (λ (o : NearPlace T). find (is_near_at place class) (set items at (with_other o other distance what))) one ∙ listed-set items at old other distance what up here place class

-- an item of a list in which one was put stood before it, is that one, or stood behind it
pub insert-cases : {T : Type 0} (items : List (NearPlace T)) (at : ℕ) (new : NearPlace T) → at ≤ length items → (k : ℕ) (o : NearPlace T) → slice_get (insert items at new) k ≡ Some o →
    ((k < at) × (slice_get items k ≡ Some o)) ⊎ (((k ≡ at) × (new ≡ o)) ⊎ ((at < k) × (slice_get items (k - 1) ≡ Some o)))
insert-cases {T} items at new within k o there =
    ⊎_elim (λ before. inl (before, slice_get-get_or items k o (omega arith) ∙ ap Some (sym (get_or-insert_below items at new o k before within) ∙ got)))
    (λ after. inr (⊎_elim
    (λ behind. inr (behind, later behind))
    (λ least. let e : k ≡ at = omega arith in inl (e, sym (get_or-insert_at items at new o within) ∙ (ap (λ n. get_or (insert items at new) n o) (sym e) ∙ got)))
    (cases_lt at k)))
    (cases_lt k at)
  where
    got : get_or (insert items at new) k o ≡ o
    got = get_or_from_slice_get (insert items at new) k o o there

    inside : k < length items + 1
    inside = let long = length-insert items at new within in let w = slice_get_within (insert items at new) k o there in omega (arith, long, w)

    later : at < k → slice_get items (k - 1) ≡ Some o
    later behind =
        let more : k - 1 + 1 ≡ k = omega (arith, behind) in
        let it : get_or items (k - 1) o ≡ o = sym (get_or-insert_above items at new o (k - 1) (omega (arith, behind)) within) ∙ (ap (λ n. get_or (insert items at new) n o) more ∙ got) in
        slice_get-get_or items (k - 1) o (omega (arith, behind, inside)) ∙ ap Some it

-- something is found where an item passes
found-some : {T : Type 0} (p : NearPlace T → Bool) (xs : List (NearPlace T)) (k : ℕ) (x : NearPlace T) → slice_get xs k ≡ Some x → p x ≡ true → find p xs ≡ None → ⊥
found-some {T} p [] k x here pass none = cc
found-some {T} p (y ∷ ys) zero x here pass none = let same : y ≡ x = cc in let test : p y ≡ true = ap p same ∙ pass in let some : Some y ≡ None = rw test at none in cc
found-some {T} p (y ∷ ys) (suc k) x here pass none = by_test (p y) none (found-some p ys k x here pass)
  where
    by_test : (b : Bool) → cond b (Some y) (find p ys) ≡ None → (find p ys ≡ None → ⊥) → ⊥
    by_test true e rest = cc
    by_test false e rest = rest e

-- of items that rank at most there, and of which none is that of the place, each ranks below
pub ranks-below : {T : Type 0} (items : List (NearPlace T)) (at : ℕ) (new : NearPlace T) → AreNarrow items → new.class < 2 ^ 16 → CountsStarts near_rank items (near_rank new) at → find (is_near_at new.at new.class) items ≡ None →
    (k : ℕ) (o : NearPlace T) → k < at → slice_get items k ≡ Some o → near_rank o + 1 ≤ near_rank new
ranks-below {T} items at new narrow small count none k o less here = ⊎_elim (λ below. omega (arith, below)) (λ least. absurd (same least)) (cases_lt (near_rank o) (near_rank new))
  where
    same : near_rank new ≤ near_rank o → ⊥
    same least =
        let most : near_rank o ≤ near_rank new = count.below k o less here in
        let fits : o.class < 2 ^ 16 = (narrow k o here).1 in
        let place : o.at ≡ new.at = omega (arith, least, most, fits, small) in
        let class : o.class ≡ new.class = omega (arith, least, most, fits, small, place) in
        let pass : is_near_at new.at new.class o ≡ true = grind (arith, nat_tests) in
        absurd (found-some (is_near_at new.at new.class) items k o here pass none)

pub ascending-insert : {T : Type 0} (items : List (NearPlace T)) (at : ℕ) (new : NearPlace T) → AscendingNear items → AreNarrow items → new.class < 2 ^ 16 → at ≤ length items → CountsStarts near_rank items (near_rank new) at → find (is_near_at new.at new.class) items ≡ None → AscendingNear (insert items at new)
ascending-insert {T} items at new up narrow small within count none i j x y less first second =
    by_cases (insert-cases items at new within i x first) (insert-cases items at new within j y second)
  where
    Where : ℕ → NearPlace T → Type 0
    Where k o = ((k < at) × (slice_get items k ≡ Some o)) ⊎ (((k ≡ at) × (new ≡ o)) ⊎ ((at < k) × (slice_get items (k - 1) ≡ Some o)))

    by_cases : Where i x → Where j y → near_rank x + 1 ≤ near_rank y
    by_cases (inl a) (inl b) = up i j x y less a.1 b.1
    by_cases (inl a) (inr (inl b)) = subst (λ (z : NearPlace T). near_rank x + 1 ≤ near_rank z) b.1 (ranks-below items at new narrow small count none i x a.0 a.1)
    by_cases (inl a) (inr (inr b)) = let before = a.0 in let behind = b.0 in up i (j - 1) x y (omega arith) a.1 b.1
    by_cases (inr (inl a)) (inl b) = let e = a.0 in let before = b.0 in absurd (omega arith)
    by_cases (inr (inl a)) (inr (inl b)) = let e = a.0 in let f = b.0 in absurd (omega arith)
    by_cases (inr (inl a)) (inr (inr b)) =
        let e = a.0 in
        let behind = b.0 in
        let above : near_rank new < near_rank y = count.above (j - 1) y (omega arith) b.1 in
        subst (λ (z : NearPlace T). near_rank z + 1 ≤ near_rank y) a.1 (omega (arith, above))
    by_cases (inr (inr a)) (inl b) = let behind = a.0 in let before = b.0 in absurd (omega arith)
    by_cases (inr (inr a)) (inr (inl b)) = let behind = a.0 in let f = b.0 in absurd (omega arith)
    by_cases (inr (inr a)) (inr (inr b)) = let behind = a.0 in let after = b.0 in up (i - 1) (j - 1) x y (omega arith) a.1 b.1

pub narrow-insert : {T : Type 0} (items : List (NearPlace T)) (at : ℕ) (new : NearPlace T) → AreNarrow items → new.at < 2 ^ 32 → new.class < 2 ^ 16 → at ≤ length items → AreNarrow (insert items at new)
narrow-insert {T} items at new narrow low small within k o there =
    ⊎_elim (λ a. narrow k o a.1) (λ rest. ⊎_elim (λ b. subst (λ (z : NearPlace T). (z.at < 2 ^ 32) × (z.class < 2 ^ 16)) b.1 (low, small)) (λ c. narrow (k - 1) o c.1) rest) (insert-cases items at new within k o there)

-- a list is in order after an item was put, or memory was wanting
pub ascending-put : {T : Type 0} (items after : List (NearPlace T)) (at : ℕ) (new : NearPlace T) (done : Bool) → after ≡ (if done then insert items at new else items) → AscendingNear items → AreNarrow items → new.class < 2 ^ 16 → at ≤ length items → CountsStarts near_rank items (near_rank new) at → find (is_near_at new.at new.class) items ≡ None → AscendingNear after
ascending-put {T} items after at new true e up narrow small within count none = subst AscendingNear (sym e) (ascending-insert items at new up narrow small within count none)
ascending-put {T} items after at new false e up narrow small within count none = subst AscendingNear (sym e) up

pub narrow-put : {T : Type 0} (items after : List (NearPlace T)) (at : ℕ) (new : NearPlace T) (done : Bool) → after ≡ (if done then insert items at new else items) → AreNarrow items → new.at < 2 ^ 32 → new.class < 2 ^ 16 → at ≤ length items → AreNarrow after
narrow-put {T} items after at new true e narrow low small within = subst AreNarrow (sym e) (narrow-insert items at new narrow low small within)
narrow-put {T} items after at new false e narrow low small within = subst AreNarrow (sym e) narrow

-- what is found after an item was put
pub listed-insert : {T : Type 0} (items : List (NearPlace T)) (at : ℕ) (new : NearPlace T) → find (is_near_at new.at new.class) items ≡ None → IsNearListed items (insert items at new) new
listed-insert {T} items at new none place class =
    find-append p (take at items) (new ∷ drop at items) ∙ by_test (nat_eq new.at place && nat_eq new.class class) refl
  where
    p : NearPlace T → Bool
    p = is_near_at place class

    whole : find p items ≡ option_or (find p (take at items)) (find p (drop at items))
    whole = ap (find p) (sym (take-append-drop at items)) ∙ find-append p (take at items) (drop at items)

    no_front : (a b : Option (NearPlace T)) → option_or a b ≡ None → a ≡ None
    no_front None b e = refl
    no_front (Some x) b e = cc

    by_test : (z : Bool) → (nat_eq new.at place && nat_eq new.class class) ≡ z → option_or (find p (take at items)) (cond z (Some new) (find p (drop at items))) ≡ (if z then Some new else find p items)
    by_test true t =
        let pair = one_pair new.at new.class place class t in
        let here : find p items ≡ None = (λ i. find (is_near_at (sym pair.0 i) (sym pair.1 i)) items) ∙ none in
        ap (λ found. option_or found (Some new)) (no_front (find p (take at items)) (find p (drop at items)) (sym whole ∙ here))
    by_test false t = sym whole

-- what stands in a list from a place on
dropped : {T : Type 0} (start : ℕ) (items : List (NearPlace T)) (k : ℕ) → slice_get (drop start items) k ≡ slice_get items (start + k)
dropped {T} zero items k = let e : 0 + k ≡ k = omega arith in rw e refl
dropped {T} (suc n) [] k = refl
dropped {T} (suc n) (x ∷ xs) k = let e : suc n + k ≡ suc (n + k) = omega arith in rw e (dropped n xs k)

-- a count of the items from a place on, where that one ranks at most there, is one of all with those before it
pub count-tail : {T : Type 0} (items : List (NearPlace T)) (start rank count : ℕ) (first : NearPlace T) → AscendingNear items → slice_get items start ≡ Some first → near_rank first ≤ rank → CountsStarts near_rank (drop start items) rank count → CountsStarts near_rank items rank (start + count)
count-tail {T} items start rank count first up here low tail = record {
  below = λ k x less there. ⊎_elim
      (λ before. let apart : near_rank x + 1 ≤ near_rank first = up k start x first before there here in omega (arith, apart, low))
      (λ after. tail.below (k - start) x (omega arith) (moved k x after there))
      (cases_lt k start);
  above = λ k x more there. tail.above (k - start) x (omega arith) (moved k x (omega arith) there);
}
  where
    moved : (k : ℕ) (x : NearPlace T) → start ≤ k → slice_get items k ≡ Some x → slice_get (drop start items) (k - start) ≡ Some x
    moved k x after there = let e : start + (k - start) ≡ k = omega (arith, after) in dropped start items (k - start) ∙ (ap (slice_get items) e ∙ there)

-- the items from a place on ascend too
pub ascending-drop : {T : Type 0} (items : List (NearPlace T)) (start : ℕ) → AscendingNear items → AscendingNear (drop start items)
ascending-drop {T} items start up i j x y less first second = up (start + i) (start + j) x y (omega arith) (sym (dropped start items i) ∙ first) (sym (dropped start items j) ∙ second)

-- all items rank at most there where the last one does
pub count-all : {T : Type 0} (items : List (NearPlace T)) (rank i : ℕ) (last : NearPlace T) → AscendingNear items → i + 1 ≡ length items → slice_get items i ≡ Some last → near_rank last ≤ rank → CountsStarts near_rank items rank (length items)
count-all {T} items rank i last up end here low = record {
  below = λ k x less there. ⊎_elim
      (λ before. let apart : near_rank x + 1 ≤ near_rank last = up k i x last before there here in omega (arith, apart, low))
      (λ after.
      let same : k ≡ i = omega arith in
      let both : Some x ≡ Some last = sym there ∙ (ap (slice_get items) same ∙ here) in
      let one : x ≡ last = cc in
      subst (λ (z : NearPlace T). near_rank z ≤ rank) (sym one) low)
      (cases_lt k i);
  above = λ k x more there. let inside = slice_get_within items k x there in absurd (omega arith);
}

-- a place that is listed already is changed to another one of the same address and class
pub put-there : {T : Type 0} (items after : List (NearPlace T)) (index : ℕ) (item : NearPlace T) → index < length items → find (is_near_at item.at item.class) items ≡ slice_get items index →
    ((old : NearPlace T) → slice_get items index ≡ Some old → IsNearListed items after (with_other old item.other_class item.distance item.what)) → IsNearListed items after item
put-there {T} items after index item inside found put =
    let old : NearPlace T = get_or items index item in
    let here : slice_get items index ≡ Some old = slice_get-get_or items index item inside in
    let pair = one_pair old.at old.class item.at item.class (find_passes (is_near_at item.at item.class) items old (found ∙ here)).1 in
    let same : with_other old item.other_class item.distance item.what ≡ item = λ i. record item { at = pair.0 i; class = pair.1 i } in
    subst (IsNearListed items after) same (put old here)
