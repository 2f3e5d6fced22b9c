-- First places in lists that grow, and in tables by keys.
use Rattle.std.proofs.Common.{◌≡◌, ℕ, zero, suc, ◌+◌, Bool, true, false, Option, Some, None, List, [], ◌∷◌, ◌++◌, length, refl, ap, sym, ◌∙◌, arith, cond, ◌<◌, get_or, take, eq-eqb}
use Rattle.std.specs.Prelude.{nat_eq, ◌&&◌, if◌then◌else◌, is_some, not, find, slice_get}
use Rattle.std.specs.List.{position_from}
use Rattle.std.proofs.lemmas.Bool.{eqb-true}
use Rattle.cxx_hierarchy.specs.declared.records.ClassId.{ClassId}
use Rattle.cxx_program.specs.declared.program.TypedInit.{TypedInit}
use Rattle.foundation.proofs.Truth.{split, is_false, not_both}
use Rattle.foundation.proofs.Places.{take_next}
use Rattle.path_bodies.specs.declared.table.MemberKey.{MemberKey}
use Rattle.path_bodies.specs.Places.{same_member_key, first_place, member_key, sets}
use Rattle.path_bodies.specs.invariants.Firsts.{first_or, only_if, item_at_place}

place_pushed : {X : Type 0} (t : X → Bool) (i : ℕ) (xs : List X) (y : X) → position_from t i (xs ++ y ∷ []) ≡ first_or (position_from t i xs) (only_if (t y) (i + length xs))
place_pushed t i [] y = split (t y) (λ b. cond b (Some i) None ≡ only_if b (i + 0)) (λ e. ap Some (let f : i ≡ i + 0 = omega arith in f)) (λ e. refl)
place_pushed t i (x ∷ xs) y =
    split (t x) (λ b. cond b (Some i) (position_from t (i + 1) (xs ++ y ∷ [])) ≡ first_or (cond b (Some i) (position_from t (i + 1) xs)) (only_if (t y) (i + length (x ∷ xs))))
    (λ e. refl)
    (λ e. let f : i + 1 + length xs ≡ i + length (x ∷ xs) = omega arith in place_pushed t (i + 1) xs y ∙ ap (λ n. first_or (position_from t (i + 1) xs) (only_if (t y) n)) f)

-- one item more
pub first_pushed : {X : Type 0} (t : X → Bool) (xs : List X) (y : X) → first_place t (xs ++ y ∷ []) ≡ first_or (first_place t xs) (only_if (t y) (length xs))
first_pushed t xs y = place_pushed t 0 xs y ∙ ap (λ n. first_or (first_place t xs) (only_if (t y) n)) (let e : 0 + length xs ≡ length xs = omega arith in e)

pub find_pushed : {X : Type 0} (t : X → Bool) (xs : List X) (y : X) → t y ≡ false → find t (xs ++ y ∷ []) ≡ find t xs
find_pushed t [] y e = ap (λ b. cond b (Some y) None) e
find_pushed t (x ∷ xs) y e = split (t x) (λ b. cond b (Some x) (find t (xs ++ y ∷ [])) ≡ cond b (Some x) (find t xs)) (λ f. refl) (λ f. find_pushed t xs y e)

place_next : {X : Type 0} (t : X → Bool) (i : ℕ) (xs : List X) → position_from t i xs ≡ None → find t xs ≡ None
place_next t i [] = λ e. refl
place_next t i (x ∷ xs) = split (t x) (λ b. cond b (Some i) (position_from t (i + 1) xs) ≡ None → cond b (Some x) (find t xs) ≡ None) (λ f e. absurd (cc)) (λ f e. place_next t (i + 1) xs e)

-- none before: the item itself is found, where it passes
pub find_new : {X : Type 0} (t : X → Bool) (xs : List X) (y : X) → first_place t xs ≡ None → t y ≡ true → find t (xs ++ y ∷ []) ≡ Some y
find_new {X} t xs y none passes = go 0 xs none
  where
    go : (i : ℕ) (xs : List X) → position_from t i xs ≡ None → find t (xs ++ y ∷ []) ≡ Some y
    go i [] = λ e. ap (λ b. cond b (Some y) None) passes
    go i (x ∷ xs) = split (t x) (λ b. cond b (Some i) (position_from t (i + 1) xs) ≡ None → cond b (Some x) (find t (xs ++ y ∷ [])) ≡ Some y) (λ f e. absurd (cc)) (λ f e. go (i + 1) xs e)

pub find_none : {X : Type 0} (t : X → Bool) (xs : List X) → first_place t xs ≡ None → find t xs ≡ None
find_none t xs e = place_next t 0 xs e

-- one before: what is found stays
pub find_old : {X : Type 0} (t : X → Bool) (xs : List X) (y : X) → is_some (first_place t xs) ≡ true → find t (xs ++ y ∷ []) ≡ find t xs
find_old {X} t xs y there = go 0 xs there
  where
    go : (i : ℕ) (xs : List X) → is_some (position_from t i xs) ≡ true → find t (xs ++ y ∷ []) ≡ find t xs
    go i [] = λ e. absurd (cc)
    go i (x ∷ xs) = split (t x) (λ b. is_some (cond b (Some i) (position_from t (i + 1) xs)) ≡ true → cond b (Some x) (find t (xs ++ y ∷ [])) ≡ cond b (Some x) (find t xs)) (λ f e. refl) (λ f e. go (i + 1) xs e)

-- the item at the first place is the first that passes
item_from : {X : Type 0} (t : X → Bool) (i n : ℕ) (xs : List X) → position_from t i xs ≡ Some n → (k : ℕ) × (n ≡ i + k) × (slice_get xs k ≡ find t xs)
item_from t i n [] = λ e. absurd (cc)
item_from {X} t i n (x ∷ xs) =
    split (t x) (λ b. cond b (Some i) (position_from t (i + 1) xs) ≡ Some n → (k : ℕ) × (n ≡ i + k) × (slice_get (x ∷ xs) k ≡ cond b (Some x) (find t xs)))
    (λ f e. let g : i ≡ n = cc in (0, let q : n ≡ i + 0 = omega arith in q, refl))
    (λ f e. let r = item_from t (i + 1) n xs e in let s = r.1 in (suc r.0, let q : n ≡ i + suc r.0 = omega arith in q, r.2))

pub item_found : {X : Type 0} (t : X → Bool) (xs : List X) → item_at_place xs (first_place t xs) ≡ find t xs
item_found {X} t xs = cases (first_place t xs) refl
  where
    cases : (o : Option ℕ) → first_place t xs ≡ o → item_at_place xs o ≡ find t xs
    cases None e = sym (find_none t xs e)
    cases (Some n) e = let r = item_from t 0 n xs e in let s = r.1 in let q : n ≡ r.0 = omega arith in ap (slice_get xs) q ∙ r.2

pub some_found : {X : Type 0} (t : X → Bool) (xs : List X) → is_some (first_place t xs) ≡ is_some (find t xs)
some_found t xs = go 0 xs
  where
    go : (i : ℕ) (xs : _) → is_some (position_from t i xs) ≡ is_some (find t xs)
    go i [] = refl
    go i (x ∷ xs) = split (t x) (λ b. is_some (cond b (Some i) (position_from t (i + 1) xs)) ≡ is_some (cond b (Some x) (find t xs))) (λ f. refl) (λ f. go (i + 1) xs)

-- keys that pass the test are one
pub same_is : (q k : MemberKey) → same_member_key q k ≡ true → q ≡ k
same_is q k = split (nat_eq q.class k.class) (λ b. (b && nat_eq q.index k.index) ≡ true → q ≡ k)
    (λ e f. let a = eqb-true q.class k.class e in let b = eqb-true q.index k.index f in λ i. record { class = a i; index = b i })
    (λ e f. absurd (cc))

-- a key that is there already
pub put_again : (places : MemberKey → Option ℕ) (k q : MemberKey) (n : ℕ) → is_some (places k) ≡ true → places q ≡ first_or (places q) (only_if (same_member_key q k) n)
put_again places k q n there = cases (places q) refl (same_member_key q k) refl
  where
    cases : (o : Option ℕ) → places q ≡ o → (b : Bool) → same_member_key q k ≡ b → o ≡ first_or o (only_if b n)
    cases (Some m) e b f = refl
    cases None e false f = refl
    cases None e true f = absurd (let g : places k ≡ None = ap places (sym (same_is q k f)) ∙ e in cc)

-- a new one
pub put_new : (places : MemberKey → Option ℕ) (k q : MemberKey) (n : ℕ) (r : Option ℕ) → places k ≡ None → r ≡ (if same_member_key q k then Some n else places q) → r ≡ first_or (places q) (only_if (same_member_key q k) n)
put_new places k q n r absent is = is ∙ cases (same_member_key q k) refl (places q) refl
  where
    cases : (b : Bool) → same_member_key q k ≡ b → (o : Option ℕ) → places q ≡ o → (if b then Some n else o) ≡ first_or o (only_if b n)
    cases true e None f = refl
    cases true e (Some m) f = absurd (let g : places k ≡ Some m = ap places (sym (same_is q k e)) ∙ f in cc)
    cases false e None f = refl
    cases false e (Some m) f = refl

take_length : {A : Type 0} (xs : List A) (i : ℕ) → i < length xs → length (take i xs) ≡ i
take_length [] i less = absurd (omega arith)
take_length (x ∷ xs) zero less = refl
take_length (x ∷ xs) (suc i) less = ap suc (take_length xs i (omega arith))

or_through : (a b c : Option ℕ) → first_or (first_or a b) c ≡ first_or a (first_or b c)
or_through None b c = refl
or_through (Some n) b c = refl

pub or_none : (o : Option ℕ) → first_or o None ≡ o
or_none None = refl
or_none (Some n) = refl

pub eq_turned : (a b : ℕ) → nat_eq a b ≡ nat_eq b a
eq_turned a b = split (nat_eq a b) (λ t. t ≡ nat_eq b a) (λ e. sym (eq-eqb b a (sym (eqb-true a b e)))) (λ e. sym (is_false (nat_eq b a) (λ t. not_both (eq-eqb a b (sym (eqb-true b a t))) e)))

-- one initializer more
pub inits_next : (start old new : MemberKey → Option ℕ) (c : ClassId) (inits : List TypedInit) (i : ℕ) (init : TypedInit) (k : MemberKey) → k ≡ member_key c init.member → i < length inits → init ≡ get_or inits i init
    → ((q : MemberKey) → new q ≡ first_or (old q) (only_if (same_member_key q k) i))
    → ((q : MemberKey) → old q ≡ first_or (start q) (if nat_eq q.class c.0 then first_place (sets q.index) (take i inits) else None))
    → (q : MemberKey) → new q ≡ first_or (start q) (if nat_eq q.class c.0 then first_place (sets q.index) (take (i + 1) inits) else None)
inits_next start old new c inits i init k is less here put before q =
    put q ∙ (ap (λ (t : MemberKey). first_or (old q) (only_if (same_member_key q t) i)) is ∙ (ap (λ o. first_or o (only_if (same_member_key q (member_key c init.member)) i)) (before q)
    ∙ (or_through (start q) _ _ ∙ ap (first_or (start q))
    (split (nat_eq q.class c.0) (λ b. first_or (if b then first_place (sets q.index) (take i inits) else None) (only_if (b && nat_eq q.index init.member) i) ≡ (if b then first_place (sets q.index) (take (i + 1) inits) else None))
    (λ e. ap (λ b. first_or (first_place (sets q.index) (take i inits)) (only_if b i)) (eq_turned q.index init.member)
    ∙ (ap (λ n. first_or (first_place (sets q.index) (take i inits)) (only_if (sets q.index init) n)) (sym (take_length inits i less))
    ∙ (sym (first_pushed (sets q.index) (take i inits) init) ∙ ap (first_place (sets q.index)) (sym (take_next inits i init less here)))))
    (λ e. refl)))))

-- the same key under another name
pub keyed : (old new : MemberKey → Option ℕ) (n : ℕ) (k l : MemberKey) → k ≡ l → ((q : MemberKey) → new q ≡ first_or (old q) (only_if (same_member_key q k) n)) → (q : MemberKey) → new q ≡ first_or (old q) (only_if (same_member_key q l) n)
keyed old new n k l e put q = put q ∙ ap (λ (t : MemberKey). first_or (old q) (only_if (same_member_key q t) n)) e

-- what a test of an answer tells
pub not_none : (o : Option ℕ) (b : Bool) → is_some o ≡ not b → b ≡ false → is_some o ≡ true
not_none o b e f = e ∙ ap not f

pub is_none_at : (o : Option ℕ) (b : Bool) → is_some o ≡ not b → b ≡ true → o ≡ None
is_none_at None b e t = refl
is_none_at (Some n) b e t = absurd (let f : true ≡ not true = e ∙ ap not t in cc)
