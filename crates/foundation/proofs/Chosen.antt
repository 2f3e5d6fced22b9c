-- What a test or a partial function chooses from a list.
use Rattle.std.proofs.Common.{◌≡◌, inl, inr, ⊎_elim, Bool, true, false, cond, Option, Some, None, List, [], ◌∷◌, refl, ap, subst, sym, ◌∙◌}
use Rattle.std.specs.Prelude.{filter, ◌||◌, find, if◌then◌else◌}
use Rattle.std.specs.List.{filter_map, cons_option, list_any, list_all}
use Rattle.std.proofs.lemmas.Bool.{and_parts}
use Rattle.foundation.proofs.Truth.{split, or_left, or_right}
use Rattle.foundation.proofs.Members.{Has, EachOnce}

-- what passes a test
pub has_filter : {X : Type 0} (p : X → Bool) (xs : List X) (x : X) → Has (filter p xs) x → Has xs x × (p x ≡ true)
has_filter p [] x = λ h. absurd h
has_filter {X} p (y ∷ xs) x =
    split (p y) (λ b. Has (cond b (y ∷ filter p xs) (filter p xs)) x → Has (y ∷ xs) x × (p x ≡ true))
    (λ e h. ⊎_elim (λ same. (inl same, ap p (sym same) ∙ e)) (λ k. let r = has_filter p xs x k in (inr r.0, r.1)) h)
    (λ e h. let r = has_filter p xs x h in (inr r.0, r.1))

pub filter_has : {X : Type 0} (p : X → Bool) (xs : List X) (x : X) → Has xs x → p x ≡ true → Has (filter p xs) x
filter_has p [] x h k = absurd h
filter_has {X} p (y ∷ xs) x h k =
    split (p y) (λ b. Has (cond b (y ∷ filter p xs) (filter p xs)) x)
    (λ e. ⊎_elim (λ same. inl same) (λ r. inr (filter_has p xs x r k)) h)
    (λ e. ⊎_elim (λ same. absurd (let f : p x ≡ false = ap p (sym same) ∙ e in let g : true ≡ false = sym k ∙ f in cc)) (λ r. filter_has p xs x r k) h)

pub once_filter : {X : Type 0} (p : X → Bool) (xs : List X) → EachOnce xs → EachOnce (filter p xs)
once_filter p [] once = tt
once_filter {X} p (x ∷ xs) once =
    split (p x) (λ b. EachOnce (cond b (x ∷ filter p xs) (filter p xs)))
    (λ e. (λ h. once.0 (has_filter p xs x h).0, once_filter p xs once.1))
    (λ e. once_filter p xs once.1)

pub filter_all : {X : Type 0} (p : X → Bool) (xs : List X) → ((x : X) → Has xs x → p x ≡ true) → filter p xs ≡ xs
filter_all p [] all = refl
filter_all p (x ∷ xs) all = let t = all x (inl refl) in let r = filter_all p xs (λ y h. all y (inr h)) in rw t (ap (λ ys. x ∷ ys) r)

pub filter_none : {X : Type 0} (p : X → Bool) (xs : List X) → ((x : X) → Has xs x → p x ≡ false) → filter p xs ≡ []
filter_none p [] none = refl
filter_none p (x ∷ xs) none = rw (none x (inl refl)) (filter_none p xs (λ y has. none y (inr has)))

pub filter_first : {X : Type 0} (p : X → Bool) (x : X) (xs : List X) → p x ≡ true → filter p (x ∷ xs) ≡ x ∷ filter p xs
filter_first p x xs e = rw e refl

pub filter_same : {X : Type 0} (p q : X → Bool) (xs : List X) → ((x : X) → Has xs x → p x ≡ q x) → filter p xs ≡ filter q xs
filter_same p q [] same = refl
filter_same {X} p q (x ∷ xs) same = ap (λ b. cond b (x ∷ filter p xs) (filter p xs)) (same x (inl refl)) ∙ ap (λ (ys : List X). cond (q x) (x ∷ ys) ys) (filter_same p q xs (λ y has. same y (inr has)))

-- what a partial function gives
pub has_filter_map : {X Y : Type 0} (f : X → Option Y) (xs : List X) (x : X) (y : Y) → Has xs x → f x ≡ Some y → Has (filter_map f xs) y
has_filter_map f [] x y has e = absurd has
has_filter_map {X} {Y} f (z ∷ xs) x y has e = ⊎_elim
    (λ same. let is : f z ≡ Some y = ap f same ∙ e in subst (λ (o : Option Y). Has (cons_option o (filter_map f xs)) y) (sym is) (inl refl))
    (λ rest. later (f z) (has_filter_map f xs x y rest e)) has
  where
    later : (o : Option Y) → Has (filter_map f xs) y → Has (cons_option o (filter_map f xs)) y
    later None h = h
    later (Some w) h = inr h

pub from_filter_map : {X Y : Type 0} (f : X → Option Y) (xs : List X) (y : Y) → Has (filter_map f xs) y → (x : X) × Has xs x × (f x ≡ Some y)
from_filter_map f [] y h = absurd h
from_filter_map {X} {Y} f (z ∷ xs) y h = by_option (f z) refl (λ k. from_filter_map f xs y k) h
  where
    further : (x : X) × Has xs x × (f x ≡ Some y) → (x : X) × Has (z ∷ xs) x × (f x ≡ Some y)
    further r = (r.0, inr r.1, r.2)

    by_option : (o : Option Y) → f z ≡ o → (Has (filter_map f xs) y → (x : X) × Has xs x × (f x ≡ Some y)) → Has (cons_option o (filter_map f xs)) y → (x : X) × Has (z ∷ xs) x × (f x ≡ Some y)
    by_option None e next k = further (next k)
    by_option (Some w) e next k = ⊎_elim (λ same. (z, inl refl, e ∙ ap (λ (u : Y). Some u) same)) (λ r. further (next r)) k

-- what is found passes
pub find_passes : {X : Type 0} (p : X → Bool) (xs : List X) (x : X) → find p xs ≡ Some x → Has xs x × (p x ≡ true)
find_passes p [] x e = cc
find_passes p (z ∷ xs) x e = split (p z) (λ b. p z ≡ b → (if b then Some z else find p xs) ≡ Some x → Has (z ∷ xs) x × (p x ≡ true))
    (λ t same f. let g : z ≡ x = cc in (inl g, ap p (sym g) ∙ same))
    (λ t same f. let r = find_passes p xs x f in (inr r.0, r.1)) refl e

-- a test of each, and of some
pub record HasAny {X : Type 0} (p : X → Bool) (xs : List X) : Type 0 where
  pub item : X
  pub has : Has xs item
  pub passes : p item ≡ true

pub any_has : {X : Type 0} (p : X → Bool) (xs : List X) → list_any p xs ≡ true → HasAny p xs
any_has p [] e = let f : false ≡ true = e in cc
any_has {X} p (x ∷ xs) e = split (p x) (λ b. (b || list_any p xs) ≡ true → p x ≡ b → HasAny p (x ∷ xs))
    (λ t k is. record { item = x; has = inl refl; passes = is })
    (λ f k is. let r = any_has p xs k in record { item = r.item; has = inr r.has; passes = r.passes }) e refl

pub has_any : {X : Type 0} (p : X → Bool) (xs : List X) (x : X) → Has xs x → p x ≡ true → list_any p xs ≡ true
has_any p [] x h e = absurd h
has_any p (y ∷ xs) x h e = ⊎_elim (λ q. or_left (p y) (list_any p xs) (ap p q ∙ e)) (λ r. or_right (p y) (list_any p xs) (has_any p xs x r e)) h

pub any_same : {X : Type 0} (p q : X → Bool) (xs : List X) → ((x : X) → Has xs x → p x ≡ q x) → list_any p xs ≡ list_any q xs
any_same p q [] same = refl
any_same p q (x ∷ xs) same = ap (λ b. b || list_any p xs) (same x (inl refl)) ∙ ap (λ b. q x || b) (any_same p q xs (λ y has. same y (inr has)))

pub all_each : {X : Type 0} (p : X → Bool) (xs : List X) → list_all p xs ≡ true → (x : X) → Has xs x → p x ≡ true
all_each p [] e x h = absurd h
all_each p (y ∷ xs) e x h = let b = and_parts (p y) (list_all p xs) e in ⊎_elim (λ q. ap p (sym q) ∙ b.0) (λ r. all_each p xs b.1 x r) h

pub each_all : {X : Type 0} (p : X → Bool) (xs : List X) → ((x : X) → Has xs x → p x ≡ true) → list_all p xs ≡ true
each_all p [] each = refl
each_all p (x ∷ xs) each = let a = each x (inl refl) in let b = each_all p xs (λ y h. each y (inr h)) in rw (a, b) refl
