-- The first broken test of a list that is sorted by rule is the least broken rule; and what comes behind it.
use Rattle.std.proofs.Common.{arith, ◌≡◌, ℕ, suc, ◌<◌, ◌≤◌, ◌⊎◌, inl, inr, ⊎_elim, Bool, true, false, ◌||◌, Some, None, Option, List, [], ◌∷◌, ◌++◌, length, refl, ap, sym, ◌∙◌}
use Rattle.std.proofs.Math.Nat.{min-eq_left, min-eq_right}
use Rattle.cxx_hierarchy.specs.Classes.{Classes}
use Rattle.foundation.proofs.Truth.{split}
use Rattle.std.specs.Prelude.{if◌then◌else◌, min, slice_get, find}
use Rattle.std.specs.List.{flat_map}
use Rattle.std.specs.Option.{option_or}
use Rattle.path_rules.specs.declared.Undefined.{Undefined}
use Rattle.path_rules.specs.declared.Undefined.TheVariants.{NullUse, Dangling, NotReady, OutsideView, Unset as UnsetUse, PureCall, BadDowncast, NonVirtualDelete, NotHeapObject, NotComplete, MissingReturn, Overflow}
use Rattle.path_model.specs.Values.{Objects}
use Rattle.path_model.specs.Uses.{StatementUse, Reads, Follows, Guards, Passes, Views, Takes, Downs, Deletes, Dumps, Closes, Overflows}
use Rattle.path_model.specs.Rules.{rules, breaks, is_broken, refused}
use Rattle.path_model.specs.Order.{Asked, first_broken, asks, asked_of, sorted, order}
use Rattle.path_model.proofs.Ranks.{first_place, rank, rank_append, refused_rank}

-- what breaks is asked
pub asks_all : (h : Classes) (s : Objects) (r : Undefined) (u : StatementUse) → breaks h s r u ≡ true → asks r u ≡ true
asks_all h s NullUse (Follows v) e = refl
asks_all h s Dangling (Reads v) e = refl
asks_all h s NotReady (Guards v) e = refl
asks_all h s NotReady (Passes p) e = refl
asks_all h s OutsideView (Views v) e = refl
asks_all h s UnsetUse (Reads v) e = refl
asks_all h s PureCall (Takes v f) e = refl
asks_all h s BadDowncast (Downs v target i) e = refl
asks_all h s NonVirtualDelete (Deletes v false) e = refl
asks_all h s NotHeapObject (Deletes v is_virtual) e = refl
asks_all h s NotComplete (Deletes v is_virtual) e = refl
asks_all h s NotComplete (Dumps v) e = refl
asks_all h s MissingReturn Closes e = refl
asks_all h s Overflow (Overflows op t a b) e = refl
asks_all h s rule other e = absurd (cc)

asked_first : (h : Classes) (s : Objects) (r : Undefined) (us : List StatementUse) (rest : List Asked) → first_broken h s (asked_of r us ++ rest) ≡ (if is_broken h s us r then Some r else first_broken h s rest)
asked_first h s r [] rest = refl
asked_first h s r (u ∷ us) rest = split (breaks h s r u)
    (λ b. breaks h s r u ≡ b → first_broken h s (asked_of r (u ∷ us) ++ rest) ≡ (if b || is_broken h s us r then Some r else first_broken h s rest))
    (λ e _. rw (asks_all h s r u e, e) refl)
    (λ e _. split (asks r u) (λ b. first_broken h s ((if b then record { rule = r; of = u } ∷ asked_of r us else asked_of r us) ++ rest) ≡ (if is_broken h s us r then Some r else first_broken h s rest))
    (λ _. rw e (asked_first h s r us rest))
    (λ _. asked_first h s r us rest)) refl

sorted_by : (h : Classes) (s : Objects) (us : List StatementUse) (rs : List Undefined) → find (is_broken h s us) rs ≡ first_broken h s (flat_map (λ r. asked_of r us) rs)
sorted_by h s us [] = refl
sorted_by h s us (r ∷ rest) = ap (λ (x : Option Undefined). if is_broken h s us r then Some r else x) (sorted_by h s us rest)
    ∙ sym (asked_first h s r us (flat_map (λ r. asked_of r us) rest))

-- the tests, in this order, answer the refusal of the uses
pub record Answers (h : Classes) (s : Objects) (us : List StatementUse) (order : List Asked) : Type 0 where
  pub same : refused h s us ≡ first_broken h s order

-- THE GENERIC LEMMA: the least broken rule is the first broken of the tests that are sorted by rule
pub by_sort : (h : Classes) (s : Objects) (us : List StatementUse) → Answers h s us (sorted us)
unfolding refused sorted
by_sort h s us = record { same = sorted_by h s us rules }

-- the first that is broken of two orders
pub broken_append : (h : Classes) (s : Objects) (x y : List Asked) → first_broken h s (x ++ y) ≡ option_or (first_broken h s x) (first_broken h s y)
broken_append h s [] y = refl
broken_append h s (t ∷ x) y = split (breaks h s t.rule t.of) (λ b. (if b then Some t.rule else first_broken h s (x ++ y)) ≡ option_or (if b then Some t.rule else first_broken h s x) (first_broken h s y)) (λ e. refl) (λ e. broken_append h s x y)

-- nothing is broken, or a rule of that rank
pub data Outcome (h : Classes) (s : Objects) (us : List StatementUse) : Type 0 where
  none : refused h s us ≡ None → rank h s us ≡ 12 → Outcome h s us
  broken : (r : Undefined) → refused h s us ≡ Some r → rank h s us < 12 → Outcome h s us

abbrev found : (Undefined → Bool) → List Undefined → Type 0
found f rs = ((find f rs ≡ None) × (first_place f rs ≡ length rs)) ⊎ ((r : Undefined) × (find f rs ≡ Some r) × (first_place f rs < length rs))

found_by : (f : Undefined → Bool) (rs : List Undefined) → found f rs
unfolding first_place
found_by f [] = inl (refl, refl)
found_by f (r ∷ rest) = split (f r) (λ b. ((((if b then Some r else find f rest) ≡ None) × ((if b then 0 else suc (first_place f rest)) ≡ length (r ∷ rest))) ⊎ ((t : Undefined) × ((if b then Some r else find f rest) ≡ Some t) × ((if b then 0 else suc (first_place f rest)) < length (r ∷ rest)))))
    (λ e. inr (r, refl, omega arith))
    (λ e. ⊎_elim (λ a. inl (a.0, let l = a.1 in omega (arith, l))) (λ a. inr (a.0, a.1, let l = a.2 in omega (arith, l))) (found_by f rest))

pub outcome : (h : Classes) (s : Objects) (us : List StatementUse) → Outcome h s us
unfolding refused rank
outcome h s us = ⊎_elim (λ a. none a.0 a.1) (λ a. broken a.0 a.1 a.2) (found_by (is_broken h s us) rules)

-- uses of one rank are refused alike
pub by_rank : (h : Classes) (s : Objects) (us vs : List StatementUse) (order : List Asked) → rank h s us ≡ rank h s vs → Answers h s vs order → Answers h s us order
by_rank h s us vs order e a = record { same = refused_rank h s us ∙ ap (λ n. slice_get rules n) e ∙ sym (refused_rank h s vs) ∙ a.same }

-- where the first uses are broken, by no rule behind those that break the others, they can be asked first
pub by_then : (h : Classes) (s : Objects) (a b : List StatementUse) (x y : List Asked) → Answers h s a x → Answers h s b y → (rank h s a < 12 → rank h s a ≤ rank h s b) → Answers h s (a ++ b) (x ++ y)
by_then h s a b x y p q ranks = record { same = cases (outcome h s a) ∙ ap (λ o. option_or o (first_broken h s y)) p.same ∙ sym (broken_append h s x y) }
  where
    at : (n : ℕ) → min (rank h s a) (rank h s b) ≡ n → refused h s (a ++ b) ≡ slice_get rules n
    at n e = refused_rank h s (a ++ b) ∙ ap (λ n. slice_get rules n) (rank_append h s a b ∙ e)

    cases : Outcome h s a → refused h s (a ++ b) ≡ option_or (refused h s a) (first_broken h s y)
    cases (none e full) = at (rank h s b) (min-eq_right (rw full (below (outcome h s b)))) ∙ sym (refused_rank h s b) ∙ q.same ∙ ap (λ o. option_or o (first_broken h s y)) (sym e)
      where
        below : Outcome h s b → rank h s b ≤ 12
        below (none e full) = omega (arith, full)
        below (broken r e less) = omega (arith, less)
    cases (broken r e less) = at (rank h s a) (min-eq_left (ranks less)) ∙ sym (refused_rank h s a) ∙ e ∙ ap (λ o. option_or o (first_broken h s y)) (sym e)
