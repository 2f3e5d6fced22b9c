-- The refusal of two lists of uses, by that of each.
use Rattle.std.proofs.Common.{arith, ◌≡◌, ℕ, suc, ◌<◌, ◌≤◌, ltb, true, false, Option, Some, None, List, [], ◌∷◌, ◌++◌, refl, ap, sym, ◌∙◌}
use Rattle.std.specs.Prelude.{if◌then◌else◌, min, nat_lt, slice_get}
use Rattle.std.specs.Option.{option_or}
use Rattle.std.specs.List.{flat_map}
use Rattle.std.proofs.Common.{take, length, get_or, append-nil, ◌+◌}
use Rattle.std.proofs.lemmas.List.{take_more}
use Rattle.std.proofs.lemmas.Grind.{flat_map-append}
use Rattle.cxx_hierarchy.specs.Classes.{Classes}
use Rattle.std.proofs.Math.Nat.{min-eq_left, min-eq_right}
use Rattle.std.proofs.lemmas.Bool.{lt-ltb, le-ltb, ltb-true, ltb-false}
use Rattle.std.proofs.lemmas.Option.{slice_get_within}
use Rattle.foundation.proofs.Truth.{split}
use Rattle.foundation.proofs.Places.{get_within}
use Rattle.path_rules.specs.declared.Undefined.{Undefined}
use Rattle.path_rules.specs.Rules.{undefined_no}
use Rattle.path_model.specs.Values.{Objects}
use Rattle.path_model.specs.Uses.{StatementUse}
use Rattle.path_model.specs.Rules.{rules, refused}
use Rattle.path_model.specs.Order.{first_broken, sorted}
use Rattle.path_model.proofs.Least.{number_in, number_at}
use Rattle.path_model.proofs.Ranks.{rank, rank_append, refused_rank}
use Rattle.path_model.proofs.Sorted.{Answers, by_sort, by_then, broken_append, Outcome, none, broken, outcome}
use Rattle.path_refusals.specs.invariants.Pieces.{least_undefined}

-- a smaller place has the smaller rule
low : (m n : ℕ) → m ≤ n → (a b : Option Undefined) → slice_get rules m ≡ a → slice_get rules n ≡ b → least_undefined a b ≡ a
low m n l None None e f = refl
low m n l None (Some r) e f =
    let bound = slice_get_within rules n r f in
    let there = get_within rules m (omega (arith, l, bound)) in
    let g : Some there.0 ≡ None = sym there.1 ∙ e in absurd (cc)
low m n l (Some a) None e f = refl
low m n l (Some a) (Some b) e f =
    let i : undefined_no a ≡ suc m = ap (number_in m) (sym e) ∙ number_at m in
    let j : undefined_no b ≡ suc n = ap (number_in n) (sym f) ∙ number_at n in
    let g : nat_lt (undefined_no b) (undefined_no a) ≡ false = le-ltb (undefined_no b) (undefined_no a) (omega (arith, i, j, l)) in
    ap (λ t. Some (if t then b else a)) g

high : (m n : ℕ) → n < m → (a b : Option Undefined) → slice_get rules m ≡ a → slice_get rules n ≡ b → least_undefined a b ≡ b
high m n l None b e f = refl
high m n l (Some a) None e f =
    let bound = slice_get_within rules m a e in
    let there = get_within rules n (omega (arith, l, bound)) in
    let g : Some there.0 ≡ None = sym there.1 ∙ f in absurd (cc)
high m n l (Some a) (Some b) e f =
    let i : undefined_no a ≡ suc m = ap (number_in m) (sym e) ∙ number_at m in
    let j : undefined_no b ≡ suc n = ap (number_in n) (sym f) ∙ number_at n in
    let g : nat_lt (undefined_no b) (undefined_no a) ≡ true = lt-ltb (undefined_no b) (undefined_no a) (omega (arith, i, j, l)) in
    ap (λ t. Some (if t then b else a)) g

least_at : (m n : ℕ) → slice_get rules (min m n) ≡ least_undefined (slice_get rules m) (slice_get rules n)
least_at m n = split (ltb n m) (λ t. ltb n m ≡ t → slice_get rules (min m n) ≡ least_undefined (slice_get rules m) (slice_get rules n))
    (λ _ e. let l = ltb-true n m e in ap (λ k. slice_get rules k) (min-eq_right (omega (arith, l))) ∙ sym (high m n l (slice_get rules m) (slice_get rules n) refl refl))
    (λ _ e. let l = ltb-false n m e in ap (λ k. slice_get rules k) (min-eq_left l) ∙ sym (low m n l (slice_get rules m) (slice_get rules n) refl refl)) refl

-- two lists are refused by the smaller rule of each
pub refused_both : (h : Classes) (s : Objects) (a b : List StatementUse) → refused h s (a ++ b) ≡ least_undefined (refused h s a) (refused h s b)
refused_both h s a b =
    refused_rank h s (a ++ b)
    ∙ (ap (λ k. slice_get rules k) (rank_append h s a b)
    ∙ (least_at (rank h s a) (rank h s b)
    ∙ (ap (λ x. least_undefined x (slice_get rules (rank h s b))) (sym (refused_rank h s a)) ∙ ap (λ x. least_undefined (refused h s a) x) (sym (refused_rank h s b)))))

-- lists of one rank are refused alike
pub refused_alike : (h : Classes) (s : Objects) (a b : List StatementUse) → rank h s a ≡ rank h s b → refused h s a ≡ refused h s b
refused_alike h s a b e = refused_rank h s a ∙ (ap (λ k. slice_get rules k) e ∙ sym (refused_rank h s b))

pub sorted_refused : (h : Classes) (s : Objects) (a : List StatementUse) → first_broken h s (sorted a) ≡ refused h s a
sorted_refused h s a = sym (by_sort h s a).same

-- the first list, and then the second, where the first breaks no rule behind those that break the second
pub refused_first : (h : Classes) (s : Objects) (a b : List StatementUse) → (rank h s a < 12 → rank h s a ≤ rank h s b) → refused h s (a ++ b) ≡ option_or (refused h s a) (refused h s b)
refused_first h s a b ranks =
    (by_then h s a b (sorted a) (sorted b) (by_sort h s a) (by_sort h s b) ranks).same
    ∙ (broken_append h s (sorted a) (sorted b)
    ∙ (ap (λ x. option_or x (first_broken h s (sorted b))) (sorted_refused h s a) ∙ ap (λ x. option_or (refused h s a) x) (sorted_refused h s b)))

-- the same, where the front is refused
pub stops : (h : Classes) (s : Objects) (a b : List StatementUse) (r : Undefined) → (rank h s a < 12 → rank h s a ≤ rank h s b) → Some r ≡ refused h s a → Some r ≡ refused h s (a ++ b)
stops h s a b r ranks e = ap (λ x. option_or x (refused h s b)) e ∙ sym (refused_first h s a b ranks)

-- where it is clear nothing is to be known of the ranks
pub goes_on : (h : Classes) (s : Objects) (a b : List StatementUse) (x : Option Undefined) → None ≡ refused h s a → x ≡ refused h s b → x ≡ refused h s (a ++ b)
goes_on h s a b x e f = f ∙ (ap (λ o. least_undefined o (refused h s b)) e ∙ sym (refused_both h s a b))

-- behind what is clear nothing else is asked
pub clear_rank : (h : Classes) (s : Objects) (a : List StatementUse) → None ≡ refused h s a → rank h s a ≡ 12
clear_rank h s a e = cases (outcome h s a)
  where
    cases : Outcome h s a → rank h s a ≡ 12
    cases (none f full) = full
    cases (broken r f less) = let g : None ≡ Some r = e ∙ f in absurd (cc)

-- the smaller rule of two lists is that of both
pub joined : (h : Classes) (s : Objects) (a b : List StatementUse) (x y z : Option Undefined) → z ≡ least_undefined x y → x ≡ refused h s a → y ≡ refused h s b → z ≡ refused h s (a ++ b)
joined h s a b x y z is e f = is ∙ (ap (λ o. least_undefined o y) e ∙ (ap (λ o. least_undefined (refused h s a) o) f ∙ sym (refused_both h s a b)))

-- one item more of a list
pub one_more : {X : Type 0} (f : X → List StatementUse) (xs : List X) (i : ℕ) (x : X) → i < length xs → x ≡ get_or xs i x → flat_map f (take i xs) ++ f x ≡ flat_map f (take (i + 1) xs)
one_more f xs i x l e =
    ap (λ z. flat_map f (take i xs) ++ f z) e
    ∙ (ap (λ us. flat_map f (take i xs) ++ us) (sym (append-nil (f (get_or xs i x))))
    ∙ (sym (flat_map-append f (take i xs) (get_or xs i x ∷ [])) ∙ ap (λ ys. flat_map f ys) (sym (take_more xs i x l))))

-- two stages, the tests of each sorted
pub staged_two : (h : Classes) (s : Objects) (us a b : List StatementUse) → Answers h s us (sorted a ++ sorted b) → refused h s us ≡ option_or (refused h s a) (refused h s b)
staged_two h s us a b answers =
    answers.same
    ∙ (broken_append h s (sorted a) (sorted b)
    ∙ (ap (λ x. option_or x (first_broken h s (sorted b))) (sorted_refused h s a) ∙ ap (λ x. option_or (refused h s a) x) (sorted_refused h s b)))

-- the first stage refuses, or is clear
pub first_stage : (x y z : Option Undefined) (r : Undefined) → z ≡ option_or x y → Some r ≡ x → Some r ≡ z
first_stage x y z r e f = ap (λ o. option_or o y) f ∙ sym e

pub second_stage : (x y z rule : Option Undefined) → z ≡ option_or x y → None ≡ x → rule ≡ y → rule ≡ z
second_stage x y z rule e f g = g ∙ (ap (λ o. option_or o y) f ∙ sym e)

-- one list behind another in place of one of the same rank
pub rank_behind : (h : Classes) (s : Objects) (a b c : List StatementUse) → rank h s b ≡ rank h s c → rank h s (a ++ b) ≡ rank h s (a ++ c)
rank_behind h s a b c e = rank_append h s a b ∙ (ap (λ n. min (rank h s a) n) e ∙ sym (rank_append h s a c))

pub swapped_rank : (h : Classes) (s : Objects) (a b : List StatementUse) → rank h s (a ++ b) ≡ rank h s (b ++ a)
swapped_rank h s a b = let r = rank_append h s a b in let t = rank_append h s b a in omega (arith, r, t)
