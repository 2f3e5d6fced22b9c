-- The rank of a list of uses: the place, among the rules, of the first that some of them breaks.
use Rattle.std.proofs.Common.{arith, ◌≡◌, ℕ, suc, ◌≤◌, Bool, ◌||◌, Some, List, [], ◌∷◌, ◌++◌, length, refl, ap, sym, ◌∙◌}
use Rattle.std.proofs.Math.Nat.{min-eq_left, min-eq_right}
use Rattle.std.proofs.lemmas.List.Folds.{list_any-append}
use Rattle.cxx_hierarchy.specs.Classes.{Classes}
use Rattle.foundation.proofs.Truth.{split}
use Rattle.std.specs.Prelude.{if◌then◌else◌, min, slice_get, find}
use Rattle.path_rules.specs.declared.Undefined.{Undefined}
use Rattle.path_model.specs.Values.{Objects}
use Rattle.path_model.specs.Uses.{StatementUse}
use Rattle.path_model.specs.Rules.{rules, breaks, is_broken, refused}

unfoldable pub first_place : (Undefined → Bool) → List Undefined → ℕ
first_place f [] = 0
first_place f (r ∷ rest) = if f r then 0 else suc (first_place f rest)

unfoldable pub rank : Classes → Objects → List StatementUse → ℕ
rank h s uses = first_place (is_broken h s uses) rules

place_either : (f g : Undefined → Bool) (rs : List Undefined) → first_place (λ r. f r || g r) rs ≡ min (first_place f rs) (first_place g rs)
unfolding first_place
place_either f g [] = refl
place_either f g (r ∷ rest) = split (f r) (λ a. (if a || g r then 0 else suc (first_place (λ r. f r || g r) rest)) ≡ min (if a then 0 else suc (first_place f rest)) (first_place g (r ∷ rest)))
    (λ e. sym (min-eq_left (omega arith)))
    (λ e. split (g r) (λ b. (if b then 0 else suc (first_place (λ r. f r || g r) rest)) ≡ min (suc (first_place f rest)) (if b then 0 else suc (first_place g rest)))
    (λ e'. sym (min-eq_right (omega arith)))
    (λ e'. ap suc (place_either f g rest) ∙ omega arith))

pub rank_append : (h : Classes) (s : Objects) (a b : List StatementUse) → rank h s (a ++ b) ≡ min (rank h s a) (rank h s b)
unfolding rank
rank_append h s a b = ap (λ (f : Undefined → Bool). first_place f rules) (λ i r. list_any-append (breaks h s r) a b i) ∙ place_either (is_broken h s a) (is_broken h s b) rules

rule_at : (f : Undefined → Bool) (rs : List Undefined) → find f rs ≡ slice_get rs (first_place f rs)
unfolding first_place
rule_at f [] = refl
rule_at f (r ∷ rest) = split (f r) (λ b. (if b then Some r else find f rest) ≡ slice_get (r ∷ rest) (if b then 0 else suc (first_place f rest))) (λ e. refl) (λ e. rule_at f rest)

pub refused_rank : (h : Classes) (s : Objects) (a : List StatementUse) → refused h s a ≡ slice_get rules (rank h s a)
unfolding rank refused
refused_rank h s a = rule_at (is_broken h s a) rules

place_full : (f : Undefined → Bool) (rs : List Undefined) → first_place f rs ≤ length rs
unfolding first_place
place_full f [] = omega arith
place_full f (r ∷ rest) = split (f r) (λ b. (if b then 0 else suc (first_place f rest)) ≤ length (r ∷ rest)) (λ e. omega arith) (λ e. let l = place_full f rest in omega (arith, l))

pub rank_full : (h : Classes) (s : Objects) (a : List StatementUse) → rank h s a ≤ 12
unfolding rank
rank_full h s a = place_full (is_broken h s a) rules
