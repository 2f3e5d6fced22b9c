-- Members by their numbers are members one after the other.
use Rattle.std.proofs.Common.{◌≡◌, ℕ, zero, suc, ◌+◌, Option, Some, List, [], ◌∷◌, ◌++◌, length, refl, ap, sym, ◌∙◌, append_assoc, arith, subst}
use Rattle.std.specs.Prelude.{slice_get}
use Rattle.std.specs.List.{flat_map}
use Rattle.std.proofs.lemmas.List.{append-nil, length-append}
use Rattle.foundation.proofs.Places.{get_behind}
use Rattle.cxx_hierarchy.specs.declared.records.ClassId.{ClassId}
use Rattle.cxx_hierarchy.specs.declared.records.Member.{Member}
use Rattle.path_plan.specs.Plans.{count_from, upto, backwards}
use Rattle.code_blocks.specs.Items.{Item}
use Rattle.code_blocks.specs.invariants.ItemCodes.{items_in_turn, from_the_end}

flat_append : {X Y : Type 0} (f : X → List Y) (xs ys : List X) → flat_map f (xs ++ ys) ≡ flat_map f xs ++ flat_map f ys
flat_append f [] ys = refl
flat_append f (x ∷ xs) ys = ap (λ l. f x ++ l) (flat_append f xs ys) ∙ sym (append_assoc (f x) (flat_map f xs) (flat_map f ys))

-- the members behind these of a class
turn_from : (give : ℕ → Option (Member ClassId) → List Item) (front rest all : List (Member ClassId)) (m : ℕ) → all ≡ front ++ rest → m ≡ length front → flat_map (λ k. give k (slice_get all k)) (count_from m (length rest)) ≡ items_in_turn give m rest
turn_from give front [] all m is at = refl
turn_from give front (x ∷ rest) all m is at =
    let there : slice_get all m ≡ Some x = ap (λ l. slice_get l m) is ∙ ap (λ n. slice_get (front ++ x ∷ rest) n) at ∙ get_behind front x rest in
    let size = length-append front (x ∷ []) in
    ap (λ o. give m o ++ flat_map (λ k. give k (slice_get all k)) (count_from (suc m) (length rest))) there
    ∙ ap (λ l. give m (Some x) ++ l) (turn_from give (front ++ x ∷ []) rest all (suc m) (is ∙ sym (append_assoc front (x ∷ []) rest)) (omega arith))

end_from : (give : ℕ → Option (Member ClassId) → List Item) (front rest all : List (Member ClassId)) (m : ℕ) → all ≡ front ++ rest → m ≡ length front → flat_map (λ k. give k (slice_get all k)) (backwards (count_from m (length rest))) ≡ from_the_end give m rest
end_from give front [] all m is at = refl
end_from give front (x ∷ rest) all m is at =
    let there : slice_get all m ≡ Some x = ap (λ l. slice_get l m) is ∙ ap (λ n. slice_get (front ++ x ∷ rest) n) at ∙ get_behind front x rest in
    let size = length-append front (x ∷ []) in
    flat_append (λ k. give k (slice_get all k)) (backwards (count_from (suc m) (length rest))) (m ∷ [])
    ∙ ap (λ l. l ++ (give m (slice_get all m) ++ [])) (end_from give (front ++ x ∷ []) rest all (suc m) (is ∙ sym (append_assoc front (x ∷ []) rest)) (omega arith))
    ∙ ap (λ l. from_the_end give (suc m) rest ++ l) (append-nil (give m (slice_get all m)) ∙ ap (λ o. give m o) there)

pub members_turn : (give : ℕ → Option (Member ClassId) → List Item) (all : List (Member ClassId)) → items_in_turn give 0 all ≡ flat_map (λ k. give k (slice_get all k)) (upto (length all))
members_turn give all = sym (turn_from give [] all all 0 refl refl)

pub members_end : (give : ℕ → Option (Member ClassId) → List Item) (all : List (Member ClassId)) → from_the_end give 0 all ≡ flat_map (λ k. give k (slice_get all k)) (backwards (upto (length all)))
members_end give all = sym (end_from give [] all all 0 refl refl)
