-- Meeting classes one by one gives the order of the virtual bases.
use Rattle.std.proofs.Common.{◌≡◌, ℕ, zero, suc, ◌+◌, ◌<◌, ◌≤◌, Bool, true, false, ◌||◌, List, [], ◌∷◌, ◌++◌, refl, ap, subst, sym, ◌∙◌, append_assoc, append-nil, arith}
use Rattle.std.specs.Prelude.{nat_eq, if◌then◌else◌}
use Rattle.std.specs.List.{flat_map}
use Rattle.std.proofs.lemmas.Bool.{eqb-true}
use Rattle.cxx_hierarchy.specs.declared.records.ClassId.{ClassId}
use Rattle.cxx_hierarchy.specs.declared.records.Base.{Base}
use Rattle.cxx_hierarchy.specs.Classes.{Classes, bases_of}
use Rattle.cxx_hierarchy.specs.Hierarchies.{IsHierarchy}
use Rattle.foundation.proofs.Truth.{split}
use Rattle.foundation.proofs.Members.{contains_from_has, flat_map_same}
use Rattle.path_plan.specs.Plans.{walk, is_among, unmet, virtual_order}
use Rattle.path_numbers.specs.Sizes.{total}
use Rattle.path_numbers.specs.invariants.Sharing.{met, meet_all, brings}

pub among_append : (xs ys : List ClassId) (v : ClassId) → is_among (xs ++ ys) v ≡ (is_among xs v || is_among ys v)
among_append [] ys v = refl
among_append (x ∷ xs) ys v = split (nat_eq x.0 v.0) (λ b. (b || is_among (xs ++ ys) v) ≡ ((b || is_among xs v) || is_among ys v)) (λ e. refl) (λ e. among_append xs ys v)

or_swap : (a b : Bool) → (a || (b || false)) ≡ (b || a)
or_swap true true = refl
or_swap true false = refl
or_swap false true = refl
or_swap false false = refl

pub among_push : (xs : List ClassId) (x v : ClassId) → is_among (xs ++ x ∷ []) v ≡ (nat_eq x.0 v.0 || is_among xs v)
among_push xs x v = among_append xs (x ∷ []) v ∙ or_swap (is_among xs v) (nat_eq x.0 v.0)

pub meet_append : (order xs ys : List ClassId) → meet_all order (xs ++ ys) ≡ meet_all (meet_all order xs) ys
meet_append order [] ys = refl
meet_append order (x ∷ xs) ys = meet_append (met order x) xs ys

-- what was met stays met
met_stays : (order : List ClassId) (x v : ClassId) → is_among order v ≡ true → is_among (met order x) v ≡ true
met_stays order x v e = split (is_among order x) (λ b. is_among (if b then order else order ++ x ∷ []) v ≡ true) (λ _. e) (λ _. among_append order (x ∷ []) v ∙ ap (λ b. b || is_among (x ∷ []) v) e)

met_now : (order : List ClassId) (x v : ClassId) → nat_eq x.0 v.0 ≡ true → is_among (met order x) v ≡ true
met_now order x v e = split (is_among order x) (λ b. is_among order x ≡ b → is_among (if b then order else order ++ x ∷ []) v ≡ true)
    (λ _ t. subst (λ n. is_among_number order n ≡ true) (eqb-true x.0 v.0 e) t)
    (λ _ t. among_push order x v ∙ ap (λ b. b || is_among order v) e) refl
  where
    is_among_number : List ClassId → ℕ → Bool
    is_among_number xs n = is_among xs (record { 0 = n })

-- it is the same to meet what is left without repeats
pub meet_unmet : (order met_ list : List ClassId) → ((v : ClassId) → is_among met_ v ≡ true → is_among order v ≡ true) → meet_all order (unmet met_ list) ≡ meet_all order list
meet_unmet order met_ [] sub = refl
meet_unmet order met_ (x ∷ list) sub = split (is_among met_ x) (λ b. is_among met_ x ≡ b → meet_all order (if b then unmet met_ list else x ∷ unmet (x ∷ met_) list) ≡ meet_all (met order x) list)
    (λ _ e. meet_unmet order met_ list sub ∙ ap (λ (o : List ClassId). meet_all o list) (let f = sub x e in (let g : order ≡ met order x = rw f refl in g)))
    (λ _ e. meet_unmet (met order x) (x ∷ met_) list (λ v. more v)) refl
  where
    more : (v : ClassId) → (nat_eq x.0 v.0 || is_among met_ v) ≡ true → is_among (met order x) v ≡ true
    more v = split (nat_eq x.0 v.0) (λ b. nat_eq x.0 v.0 ≡ b → (b || is_among met_ v) ≡ true → is_among (met order x) v ≡ true)
        (λ _ e k. met_now order x v e) (λ _ e k. met_stays order x v (sub v k)) refl

-- meeting goes on behind what was met
meet_is : (order met_ list : List ClassId) → ((v : ClassId) → is_among met_ v ≡ is_among order v) → meet_all order list ≡ order ++ unmet met_ list
meet_is order met_ [] same = sym (append-nil order)
meet_is order met_ (x ∷ list) same = split (is_among met_ x) (λ b. is_among met_ x ≡ b → meet_all (met order x) list ≡ order ++ (if b then unmet met_ list else x ∷ unmet (x ∷ met_) list))
    (λ _ e. ap (λ (o : List ClassId). meet_all o list) (let g : met order x ≡ order = rw (sym (same x) ∙ e) refl in g) ∙ meet_is order met_ list same)
    (λ _ e. let g : met order x ≡ order ++ x ∷ [] = rw (sym (same x) ∙ e) refl in
    ap (λ (o : List ClassId). meet_all o list) g ∙ meet_is (order ++ x ∷ []) (x ∷ met_) list (λ v. ap (λ b. nat_eq x.0 v.0 || b) (same v) ∙ sym (among_push order x v)) ∙ append_assoc order (x ∷ []) (unmet (x ∷ met_) list)) refl

-- the number of steps does not matter where there are enough
walk_steps : (h : Classes) → IsHierarchy h → (n m : ℕ) (c : ClassId) → c.0 < n → c.0 < m → walk h n c ≡ walk h m c
walk_steps h keeps zero m c a b = absurd (omega arith)
walk_steps h keeps (suc n) zero c a b = absurd (omega arith)
walk_steps h keeps (suc n) (suc m) c a b = flat_map_same (λ base. walk h n base.class ++ (if base.is_virtual then base.class ∷ [] else [])) (λ base. walk h m base.class ++ (if base.is_virtual then base.class ∷ [] else [])) (bases_of h c)
    (λ base has. let below = keeps.bases c base (contains_from_has (bases_of h c) base has) in ap (λ (w : List ClassId). w ++ (if base.is_virtual then base.class ∷ [] else [])) (walk_steps h keeps n m base.class (omega arith) (omega arith)))

walk_opens : (h : Classes) → IsHierarchy h → (n : ℕ) (c : ClassId) → n ≡ suc c.0 → walk h n c ≡ flat_map (λ base. walk h (base.class.0 + 1) base.class ++ (if base.is_virtual then base.class ∷ [] else [])) (bases_of h c)
walk_opens h keeps n c e = ap (λ k. walk h k c) e ∙ flat_map_same (λ base. walk h c.0 base.class ++ (if base.is_virtual then base.class ∷ [] else [])) (λ base. walk h (base.class.0 + 1) base.class ++ (if base.is_virtual then base.class ∷ [] else [])) (bases_of h c)
    (λ base has. let below = keeps.bases c base (contains_from_has (bases_of h c) base has) in ap (λ (w : List ClassId). w ++ (if base.is_virtual then base.class ∷ [] else [])) (walk_steps h keeps c.0 (base.class.0 + 1) base.class below (omega arith)))

-- one base brings what its walk meets
one_brings : (h : Classes) (order : List ClassId) (base : Base ClassId) → meet_all order (brings h base) ≡ meet_all order (walk h (base.class.0 + 1) base.class ++ (if base.is_virtual then base.class ∷ [] else []))
one_brings h order base =
    let rest = if base.is_virtual then base.class ∷ [] else [] in
    meet_append order (virtual_order h base.class) rest
    ∙ ap (λ (o : List ClassId). meet_all o rest) (meet_unmet order [] (walk h (base.class.0 + 1) base.class) (λ v e. absurd (cc)))
    ∙ sym (meet_append order (walk h (base.class.0 + 1) base.class) rest)

all_bring : (h : Classes) (order : List ClassId) (bases : List (Base ClassId)) → meet_all order (flat_map (brings h) bases) ≡ meet_all order (flat_map (λ base. walk h (base.class.0 + 1) base.class ++ (if base.is_virtual then base.class ∷ [] else [])) bases)
all_bring h order [] = refl
all_bring h order (base ∷ bases) =
    let walked = walk h (base.class.0 + 1) base.class ++ (if base.is_virtual then base.class ∷ [] else []) in
    meet_append order (brings h base) (flat_map (brings h) bases)
    ∙ ap (λ (o : List ClassId). meet_all o (flat_map (brings h) bases)) (one_brings h order base)
    ∙ all_bring h (meet_all order walked) bases
    ∙ sym (meet_append order walked (flat_map (λ b. walk h (b.class.0 + 1) b.class ++ (if b.is_virtual then b.class ∷ [] else [])) bases))

-- the virtual bases of a class are those that its direct bases bring
pub order_met : (h : Classes) → IsHierarchy h → (c : ClassId) → meet_all [] (flat_map (brings h) (bases_of h c)) ≡ virtual_order h c
order_met h keeps c = all_bring h [] (bases_of h c) ∙ (meet_is [] [] (flat_map (λ base. walk h (base.class.0 + 1) base.class ++ (if base.is_virtual then base.class ∷ [] else [])) (bases_of h c)) (λ v. refl)
    ∙ ap (unmet []) (sym (walk_opens h keeps (c.0 + 1) c (omega arith))))

pub total_append : {X : Type 0} (f : X → ℕ) (xs ys : List X) → total f (xs ++ ys) ≡ total f xs + total f ys
total_append f [] ys = omega arith
total_append f (x ∷ xs) ys = let r = total_append f xs ys in omega arith

-- what is met later comes behind
pub total_met : (f : ClassId → ℕ) (order : List ClassId) (x : ClassId) → total f order ≤ total f (met order x)
total_met f order x = split (is_among order x) (λ b. total f order ≤ total f (if b then order else order ++ x ∷ [])) (λ _. omega arith) (λ _. let e = total_append f order (x ∷ []) in omega arith)

pub total_meets : (f : ClassId → ℕ) (order list : List ClassId) → total f order ≤ total f (meet_all order list)
total_meets f order [] = omega arith
total_meets f order (x ∷ list) = let a = total_met f order x in let b = total_meets f (met order x) list in omega arith
