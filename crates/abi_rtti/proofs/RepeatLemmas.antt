-- Marks of the classes that were met tell whether one stands twice.
use Rattle.std.proofs.Common.{◌≡◌, ℕ, zero, suc, ◌+◌, ◌<◌, Bool, true, false, ◌||◌, nat_eq, List, [], ◌∷◌, ◌++◌, take, length, get_or, refl, sym, ap, subst, arith, ◌∙◌, set, ◌≢◌, get_or-set_same, get_or-set_other}
use Rattle.std.specs.List.{list_any}
use Rattle.std.proofs.lemmas.List.{take_more}
use Rattle.std.proofs.lemmas.Bool.{eqb-true, eq-eqb}
use Rattle.std.proofs.lemmas.List.Folds.{list_any-append, list_any_at}
use Rattle.cxx_hierarchy.specs.declared.records.ClassId.{ClassId}
use Rattle.foundation.proofs.Truth.{split, or_left, or_right, or_parts, not_both}
use Rattle.abi_rtti.specs.Repeats.{is_same_class, has_repeat}

-- a class has the number
abbrev pub is_number : ℕ → ClassId → Bool
is_number n c = nat_eq c.0 n

-- where the class of a place stands before that place, it stands twice
pub repeat_at : (cs : List ClassId) (d : ClassId) (i : ℕ) → i < length cs → list_any (is_number (get_or cs i d).0) (take i cs) ≡ true → has_repeat cs ≡ true
repeat_at [] d i lt any = absurd (omega arith)
repeat_at (x ∷ xs) d zero lt any = cc
repeat_at (x ∷ xs) d (suc k) lt any =
    let lower : k < length xs = omega arith in
    split (is_number (get_or xs k d).0 x) (λ b. is_number (get_or xs k d).0 x ≡ b → (b || list_any (is_number (get_or xs k d).0) (take k xs)) ≡ true → (list_any (is_same_class x) xs || has_repeat xs) ≡ true)
    (λ is _ _. or_left _ _ (list_any_at (is_same_class x) xs k d lower is))
    (λ _ _ rest. or_right (list_any (is_same_class x) xs) (has_repeat xs) (repeat_at xs d k lower rest))
    refl any

-- one more class that did not stand before
pub no_repeat_more : (cs : List ClassId) (c : ClassId) → has_repeat cs ≡ false → list_any (is_number c.0) cs ≡ false → has_repeat (cs ++ c ∷ []) ≡ false
no_repeat_more [] c a b = refl
no_repeat_more (x ∷ xs) c a b =
    let p = or_parts (list_any (is_same_class x) xs) (has_repeat xs) a in
    let q = or_parts (is_number c.0 x) (list_any (is_number c.0) xs) b in
    let rest : has_repeat (xs ++ c ∷ []) ≡ false = no_repeat_more xs c p.1 q.1 in
    let first : list_any (is_same_class x) (xs ++ c ∷ []) ≡ false = list_any-append (is_same_class x) xs (c ∷ []) ∙ ap (λ b. b || (is_same_class x c || false)) p.0 ∙ ap (λ b. b || false) q.0 in
    ap (λ b. b || has_repeat (xs ++ c ∷ [])) first ∙ rest

-- what the marks say, one class later
pub one_more_mark : (cs : List ClassId) (d : ClassId) (i : ℕ) (marks : List Bool) → i < length cs → (get_or cs i d).0 < length marks →
    ((n : ℕ) → get_or marks n false ≡ list_any (is_number n) (take i cs)) → (n : ℕ) → get_or (set marks (get_or cs i d).0 true) n false ≡ list_any (is_number n) (take (i + 1) cs)
one_more_mark cs d i marks lt within inv n =
    let c = get_or cs i d in
    let front : take (i + 1) cs ≡ take i cs ++ c ∷ [] = take_more cs i d lt in
    let opened : list_any (is_number n) (take (i + 1) cs) ≡ (list_any (is_number n) (take i cs) || (is_number n c || false)) = ap (list_any (is_number n)) front ∙ list_any-append (is_number n) (take i cs) (c ∷ []) in
    split (is_number n c) (λ b. is_number n c ≡ b → get_or (set marks c.0 true) n false ≡ list_any (is_number n) (take (i + 1) cs))
    (λ is e. let same : c.0 ≡ n = eqb-true c.0 n e in
    let here : get_or (set marks c.0 true) n false ≡ true = subst (λ m. get_or (set marks c.0 true) m false ≡ true) same (get_or-set_same marks c.0 true false within) in
    here ∙ sym (or_right (list_any (is_number n) (take i cs)) (is_number n c || false) (or_left (is_number n c) false e)) ∙ sym opened)
    (λ is e. let other : n ≢ c.0 = λ same. not_both (eq-eqb c.0 n (sym same)) e in
    get_or-set_other marks c.0 n true false other ∙ inv n ∙ sym (opened ∙ ap (λ b. list_any (is_number n) (take i cs) || (b || false)) e ∙ or_nothing (list_any (is_number n) (take i cs))))
    refl
  where
    or_nothing : (b : Bool) → (b || (false || false)) ≡ b
    or_nothing true = refl
    or_nothing false = refl
