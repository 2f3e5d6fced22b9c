-- What is listed of classes, one class after the other.
use Rattle.std.proofs.Common.{◌≡◌, ℕ, suc, ◌+◌, ◌-◌, ◌<◌, List, ◌∷◌, ◌++◌, append_assoc, ap, sym, ◌∙◌, arith}
use Rattle.std.specs.List.{flat_map}
use Rattle.cxx_hierarchy.specs.declared.records.ClassId.{ClassId}
use Rattle.abi_lower.specs.invariants.Codes.{class_ids_from}

ids_more : (n m : ℕ) → n < m → class_ids_from n (m - n) ≡ record { 0 = n } ∷ class_ids_from (n + 1) (m - (n + 1))
ids_more n m low =
    let left : m - n ≡ suc (m - (n + 1)) = omega arith in
    let next : suc n ≡ n + 1 = omega arith in
    ap (λ k. class_ids_from n k) left ∙ ap (λ a. record { 0 = n } ∷ class_ids_from a (m - (n + 1))) next

-- what is listed of each class, behind others
pub class_more : {A : Type 0} (f : ClassId → List A) (n m : ℕ) (old new all : List A) → n < m → new ≡ old ++ f (record { 0 = n }) → old ++ flat_map f (class_ids_from n (m - n)) ≡ all → new ++ flat_map f (class_ids_from (n + 1) (m - (n + 1))) ≡ all
class_more f n m old new all low pushed before =
    let rest = flat_map f (class_ids_from (n + 1) (m - (n + 1))) in
    ap (λ l. l ++ rest) pushed ∙ append_assoc old (f (record { 0 = n })) rest
    ∙ ap (λ (ids : List ClassId). old ++ flat_map f ids) (sym (ids_more n m low)) ∙ before
