-- A path that is another one with a class behind it.
use Rattle.std.proofs.Common.{◌≡◌, ℕ, zero, suc, ◌+◌, Bool, true, false, nat_eq, Some, List, [], ◌∷◌, ◌++◌, take, length, refl, ap, sym, ◌∙◌, arith, add-one, eqb-true, eq-eqb}
use Rattle.std.specs.Prelude.{◌&&◌, slice_get}
use Rattle.std.proofs.lemmas.Option.{slice_get_within}
use Rattle.std.proofs.lemmas.List.{take_all}
use Rattle.cxx_hierarchy.specs.declared.records.ClassId.{ClassId}
use Rattle.cxx_subobject.specs.Subobjects.{same_path}
use Rattle.abi_slots.proofs.Chains.{same_some}

and_true : (a : Bool) → (a && true) ≡ a
and_true true = refl
and_true false = refl

and_false : (a : Bool) → (a && false) ≡ false
and_false true = refl
and_false false = refl

is_false : (t : Bool) → (t ≡ true → ⊥) → t ≡ false
is_false true ne = absurd (ne refl)
is_false false ne = refl

and_in_turn : (a b c : Bool) → (a && (b && c)) ≡ ((a && b) && c)
and_in_turn true b c = refl
and_in_turn false b c = refl

-- two fronts that are one class longer
same_next : (p q : List ClassId) (i : ℕ) (c d : ClassId) → slice_get p i ≡ Some c → slice_get q i ≡ Some d → same_path (take (suc i) p) (take (suc i) q) ≡ (same_path (take i p) (take i q) && nat_eq c.0 d.0)
same_next [] q i c d e f = absurd (let lt = slice_get_within [] i c e in omega arith)
same_next (x ∷ p) [] i c d e f = absurd (let lt = slice_get_within [] i d f in omega arith)
same_next (x ∷ p) (y ∷ q) zero c d e f =
    and_true (nat_eq x.0 y.0) ∙ ap (λ (z : ClassId). nat_eq z.0 y.0) (same_some x c e) ∙ ap (λ (z : ClassId). nat_eq c.0 z.0) (same_some y d f)
same_next (x ∷ p) (y ∷ q) (suc i) c d e f = ap (λ k. nat_eq x.0 y.0 && k) (same_next p q i c d e f) ∙ and_in_turn (nat_eq x.0 y.0) (same_path (take i p) (take i q)) (nat_eq c.0 d.0)

pub same_more : (p q : List ClassId) (i : ℕ) (c d : ClassId) (same new : Bool) → slice_get p i ≡ Some c → slice_get q i ≡ Some d → same ≡ same_path (take i p) (take i q) → new ≡ (same && nat_eq c.0 d.0) → new ≡ same_path (take (i + 1) p) (take (i + 1) q)
same_more p q i c d same new e f before made = made ∙ ap (λ k. k && nat_eq c.0 d.0) before ∙ sym (same_next p q i c d e f) ∙ ap (λ k. same_path (take k p) (take k q)) (sym (add-one i))

-- the fronts as long as the second path
pub same_front : (p q : List ClassId) (i : ℕ) (same : Bool) → i ≡ length q → same ≡ same_path (take i p) (take i q) → same ≡ same_path (take (length q) p) q
same_front p q i same e is = is ∙ ap (λ k. same_path (take k p) (take k q)) e ∙ ap (same_path (take (length q) p)) (take_all (length q) q (omega arith))

-- a path of another length is not the other one with a class behind it
pub path_apart : (p q : List ClassId) (last : ClassId) → (length p ≡ length q + 1 → ⊥) → false ≡ same_path p (q ++ last ∷ [])
path_apart [] [] last ne = refl
path_apart [] (y ∷ q) last ne = refl
path_apart (x ∷ []) [] last ne = absurd (ne (omega arith))
path_apart (x ∷ (z ∷ p)) [] last ne = sym (and_false (nat_eq x.0 last.0))
path_apart (x ∷ p) (y ∷ q) last ne = sym (and_false (nat_eq x.0 y.0)) ∙ ap (λ k. nat_eq x.0 y.0 && k) (path_apart p q last (λ e. ne (omega (arith, e))))

path_end : (p q : List ClassId) (last c : ClassId) → length p ≡ length q + 1 → slice_get p (length q) ≡ Some c → same_path p (q ++ last ∷ []) ≡ (same_path (take (length q) p) q && nat_eq c.0 last.0)
path_end [] q last c e f = absurd (omega (arith, e))
path_end (x ∷ []) [] last c e f = and_true (nat_eq x.0 last.0) ∙ ap (λ (z : ClassId). nat_eq z.0 last.0) (same_some x c f)
path_end (x ∷ (z ∷ p)) [] last c e f = absurd (omega (arith, e))
path_end (x ∷ p) (y ∷ q) last c e f = ap (λ k. nat_eq x.0 y.0 && k) (path_end p q last c (omega (arith, e)) f) ∙ and_in_turn (nat_eq x.0 y.0) (same_path (take (length q) p) q) (nat_eq c.0 last.0)

-- a path that ends with another class
pub other_end : (p q : List ClassId) (last c : ClassId) → length p ≡ length q + 1 → slice_get p (length q) ≡ Some c → (c.0 ≡ last.0 → ⊥) → false ≡ same_path p (q ++ last ∷ [])
other_end p q last c e f ne = sym (path_end p q last c e f ∙ ap (λ k. same_path (take (length q) p) q && k) (is_false (nat_eq c.0 last.0) (λ t. ne (eqb-true c.0 last.0 t))) ∙ and_false (same_path (take (length q) p) q))

-- and one that ends with that class
pub same_end : (p q : List ClassId) (last c : ClassId) (same : Bool) → length p ≡ length q + 1 → slice_get p (length q) ≡ Some c → c.0 ≡ last.0 → same ≡ same_path (take (length q) p) q → same ≡ same_path p (q ++ last ∷ [])
same_end p q last c same e f is made = made ∙ sym (path_end p q last c e f ∙ ap (λ k. same_path (take (length q) p) q && k) (eq-eqb c.0 last.0 is) ∙ and_true (same_path (take (length q) p) q))
