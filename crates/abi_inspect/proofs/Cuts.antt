-- Lists that are cut behind a front, or at a byte.
use Rattle.std.proofs.Common.{◌≡◌, ◌∙◌, ℕ, zero, suc, ◌-◌, ◌<◌, ◌≤◌, arith, inl, inr, List, [], ◌∷◌, ◌++◌, length, take, drop, get_or, refl, ap, sym, subst}
use Rattle.std.specs.Prelude.{Contains}
use Rattle.std.proofs.lemmas.List.{take_all}
use Rattle.foundation.proofs.Members.{Has, has_from_contains}

-- a list by the item at a place
at_place : (xs : List ℕ) (i : ℕ) → i < length xs → xs ≡ take i xs ++ (get_or xs i 0 ∷ drop (suc i) xs)
at_place [] i lt = absurd (omega arith)
at_place (x ∷ xs) zero lt = refl
at_place (x ∷ xs) (suc i) lt = ap (λ (ys : List ℕ). x ∷ ys) (at_place xs i (omega arith))

from_place : (xs : List ℕ) (i : ℕ) → i < length xs → drop i xs ≡ get_or xs i 0 ∷ drop (suc i) xs
from_place [] i lt = absurd (omega arith)
from_place (x ∷ xs) zero lt = refl
from_place (x ∷ xs) (suc i) lt = from_place xs i (omega arith)

-- no item of a front is one that stands at no place of it
none_has : (xs : List ℕ) (i c : ℕ) → ((k : ℕ) → k < i → get_or xs k 0 ≡ c → ⊥) → i ≤ length xs → Has (take i xs) c → ⊥
none_has xs zero c fails le has = absurd has
none_has [] (suc i) c fails le has = absurd (omega arith)
none_has (x ∷ xs) (suc i) c fails le (inl e) = fails 0 (omega arith) e
none_has (x ∷ xs) (suc i) c fails le (inr has) = none_has xs i c (λ k lt e. fails (suc k) (omega arith) e) (omega arith) has

-- what is behind the first item of a list that has one
tail_of : (xs rest : List ℕ) (x : ℕ) → xs ≡ x ∷ rest → take (length xs - 1) (drop 1 xs) ≡ rest
tail_of xs rest x e =
    ap (λ (ys : List ℕ). take (length ys - 1) (drop 1 ys)) e ∙ take_all (length (x ∷ rest) - 1) rest (omega arith)

pub record IsCut (text front rest : List ℕ) (c : ℕ) : Type 0 where
  pub is : text ≡ front ++ c ∷ rest
  pub before : Contains front c → ⊥

-- a list is cut at the first place of a byte
pub cut_at : (text front back : List ℕ) (c i : ℕ) → i < length text → ((k : ℕ) → k < i → get_or text k 0 ≡ c → ⊥) → get_or text i 0 ≡ c → front ≡ take i text → back ≡ drop i text → IsCut text front (take (length back - 1) (drop 1 back)) c
cut_at text front back c i lt fails found front_is back_is =
    let rest : take (length back - 1) (drop 1 back) ≡ drop (suc i) text = tail_of back (drop (suc i) text) (get_or text i 0) (back_is ∙ from_place text i lt) in
    record {
      is = at_place text i lt ∙ (ap (λ (ys : List ℕ). ys ++ (get_or text i 0 ∷ drop (suc i) text)) (sym front_is) ∙ (ap (λ k. front ++ (k ∷ drop (suc i) text)) found ∙ ap (λ (ys : List ℕ). front ++ (c ∷ ys)) (sym rest)));
      before = λ has. none_has text i c fails (omega arith) (subst (λ (ys : List ℕ). Has ys c) front_is (has_from_contains front c has));
    }

-- a list is cut at its first such byte in one way
pub same_cut : (a b x y : List ℕ) (c : ℕ) → a ++ c ∷ b ≡ x ++ c ∷ y → (Has a c → ⊥) → (Has x c → ⊥) → (a ≡ x) × (b ≡ y)
same_cut [] b [] y c e na nx = (refl, cc)
same_cut [] b (d ∷ x) y c e na nx = let same : c ≡ d = cc in absurd (nx (inl (sym same)))
same_cut (d ∷ a) b [] y c e na nx = let same : d ≡ c = cc in absurd (na (inl same))
same_cut (d ∷ a) b (f ∷ x) y c e na nx =
    let head : d ≡ f = cc in
    let tail : a ++ c ∷ b ≡ x ++ c ∷ y = cc in
    let rest = same_cut a b x y c tail (λ has. na (inr has)) (λ has. nx (inr has)) in
    let front : a ≡ x = rest.0 in
    (ap (λ k. k ∷ a) head ∙ ap (λ (ys : List ℕ). f ∷ ys) front, rest.1)

-- the front of a list, and what is behind it
pub front_is : (front rest : List ℕ) → take (length front) (front ++ rest) ≡ front
front_is [] rest = refl
front_is (x ∷ front) rest = ap (λ (ys : List ℕ). x ∷ ys) (front_is front rest)
