-- Offsets of things one behind the other, one thing more at a time.
use Rattle.std.proofs.Common.{◌≡◌, ℕ, zero, suc, ◌+◌, ◌≤◌, List, [], ◌∷◌, ◌++◌, length, get_or, refl, ap, sym, ◌∙◌, arith, ⊎_elim}
use Rattle.std.specs.Prelude.{Some, slice_get}
use Rattle.std.proofs.lemmas.Bool.{cases_lt}
use Rattle.std.proofs.lemmas.List.{get_or_append_left, get_or_push, length_push}
use Rattle.path_numbers.specs.declared.numbers.Line.{Line}
use Rattle.path_numbers.specs.Sizes.{before, total}
use Rattle.path_numbers.specs.invariants.Lines.{IsLineTo, IsLinedUp}
use Rattle.path_numbers.proofs.Intervals.{before_within}

before_next : {X : Type 0} (f : X → ℕ) (i : ℕ) (xs : List X) (x : X) → slice_get xs i ≡ Some x → before f (suc i) xs ≡ before f i xs + f x
before_next f i [] x e = absurd (cc)
before_next f zero (y ∷ xs) x e = let k : y ≡ x = cc in let g = ap f k in omega arith
before_next f (suc i) (y ∷ xs) x e = let r = before_next f i xs x e in omega arith

pub before_all : {X : Type 0} (f : X → ℕ) (i : ℕ) (xs : List X) → length xs ≤ i → before f i xs ≡ total f xs
before_all f zero [] lt = refl
before_all f zero (x ∷ xs) lt = absurd (omega arith)
before_all f (suc i) [] lt = refl
before_all f (suc i) (x ∷ xs) lt = ap (λ n. f x + n) (before_all f i xs (omega arith))

pub line_none : {X : Type 0} (f : X → ℕ) (start : ℕ) (xs : List X) (line : Line) → line.offsets.items ≡ [] → line.end ≡ start → IsLineTo f start xs 0 line
line_none f start xs line e end = record { count = ap length e; each = λ i lt. absurd (omega arith); end = omega arith }

pub line_more : {X : Type 0} (f : X → ℕ) (start : ℕ) (xs : List X) (n : ℕ) (line new : Line) (x : X) (width : ℕ) → IsLineTo f start xs n line → slice_get xs n ≡ Some x → width ≡ f x
    → new.offsets.items ≡ line.offsets.items ++ line.end ∷ [] → new.end ≡ line.end + width → IsLineTo f start xs (n + 1) new
line_more f start xs n line new x width is at w items end = record {
  count = let a = ap length items in let b = length_push line.offsets.items line.end in let k = is.count in omega arith;
  each = λ i lt. ap (λ (l : List ℕ). get_or l i 0) items ∙ ⊎_elim
      (λ a. get_or_append_left line.offsets.items (line.end ∷ []) 0 i (let k = is.count in omega arith) ∙ is.each i a)
      (λ a. let k = is.count in let e : i ≡ n = omega arith in get_or_push line.offsets.items line.end 0 i (omega arith) ∙ is.end ∙ ap (λ j. start + before f j xs) (sym e))
      (cases_lt i n);
  end = let b = before_next f n xs x at in let k = is.end in let s : before f (n + 1) xs ≡ before f (suc n) xs = ap (λ j. before f j xs) (let q : n + 1 ≡ suc n = omega arith in q) in omega arith;
}

pub line_all : {X : Type 0} (f : X → ℕ) (start : ℕ) (xs : List X) (n : ℕ) (line : Line) → IsLineTo f start xs n line → length xs ≤ n → IsLinedUp f start xs line
line_all f start xs n line is le = record { each = λ i lt. is.each i (omega arith); end = is.end ∙ ap (λ k. start + k) (before_all f n xs le) }

-- the next thing has room
pub line_room : {X : Type 0} (f : X → ℕ) (start : ℕ) (xs : List X) (n : ℕ) (line : Line) (x : X) (width : ℕ) → IsLineTo f start xs n line → slice_get xs n ≡ Some x → width ≡ f x → start + total f xs ≤ 65536 → line.end + width ≤ 65536
line_room f start xs n line x width is at w le = let a = before_within f n xs x at in let e = is.end in omega arith
