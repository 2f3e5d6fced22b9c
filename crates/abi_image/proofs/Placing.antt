use Rattle.std.proofs.Common.{◌≡◌, ℕ, zero, suc, ◌+◌, ◌*◌, ◌<◌, ◌≤◌, ⊎_elim, List, [], ◌∷◌, ◌++◌, map, length, get_or, take, refl, ap, sym, ◌∙◌, subst, arith, length-append}
use Rattle.std.proofs.lemmas.Bool.{cases_order}
use Rattle.abi_slots.specs.declared.words.Table.{Table}
use Rattle.abi_slots.specs.Images.{all_words, words_of}
use Rattle.foundation.proofs.Places.{length_pushed, take_next}
use Rattle.abi_image.specs.declared.TheConstants.{BASE}
use Rattle.abi_image.specs.invariants.Drafts.{address_in, address_of, sum_of_sizes}
use Rattle.abi_image.specs.invariants.Parts.{AreAt}
use Rattle.abi_image.proofs.Lists.{flat_append}

address_front : (ms : List ℕ) (n at i : ℕ) → i < length ms → address_of (ms ++ n ∷ []) at i ≡ address_of ms at i
address_front [] n at i less = absurd (omega arith)
address_front (m ∷ ms) n at zero less = refl
address_front (m ∷ ms) n at (suc i) less = address_front ms n (at + 8 * m) i (omega arith)

address_last : (ms : List ℕ) (n at : ℕ) → address_of (ms ++ n ∷ []) at (length ms) ≡ at + 8 * sum_of_sizes ms
address_last [] n at = omega arith
address_last (m ∷ ms) n at = address_last ms n (at + 8 * m) ∙ (omega arith)

pub in_front : {A : Type 0} (xs : List A) (e : A) (i : ℕ) (d : A) → i < length xs → get_or (xs ++ e ∷ []) i d ≡ get_or xs i d
in_front [] e i d less = absurd (omega arith)
in_front (x ∷ xs) e zero d less = refl
in_front (x ∷ xs) e (suc i) d less = in_front xs e i d (omega arith)

pub in_last : {A : Type 0} (xs : List A) (e : A) (d : A) → get_or (xs ++ e ∷ []) (length xs) d ≡ e
in_last [] e d = refl
in_last (x ∷ xs) e d = in_last xs e d

above_more : (xs : List ℕ) (e low : ℕ) → ((i : ℕ) → low ≤ get_or xs i low) → low ≤ e → (i : ℕ) → low ≤ get_or (xs ++ e ∷ []) i low
above_more [] e low h le zero = le
above_more [] e low h le (suc i) = omega arith
above_more (x ∷ xs) e low h le zero = h zero
above_more (x ∷ xs) e low h le (suc i) = above_more xs e low (λ j. h (suc j)) le i

total_last : (ms : List ℕ) (n : ℕ) → sum_of_sizes (ms ++ n ∷ []) ≡ sum_of_sizes ms + n
total_last [] n = omega arith
total_last (m ∷ ms) n = let ih = total_last ms n in omega arith

pub at_none : (start : ℕ) → AreAt start [] []
at_none start = record { size = refl; each = λ i less. absurd (omega arith); above = λ i. omega arith }

-- one more item stands behind the others
at_more : (start n : ℕ) (sizes at : List ℕ) → BASE ≤ start → AreAt start sizes at → AreAt start (sizes ++ n ∷ []) (at ++ (start + 8 * sum_of_sizes sizes) ∷ [])
at_more start n sizes at low h =
    let s = h.size in
    let l : length (sizes ++ n ∷ []) ≡ length sizes + 1 = length_pushed sizes n in
    record {
      size = length_pushed at (start + 8 * sum_of_sizes sizes) ∙ ap (λ k. k + 1) h.size ∙ sym (length_pushed sizes n);
      each = λ i less. ⊎_elim
          (λ same. subst (λ j. address_in (at ++ (start + 8 * sum_of_sizes sizes) ∷ []) j ≡ address_of (sizes ++ n ∷ []) start j) (sym same)
          (sym (ap (λ j. address_in (at ++ (start + 8 * sum_of_sizes sizes) ∷ []) j) h.size) ∙ in_last at (start + 8 * sum_of_sizes sizes) BASE ∙ sym (address_last sizes n start)))
          (λ o. ⊎_elim
          (λ below. in_front at (start + 8 * sum_of_sizes sizes) i BASE (omega arith) ∙ h.each i below ∙ sym (address_front sizes n start i below))
          (λ over. absurd (omega arith)) o)
          (cases_order i (length sizes));
      above = above_more at (start + 8 * sum_of_sizes sizes) BASE h.above (omega arith);
    }

-- the same in a loop
pub region_more : (start : ℕ) (sizes : List ℕ) (i n : ℕ) (at : List ℕ) (end : ℕ) → BASE ≤ start → i < length sizes → n ≡ get_or sizes i n → end ≡ start + 8 * sum_of_sizes (take i sizes) →
    AreAt start (take i sizes) at → AreAt start (take (i + 1) sizes) (at ++ end ∷ [])
region_more start sizes i n at end low less is e h = subst (λ l. AreAt start l (at ++ end ∷ [])) (sym (take_next sizes i n less is)) (subst (λ a. AreAt start (take i sizes ++ n ∷ []) (at ++ a ∷ [])) (sym e) (at_more start n (take i sizes) at low h))

pub end_more : (start : ℕ) (sizes : List ℕ) (i n end next : ℕ) → i < length sizes → n ≡ get_or sizes i n → end ≡ start + 8 * sum_of_sizes (take i sizes) → next ≡ end + 8 * n → next ≡ start + 8 * sum_of_sizes (take (i + 1) sizes)
end_more start sizes i n end next less is e f =
    let t : sum_of_sizes (take (i + 1) sizes) ≡ sum_of_sizes (take i sizes) + n = ap sum_of_sizes (take_next sizes i n less is) ∙ total_last (take i sizes) n in
    omega arith

map_last : {A : Type 0} {B : Type 0} (f : A → B) (xs : List A) (x : A) → map f (xs ++ x ∷ []) ≡ map f xs ++ f x ∷ []
map_last f [] x = refl
map_last f (y ∷ xs) x = ap (λ ys. f y ∷ ys) (map_last f xs x)

pub map_next : {A : Type 0} {B : Type 0} (f : A → B) (xs : List A) (i : ℕ) (x : A) → i < length xs → x ≡ get_or xs i x → map f (take (i + 1) xs) ≡ map f (take i xs) ++ f x ∷ []
map_next f xs i x less is = ap (map f) (take_next xs i x less is) ∙ map_last f (take i xs) x

-- the number of words of tables, and of one more
pub words_next : (tables : List Table) (i : ℕ) (t : Table) → i < length tables → t ≡ get_or tables i t → length (all_words (take (i + 1) tables)) ≡ length (all_words (take i tables)) + length t.words
words_next tables i t less is = ap (λ ts. length (all_words ts)) (take_next tables i t less is) ∙ ap length (flat_append words_of (take i tables) t) ∙ length-append (all_words (take i tables)) t.words
