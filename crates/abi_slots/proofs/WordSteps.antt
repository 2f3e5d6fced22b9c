-- One more offset, and the numbers of words.
use Rattle.std.proofs.Common.{◌≡◌, ℕ, suc, ◌+◌, ◌<◌, Bool, true, false, Option, Some, None, List, [], ◌∷◌, ◌++◌, length, get_or, refl, ap, subst, sym, ◌∙◌, arith, length-set, take, get_or-set_same, get_or-set_other}
use Rattle.std.proofs.lemmas.Int.{ints}
use Rattle.std.proofs.lemmas.List.{take_more}
use Rattle.std.specs.Prelude.{nat_eq, if◌then◌else◌, IfSome, All, ℤ, pos, negsuc}
use Rattle.std.specs.List.{list_any}
use Rattle.std.proofs.lemmas.Bool.{eq-eqb, eqb-true}
use Rattle.std.proofs.lemmas.List.Folds.{list_any-append}
use Rattle.abi_slots.specs.declared.words.Offset.{Offset}
use Rattle.abi_slots.specs.Listing.{first_position}
use Rattle.abi_slots.specs.Slots.{word_number}
use Rattle.abi_slots.specs.invariants.OffsetWords.{has_number, first_offset_number, first_word, with_offset_word, AreWords}
use Rattle.foundation.proofs.Truth.{split}

pub negative : (n : ℕ) → word_number n ≡ negsuc (n + 2)
negative n = omega (arith, ints)

place_stays : {A : Type 0} (p : A → Bool) (xs ys : List A) → list_any p xs ≡ true → first_position p (xs ++ ys) ≡ first_position p xs
place_stays p [] ys e = cc
place_stays p (x ∷ xs) ys e = split (p x) (λ b. p x ≡ b → (if b then 0 else suc (first_position p (xs ++ ys))) ≡ (if b then 0 else suc (first_position p xs)))
    (λ t same. refl)
    (λ t same. let rest : list_any p xs ≡ true = rw same at e in ap suc (place_stays p xs ys rest))
    refl

place_last : {A : Type 0} (p : A → Bool) (xs : List A) (x : A) → list_any p xs ≡ false → p x ≡ true → first_position p (xs ++ x ∷ []) ≡ length xs
place_last p [] x none e = rw e refl
place_last p (y ∷ xs) x none e = split (p y) (λ b. p y ≡ b → (if b then 0 else suc (first_position p (xs ++ x ∷ []))) ≡ suc (length xs))
    (λ t same. let f : true ≡ false = rw same at none in cc)
    (λ t same. let rest : list_any p xs ≡ false = rw same at none in ap suc (place_last p xs x rest e))
    refl

any_last : {A : Type 0} (p : A → Bool) (xs : List A) (x : A) (b : Bool) → p x ≡ b → list_any p xs ≡ false → list_any p (xs ++ x ∷ []) ≡ b
any_last p xs x true e none = list_any-append p xs (x ∷ []) ∙ rw (none, e) refl
any_last p xs x false e none = list_any-append p xs (x ∷ []) ∙ rw (none, e) refl

any_stays : {A : Type 0} (p : A → Bool) (xs : List A) (x : A) → list_any p xs ≡ true → list_any p (xs ++ x ∷ []) ≡ true
any_stays p xs x e = list_any-append p xs (x ∷ []) ∙ rw e refl

-- an offset that does not pass changes nothing
word_same : (p : Offset → Bool) (xs : List Offset) (x : Offset) → p x ≡ false → first_offset_number p (xs ++ x ∷ []) ≡ first_offset_number p xs
word_same p xs x e = split (list_any p xs) (λ b. list_any p xs ≡ b → first_offset_number p (xs ++ x ∷ []) ≡ first_offset_number p xs)
    (λ t same. let more = any_stays p xs x same in let place = place_stays p xs (x ∷ []) same in rw (more, same) (ap word_number place))
    (λ t same. let more = any_last p xs x false e same in rw (more, same) refl)
    refl

-- one that passes has a word, where none had one before
word_first : (p : Offset → Bool) (xs : List Offset) (x : Offset) → p x ≡ true → first_offset_number p (xs ++ x ∷ []) ≡ first_word (first_offset_number p xs) (length xs)
word_first p xs x e = split (list_any p xs) (λ b. list_any p xs ≡ b → first_offset_number p (xs ++ x ∷ []) ≡ first_word (first_offset_number p xs) (length xs))
    (λ t same. let more = any_stays p xs x same in let place = place_stays p xs (x ∷ []) same in rw (more, same) (ap word_number place ∙ negative (first_position p xs) ∙ sym (ap (λ w. first_word w (length xs)) (negative (first_position p xs)))))
    (λ t same. let more = any_last p xs x true e same in let place = place_last p xs x same e in rw (more, same) (ap word_number place))
    refl

-- whether a word stands tells whether an offset passes
pub word_none : (p : Offset → Bool) (xs : List Offset) → first_offset_number p xs ≡ pos 0 → list_any p xs ≡ false
word_none p xs e = split (list_any p xs) (λ b. list_any p xs ≡ b → b ≡ false)
    (λ t same. let f : word_number (first_position p xs) ≡ pos 0 = rw same at e in let g = negative (first_position p xs) in cc)
    (λ t same. refl)
    refl

pub word_some : (p : Offset → Bool) (xs : List Offset) → (first_offset_number p xs ≡ pos 0 → ⊥) → list_any p xs ≡ true
word_some p xs ne = split (list_any p xs) (λ b. list_any p xs ≡ b → b ≡ true)
    (λ t same. refl)
    (λ t same. absurd (ne (rw same refl)))
    refl

pub with_word_size : (place : ℕ) (o : Option ℕ) (words : List ℤ) → length (with_offset_word place o words) ≡ length words
with_word_size place None words = refl
with_word_size place (Some n) words = simp length-set

-- one more offset
pub words_push : (number : Offset → Option ℕ) (xs : List Offset) (words : List ℤ) (x : Offset) (o : Option ℕ) → AreWords number xs words → number x ≡ o → IfSome o (λ n. n < length words) → AreWords number (xs ++ x ∷ []) (with_offset_word (length xs) o words)
words_push number xs words x None are e within = record { each = λ n lt. are.each n lt ∙ sym (word_same (λ y. has_number n (number y)) xs x (ap (has_number n) e)) }
words_push number xs words x (Some m) are e within = record {
  each = λ n lt.
      let p = λ (y : Offset). has_number n (number y) in
      let test : p x ≡ nat_eq n m = ap (has_number n) e in
      let size = with_word_size (length xs) (Some m) words in
      split (nat_eq n m) (λ b. nat_eq n m ≡ b → get_or (with_offset_word (length xs) (Some m) words) n (pos 0) ≡ first_offset_number p (xs ++ x ∷ []))
      (λ t same.
      let here : n ≡ m = eqb-true n m same in
      let in_list : m < length words = within in
      subst (λ k. get_or (with_offset_word (length xs) (Some m) words) k (pos 0) ≡ first_offset_number p (xs ++ x ∷ [])) (sym here)
      (get_or-set_same words m (first_word (get_or words m (pos 0)) (length xs)) (pos 0) in_list ∙ ap (λ w. first_word w (length xs)) (ap (λ k. get_or words k (pos 0)) (sym here) ∙ are.each n (omega arith)) ∙ sym (word_first p xs x (test ∙ same))))
      (λ t same.
      let away : n ≡ m → ⊥ = λ k. let f = eq-eqb n m k in cc in
      get_or-set_other words m n (first_word (get_or words m (pos 0)) (length xs)) (pos 0) away ∙ are.each n (omega arith) ∙ sym (word_same p xs x (test ∙ same)))
      refl;
}

-- so far the first i of the old offsets are copied
pub record AreCopied (number : Offset → Option ℕ) (count : ℕ) (old : List Offset) (i : ℕ) (offsets : List Offset) (words : List ℤ) : Type 0 where
  pub copies : offsets ≡ take i old
  pub size : length words ≡ count
  pub words_are : AreWords number offsets words

pub copied_more : (number : Offset → Option ℕ) (count : ℕ) (old : List Offset) (i : ℕ) (offsets new : List Offset) (words more : List ℤ) (x : Offset) (o : Option ℕ) → AreCopied number count old i offsets words → i < length old → All (λ y. IfSome (number y) (λ n. n < count)) old → x ≡ get_or old i x → o ≡ number x
    → new ≡ offsets ++ x ∷ [] → more ≡ with_offset_word (length offsets) o words → AreCopied number count old (i + 1) new more
copied_more number count old i offsets new words more x o are lt all item is grows changes =
    let low : IfSome o (λ n. n < count) = subst (λ a. IfSome a (λ n. n < count)) (sym (is ∙ ap number item)) (all i x lt) in
    let within : IfSome o (λ n. n < length words) = subst (λ k. IfSome o (λ n. n < k)) (sym are.size) low in
    record {
      copies = grows ∙ ap (λ xs. xs ++ x ∷ []) are.copies ∙ ap (λ y. take i old ++ y ∷ []) item ∙ sym (take_more old i x lt);
      size = ap length changes ∙ with_word_size (length offsets) o words ∙ are.size;
      words_are = subst (λ xs. AreWords number xs more) (sym grows) (subst (λ ws. AreWords number (offsets ++ x ∷ []) ws) (sym changes) (words_push number offsets words x o are.words_are (sym is) within));
    }
