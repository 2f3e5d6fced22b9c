use Rattle.std.proofs.Common.{◌≡◌, ℕ, ◌+◌, ◌*◌, ◌<◌, ◌≤◌, Some, List, [], ◌∷◌, ◌++◌, map, length, get_or, take, refl, ap, sym, ◌∙◌, subst, arith, append_assoc, append-nil, length-append}
use Rattle.std.specs.List.{slice_get, flat_map}
use Rattle.std.proofs.lemmas.List.{take_all, length-take-le}
use Rattle.std.proofs.lemmas.Option.{slice_get_within}
use Rattle.foundation.proofs.Places.{get_front, any_default, take_next}
use Rattle.abi_slots.proofs.Lists.{get_past}
use Rattle.abi_slots.specs.Images.{Image}
use Rattle.abi_image.specs.declared.TheConstants.{BASE}
use Rattle.abi_image.specs.declared.draft.Draft.{Draft}
use Rattle.abi_image.specs.invariants.Drafts.{AllAt, AllBySize, Fills, HasDraftWords, Puts, WordsStandAt, one_word, sum_of_sizes, two_words}
use Rattle.abi_image.proofs.Lists.{sized_append, total_append, flat_all, flat_total, one_word_each, total_one, total_two, two_words_each}

-- words of which the first ones stand there, and the others behind them
pub stands_front : (image : Image) (at : ℕ) (xs ys : List ℕ) → WordsStandAt image at (xs ++ ys) → WordsStandAt image at xs
stands_front image at xs ys h = record { each = λ i x e. h.each i x (get_front xs ys i x e) }

pub stands_back : (image : Image) (at : ℕ) (xs ys : List ℕ) → WordsStandAt image at (xs ++ ys) → WordsStandAt image (at + 8 * length xs) ys
stands_back image at xs ys h = record {
  each = λ i x e.
      let there : at + 8 * (length xs + i) ≡ at + 8 * length xs + 8 * i = omega arith in
      subst (λ n. image n ≡ Some x) there (h.each (length xs + i) x (get_past xs ys i x e));
}

-- what is in the new draft is in the old one
pub in_old : (a b : Draft) (n : ℕ) (Says : Image → ℕ → Type 0) (image : Image) → Puts a b n Says → HasDraftWords image b → HasDraftWords image a
in_old a b n Says image puts inside = record {
  words = stands_front image BASE a.words.items puts.words (subst (λ ws. WordsStandAt image BASE ws) puts.words_are inside.words);
  records = stands_front image a.records_at a.records.items puts.records (subst (λ ws. WordsStandAt image a.records_at ws) puts.records_are (subst (λ n. WordsStandAt image n b.records.items) puts.same_place inside.records));
}

pub puts_none : (a : Draft) (Says : Image → ℕ → Type 0) → ((image : Image) (at : ℕ) → Says image at) → Puts a a 0 Says
puts_none a Says always = record {
  words = [];
  count_is = refl;
  words_are = sym (append-nil a.words.items);
  records = [];
  records_are = sym (append-nil a.records.items);
  few = omega arith;
  same_place = refl;
  says = λ image inside. always image (BASE + 8 * length a.words.items);
}

pub length_after : (a b : Draft) (n : ℕ) (Says : Image → ℕ → Type 0) → Puts a b n Says → length b.words.items ≡ length a.words.items + n
length_after a b n Says puts = ap length puts.words_are ∙ length-append a.words.items puts.words ∙ ap (λ m. length a.words.items + m) puts.count_is

pub puts_both : (a b c : Draft) (m n : ℕ) (P Q : Image → ℕ → Type 0) → Puts a b m P → Puts b c n Q → Puts a c (m + n) (λ image at. P image at × Q image (at + 8 * m))
puts_both a b c m n P Q first second = record {
  words = first.words ++ second.words;
  count_is = length-append first.words second.words ∙ ap (λ k. k + length second.words) first.count_is ∙ ap (λ k. m + k) second.count_is;
  words_are = second.words_are ∙ ap (λ ws. ws ++ second.words) first.words_are ∙ append_assoc a.words.items first.words second.words;
  records = first.records ++ second.records;
  records_are = second.records_are ∙ ap (λ ws. ws ++ second.records) first.records_are ∙ append_assoc a.records.items first.records second.records;
  few = let l = length-append first.records second.records in let f = first.few in let s = second.few in omega (arith, l, f, s);
  same_place = second.same_place ∙ first.same_place;
  says = λ image inside.
      let l : length b.words.items ≡ length a.words.items + m = length_after a b m P first in
      let there : BASE + 8 * length b.words.items ≡ BASE + 8 * length a.words.items + 8 * m = omega arith in
      (first.says image (in_old b c n Q image second inside), subst (λ k. Q image k) there (second.says image inside));
}

pub puts_as : (a b : Draft) (m n : ℕ) (P Q : Image → ℕ → Type 0) → Puts a b m P → m ≡ n → ((image : Image) (at : ℕ) → P image at → Q image at) → Puts a b n Q
puts_as a b m n P Q puts same more = record {
  words = puts.words;
  count_is = puts.count_is ∙ same;
  words_are = puts.words_are;
  records = puts.records;
  records_are = puts.records_are;
  few = subst (λ k. length puts.records ≤ 6 * k) same puts.few;
  same_place = puts.same_place;
  says = λ image inside. more image (BASE + 8 * length a.words.items) (puts.says image inside);
}

-- one word is put
pub puts_word : (a b : Draft) (w : ℕ) → b.words.items ≡ a.words.items ++ w ∷ [] → b.records ≡ a.records → b.records_at ≡ a.records_at → Puts a b 1 (λ image at. image at ≡ Some w)
puts_word a b w words records place = record {
  words = w ∷ [];
  count_is = refl;
  words_are = words;
  records = [];
  records_are = ap (λ v. v.items) records ∙ sym (append-nil a.records.items);
  few = omega arith;
  same_place = place;
  says = λ image inside.
      let all : WordsStandAt image BASE (a.words.items ++ w ∷ []) = subst (λ ws. WordsStandAt image BASE ws) words inside.words in
      let behind : WordsStandAt image (BASE + 8 * length a.words.items) (w ∷ []) = stands_back image BASE a.words.items (w ∷ []) all in
      let e : BASE + 8 * length a.words.items + 8 * 0 ≡ BASE + 8 * length a.words.items = omega arith in
      subst (λ k. image k ≡ Some w) e (behind.each 0 w refl);
}

-- items one after the other

pub fills_none : {A : Type 0} (size : A → ℕ) (P : Image → ℕ → A → ℕ → Type 0) (xs : List A) (a : Draft) → Fills size P xs 0 a a
fills_none size P xs a = record { puts = puts_none a (λ image at. AllBySize size (P image) [] at) (λ image at i x e. absurd (cc)) }

pub fills_more : {A : Type 0} (size : A → ℕ) (P : Image → ℕ → A → ℕ → Type 0) (xs : List A) (i : ℕ) (x : A) (a b c : Draft) → i < length xs → x ≡ get_or xs i x →
    Fills size P xs i a b → Puts b c (size x) (λ image at. P image i x at) → Fills size P xs (i + 1) a c
fills_more size P xs i x a b c less is before here =
    let next : take (i + 1) xs ≡ take i xs ++ x ∷ [] = take_next xs i x less is in
    let place : length (take i xs) ≡ i = length-take-le i xs (omega arith) in
    let both = puts_both a b c (sum_of_sizes (map size (take i xs))) (size x) (λ image at. AllBySize size (P image) (take i xs) at) (λ image at. P image i x at) before.puts here in
    record {
      puts = subst (λ l. Puts a c (sum_of_sizes (map size l)) (λ image at. AllBySize size (P image) l at)) (sym next)
          (puts_as a c _ _ (λ image at. AllBySize size (P image) (take i xs) at × P image i x (at + 8 * sum_of_sizes (map size (take i xs)))) (λ image at. AllBySize size (P image) (take i xs ++ x ∷ []) at) both (sym (total_append size (take i xs) x))
          (λ image at h. sized_append size (P image) (take i xs) x at h.0 (subst (λ k. P image k x (at + 8 * sum_of_sizes (map size (take i xs)))) (sym place) h.1)));
    }

pub fills_all : {A : Type 0} (size : A → ℕ) (P : Image → ℕ → A → ℕ → Type 0) (xs : List A) (i : ℕ) (a b : Draft) → length xs ≤ i → Fills size P xs i a b → Puts a b (sum_of_sizes (map size xs)) (λ image at. AllBySize size (P image) xs at)
fills_all size P xs i a b all fills = subst (λ l. Puts a b (sum_of_sizes (map size l)) (λ image at. AllBySize size (P image) l at)) (take_all i xs all) fills.puts

-- one item more, as a loop names it
pub fills_next : {A : Type 0} (size : A → ℕ) (P : Image → ℕ → A → ℕ → Type 0) (xs : List A) (i : ℕ) (d : A) (a b c : Draft) → i < length xs →
    Fills size P xs i a b → Puts b c (size (get_or xs i d)) (λ image at. P image i (get_or xs i d) at) → Fills size P xs (i + 1) a c
fills_next size P xs i d a b c less before here = fills_more size P xs i (get_or xs i d) a b c less (any_default xs i d (get_or xs i d) less) before here

-- all items, of one word each
pub fills_words : {A : Type 0} (P : Image → ℕ → A → Type 0) (xs : List A) (i : ℕ) (a b : Draft) → length xs ≤ i → Fills one_word (λ image j x at. P image at x) xs i a b → Puts a b (length xs) (λ image at. AllAt (P image) xs at)
fills_words P xs i a b all fills = puts_as a b _ (length xs) (λ image at. AllBySize one_word (λ j x there. P image there x) xs at) (λ image at. AllAt (P image) xs at) (fills_all one_word (λ image j x at. P image at x) xs i a b all fills) (total_one xs)
    (λ image at h j x e. subst (λ n. P image n x) (one_word_each xs at j (slice_get_within xs j x e)) (h j x e))

-- all items, of two words each
pub fills_pairs : {A : Type 0} (P : Image → ℕ → A → ℕ → Type 0) (xs : List A) (i : ℕ) (a b : Draft) → length xs ≤ i → Fills two_words P xs i a b → Puts a b (2 * length xs) (λ image at. (j : ℕ) (x : A) → slice_get xs j ≡ Some x → P image j x (at + 16 * j))
fills_pairs {A} P xs i a b all fills = puts_as a b _ (2 * length xs) (λ image at. AllBySize two_words (P image) xs at) (λ image at. (j : ℕ) (x : A) → slice_get xs j ≡ Some x → P image j x (at + 16 * j)) (fills_all two_words P xs i a b all fills) (total_two xs)
    (λ image at h j x e. subst (λ n. P image j x n) (two_words_each xs at j (slice_get_within xs j x e)) (h j x e))

-- all pieces, word by word
pub fills_flat : {A : Type 0} {B : Type 0} (f : A → List B) (P : Image → ℕ → B → Type 0) (xs : List A) (i : ℕ) (a b : Draft) → length xs ≤ i → Fills (λ x. length (f x)) (λ image j x at. AllAt (P image) (f x) at) xs i a b → Puts a b (length (flat_map f xs)) (λ image at. AllAt (P image) (flat_map f xs) at)
fills_flat f P xs i a b all fills = puts_as a b _ (length (flat_map f xs)) (λ image at. AllBySize (λ x. length (f x)) (λ j x there. AllAt (P image) (f x) there) xs at) (λ image at. AllAt (P image) (flat_map f xs) at) (fills_all (λ x. length (f x)) (λ image j x at. AllAt (P image) (f x) at) xs i a b all fills) (flat_total f xs)
    (λ image at h. flat_all f (P image) xs at h)
