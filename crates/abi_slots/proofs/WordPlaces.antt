-- Where the words of a table stand.
use Rattle.std.proofs.Common.{◌≡◌, ℕ, zero, suc, ◌+◌, ◌-◌, ◌<◌, Some, List, [], ◌∷◌, ◌++◌, map, length, reverse, get_or, refl, ap, subst, ◌∙◌, arith}
use Rattle.std.specs.Prelude.{slice_get}
use Rattle.std.proofs.lemmas.Option.{slice_get_within, slice_get-get_or, get_or_from_slice_get}
use Rattle.std.proofs.lemmas.List.{length-reverse, get_or-reverse}
use Rattle.abi_slots.specs.declared.words.TableWord.{TableWord}
use Rattle.abi_slots.specs.declared.words.TableWord.TheVariants.{Entry}
use Rattle.abi_slots.specs.declared.words.EntryWord.{EntryWord}
use Rattle.abi_slots.specs.Groups.{GoAlong}
use Rattle.abi_slots.proofs.Lists.{get_past}
use Rattle.foundation.proofs.Places.{get_front}

-- the item that goes along with another
pub partner : {A : Type 0} {B : Type 0} (R : A → B → Type 0) (xs : List A) (ys : List B) → GoAlong R xs ys → (i : ℕ) (a : A) → slice_get xs i ≡ Some a → (b : B) × (slice_get ys i ≡ Some b) × R a b
partner R xs ys go i a e =
    let lt = slice_get_within xs i a e in
    let size = go.size in
    let r = within ys i (omega arith) in
    (r.0, r.1, go.each i a r.0 e r.1)
  where
    within : {C : Type 0} (zs : List C) (j : ℕ) → j < length zs → (c : C) × (slice_get zs j ≡ Some c)
    within [] j lt = absurd (omega arith)
    within (z ∷ zs) zero lt = (z, refl)
    within (z ∷ zs) (suc j) lt = within zs j (omega arith)

-- an item so far from the end of a list is so far from the start of the reversed one
pub reversed_at : {A : Type 0} (xs : List A) (n i : ℕ) (x : A) → slice_get xs n ≡ Some x → i + n + 1 ≡ length xs → slice_get (reverse xs) i ≡ Some x
reversed_at xs n i x e is =
    let size = length-reverse xs in
    let here : length xs - 1 - i ≡ n = omega arith in
    let value : get_or (reverse xs) i x ≡ x = get_or-reverse xs i x (omega arith) ∙ ap (λ j. get_or xs j x) here ∙ get_or_from_slice_get xs n x x e in
    slice_get-get_or (reverse xs) i x (omega arith) ∙ ap (λ a. Some a) value

-- a table's words: its offsets, the last first, two words more, and its entries
module _ (words offsets : List TableWord) (entries : List EntryWord) (top : TableWord) (info : TableWord) (is : words ≡ reverse offsets ++ top ∷ info ∷ map Entry entries) where
  pub offset_at : (n i : ℕ) (w : TableWord) → slice_get offsets n ≡ Some w → i + n + 1 ≡ length offsets → slice_get words i ≡ Some w
  offset_at n i w e at = rw is (get_front (reverse offsets) (top ∷ info ∷ map Entry entries) i w (reversed_at offsets n i w e at))

  after : (i : ℕ) (w : TableWord) → slice_get (top ∷ info ∷ map Entry entries) i ≡ Some w → slice_get words (length offsets + i) ≡ Some w
  after i w e = rw is (subst (λ n. slice_get (reverse offsets ++ top ∷ info ∷ map Entry entries) (n + i) ≡ Some w) (length-reverse offsets) (get_past (reverse offsets) (top ∷ info ∷ map Entry entries) i w e))

  pub top_at : slice_get words (length offsets) ≡ Some top
  top_at = let e : length offsets + 0 ≡ length offsets = omega arith in subst (λ n. slice_get words n ≡ Some top) e (after 0 top refl)

  pub info_at : slice_get words (length offsets + 1) ≡ Some info
  info_at = after 1 info refl

  mapped : (xs : List EntryWord) (n : ℕ) (w : EntryWord) → slice_get xs n ≡ Some w → slice_get (map Entry xs) n ≡ Some (Entry w)
  mapped [] n w e = cc
  mapped (y ∷ xs) zero w e = let f : y ≡ w = cc in ap (λ a. Some (Entry a)) f
  mapped (y ∷ xs) (suc n) w e = mapped xs n w e

  pub entry_at : (n : ℕ) (w : EntryWord) → slice_get entries n ≡ Some w → slice_get words (length offsets + 2 + n) ≡ Some (Entry w)
  entry_at n w e =
      let f : length offsets + suc (suc n) ≡ length offsets + 2 + n = omega arith in
      subst (λ i. slice_get words i ≡ Some (Entry w)) f (after (suc (suc n)) (Entry w) (mapped entries n w e))
