-- How a text begins can be decided.
use Rattle.std.proofs.Common.{◌≡◌, ◌∙◌, ℕ, zero, suc, ◌^◌, ◌<◌, ◌⊎◌, ⊎_elim, arith, inl, inr, Option, Some, None, List, [], ◌∷◌, ◌++◌, refl, ap, sym, subst}
use Rattle.std.specs.Prelude.{ℤ, Contains, slice_get}
use Rattle.foundation.proofs.Deciding.{Decided, HasBelow, decide_any, decide_below, decide_has_below, decide_list, decide_number}
use Rattle.foundation.proofs.Members.{contains_from_has, has_from_contains, index_of}
use Rattle.cxx_hierarchy.specs.declared.records.ClassId.{ClassId}
use Rattle.cxx_hierarchy.specs.declared.records.Scalar.{Scalar}
use Rattle.cxx_hierarchy.specs.declared.records.ValueType.{ValueType}
use Rattle.cxx_hierarchy.specs.declared.records.ValueType.TheVariants.{Number as NumberType, Pointer as PointerType}
use Rattle.cxx_hierarchy.specs.Classes.{Classes}
use Rattle.cxx_hierarchy.specs.Scalars.{is_signed, most_bits}
use Rattle.byte_code.specs.Numbers.{number_of_bits, word_of}
use Rattle.byte_code.proofs.Words.{word_of-fits}
use Rattle.abi_inspect.specs.declared.seen.SeenValue.{SeenValue}
use Rattle.abi_inspect.specs.declared.seen.SeenValue.TheVariants.{Unset, Number, Null, Place}
use Rattle.abi_inspect.specs.declared.slots.LeafLine.{LeafLine}
use Rattle.abi_inspect.specs.Values.{IsNumberOfLeaf, IsHeapPlace, IsValueOf, most_dumped_number}
use Rattle.abi_inspect.specs.SeenTexts.{leaf_line}
use Rattle.abi_inspect.specs.invariants.Readable.{IsNarrow, number_bits}
use Rattle.abi_inspect.proofs.Cuts.{IsCut}
use Rattle.abi_inspect.proofs.Ranges.{bits_of_word, most_narrow, range_width}
use Rattle.abi_inspect.proofs.Readings.{number_fits}

-- the text begins with a front
pub record Begins (text front : List ℕ) : Type 0 where
  pub rest : List ℕ
  pub is : text ≡ front ++ rest

pub decide_begins : (text front : List ℕ) → Decided (Begins text front)
decide_begins text [] = inl (record { rest = text; is = refl })
decide_begins [] (b ∷ front) = inr (λ k. let e = k.is in cc)
decide_begins (a ∷ text) (b ∷ front) = ⊎_elim
    (λ e. ⊎_elim
    (λ k. inl (record { rest = k.rest; is = ap (λ (c : ℕ). c ∷ text) e ∙ ap (λ (l : List ℕ). b ∷ l) k.is }))
    (λ none. inr (λ k. none (record { rest = k.rest; is = same_rest k })))
    (decide_begins text front))
    (λ apart. inr (λ k. apart (same_first k)))
    (decide_number a b)
  where
    same_first : Begins (a ∷ text) (b ∷ front) → a ≡ b
    same_first k = let e : a ∷ text ≡ b ∷ (front ++ k.rest) = k.is in cc

    same_rest : (k : Begins (a ∷ text) (b ∷ front)) → text ≡ front ++ k.rest
    same_rest k = let e : a ∷ text ≡ b ∷ (front ++ k.rest) = k.is in cc

-- the text cut at the first byte that is this one
pub record HasCut (text : List ℕ) (c : ℕ) : Type 0 where
  pub front : List ℕ
  pub rest : List ℕ
  pub cut : IsCut text front rest c

pub cut_or_none : (text : List ℕ) (c : ℕ) → HasCut text c ⊎ (Contains text c → ⊥)
cut_or_none [] c = inr (λ has. has_from_contains [] c has)
cut_or_none (b ∷ text) c = ⊎_elim
    (λ e. inl (record { front = []; rest = text; cut = record { is = ap (λ (k : ℕ). k ∷ text) e; before = λ has. has_from_contains [] c has } }))
    (λ apart. ⊎_elim
    (λ k. inl (record {
      front = b ∷ k.front;
      rest = k.rest;
      cut = record {
        is = ap (λ (l : List ℕ). b ∷ l) k.cut.is;
        before = λ has. ⊎_elim apart (λ there. k.cut.before (contains_from_has k.front c there)) (has_from_contains (b ∷ k.front) c has);
      };
    }))
    (λ none. inr (λ has. ⊎_elim apart (λ there. none (contains_from_has text c there)) (has_from_contains (b ∷ text) c has)))
    (cut_or_none text c))
    (decide_number b c)

-- the place of a name
pub find_name : (names : List (List ℕ)) (name : List ℕ) → ((i : ℕ) × (slice_get names i ≡ Some name)) ⊎ (Contains names name → ⊥)
find_name names name = ⊎_elim
    (λ k. inl (let place = index_of names k.item k.listed in (place.0, place.1 ∙ ap (λ (n : List ℕ). Some n) k.is)))
    (λ none. inr (λ has. none name (has_from_contains names name has) refl))
    (decide_any (λ (n : List ℕ). n ≡ name) names (λ n has. decide_list decide_number n name))

-- the text begins with the line of a value that a leaf can have
pub record HasValue (width : Option ℕ) (type : ValueType ClassId) (line : SeenValue → List ℕ) (text : List ℕ) : Type 0 where
  pub value : SeenValue
  pub fits : IsValueOf width type value
  pub rest : List ℕ
  pub is : text ≡ line value ++ rest

module _ (width : Option ℕ) (line : SeenValue → List ℕ) (text : List ℕ) where
  -- numbers: each is that of a word
  search_number : (t : Scalar) (bound : ℕ) → ((z : ℤ) → IsNumberOfLeaf width t z → (word : ℕ) × (word < bound) × (number_of_bits (record { bits = number_bits width t; signed = is_signed t }) word ≡ z)) →
      HasValue width (NumberType t) line text ⊎ ((z : ℤ) → IsNumberOfLeaf width t z → Begins text (line (Number z)) → ⊥)
  search_number t bound each = ⊎_elim
      (λ k. inl (record { value = Number (number_of_bits (record { bits = number_bits width t; signed = is_signed t }) k.number); fits = number_fits width t k.number; rest = k.is.rest; is = k.is.is }))
      (λ none. inr (λ z held begins. let w = each z held in none w.0 w.1 (subst (λ (y : ℤ). Begins text (line (Number y))) (sym w.2) begins)))
      (decide_below (λ word. Begins text (line (Number (number_of_bits (record { bits = number_bits width t; signed = is_signed t }) word)))) bound
      (λ i lt. decide_begins text (line (Number (number_of_bits (record { bits = number_bits width t; signed = is_signed t }) i)))))

  decide_number_value : (t : Scalar) (bound : ℕ) → ((z : ℤ) → IsNumberOfLeaf width t z → (word : ℕ) × (word < bound) × (number_of_bits (record { bits = number_bits width t; signed = is_signed t }) word ≡ z)) →
      Decided (HasValue width (NumberType t) line text)
  decide_number_value t bound each = ⊎_elim
      (λ b. inl (record { value = Unset; fits = tt; rest = b.rest; is = b.is }))
      (λ unset. ⊎_elim
      (λ k. inl k)
      (λ none. inr (λ k. no_value unset none k.value k.fits (record { rest = k.rest; is = k.is })))
      (search_number t bound each))
      (decide_begins text (line Unset))
    where
      no_value : (Begins text (line Unset) → ⊥) → ((z : ℤ) → IsNumberOfLeaf width t z → Begins text (line (Number z)) → ⊥) → (v : SeenValue) → IsValueOf width (NumberType t) v → Begins text (line v) → ⊥
      no_value unset none Unset fits b = unset b
      no_value unset none (Number z) fits b = none z fits b
      no_value unset none Null fits b = absurd fits
      no_value unset none (Place number place) fits b = absurd fits

  -- places in heap objects
  search_place : (most : ℕ) → HasBelow (λ i. HasBelow (λ j. Begins text (line (Place (suc i) j))) (suc most)) most ⊎ ((i : ℕ) → i < most → HasBelow (λ j. Begins text (line (Place (suc i) j))) (suc most) → ⊥)
  search_place most = decide_below (λ i. HasBelow (λ j. Begins text (line (Place (suc i) j))) (suc most)) most
      (λ i lt. decide_has_below (λ j. Begins text (line (Place (suc i) j))) (suc most) (λ j less. decide_begins text (line (Place (suc i) j))))

  decide_place : (most : ℕ) → most ≡ most_dumped_number → ((number place : ℕ) × IsHeapPlace number place × Begins text (line (Place number place))) ⊎ ((number place : ℕ) → IsHeapPlace number place → Begins text (line (Place number place)) → ⊥)
  decide_place most same = ⊎_elim
      (λ k. inl (suc k.number, k.is.number, (let lt = k.below in let near = k.is.below in record { low = omega arith; high = omega (arith, same, lt); near = omega (arith, same, near) }), k.is.is))
      (λ none. inr (λ number place is b. no_place none number place is b))
      (search_place most)
    where
      no_place : ((i : ℕ) → i < most → HasBelow (λ j. Begins text (line (Place (suc i) j))) (suc most) → ⊥) → (number place : ℕ) → IsHeapPlace number place → Begins text (line (Place number place)) → ⊥
      no_place none zero place is b = let low = is.low in omega (arith, low)
      no_place none (suc i) place is b =
          let high = is.high in
          let near = is.near in
          none i (omega (arith, same, high)) (record { number = place; below = omega (arith, same, near); is = b })

  decide_pointer : (c : ClassId) (most : ℕ) → most ≡ most_dumped_number → Decided (HasValue width (PointerType c) line text)
  decide_pointer c most same = ⊎_elim
      (λ b. inl (record { value = Unset; fits = tt; rest = b.rest; is = b.is }))
      (λ unset. ⊎_elim
      (λ b. inl (record { value = Null; fits = tt; rest = b.rest; is = b.is }))
      (λ null. ⊎_elim
      (λ k. inl (record { value = Place k.0 k.1; fits = k.2; rest = k.3.rest; is = k.3.is }))
      (λ none. inr (λ k. no_value unset null none k.value k.fits (record { rest = k.rest; is = k.is })))
      (decide_place most same))
      (decide_begins text (line Null)))
      (decide_begins text (line Unset))
    where
      no_value : (Begins text (line Unset) → ⊥) → (Begins text (line Null) → ⊥) → ((number place : ℕ) → IsHeapPlace number place → Begins text (line (Place number place)) → ⊥) → (v : SeenValue) → IsValueOf width (PointerType c) v → Begins text (line v) → ⊥
      no_value unset null none Unset fits b = unset b
      no_value unset null none (Number z) fits b = absurd fits
      no_value unset null none Null fits b = null b
      no_value unset null none (Place number place) fits b = none number place fits b

-- each number that a leaf can hold is that of its word
word_for : (width : Option ℕ) (t : Scalar) → IsNarrow width → (z : ℤ) → IsNumberOfLeaf width t z → (word : ℕ) × (word < 2 ^ 64) × (number_of_bits (record { bits = number_bits width t; signed = is_signed t }) word ≡ z)
word_for None t narrow z held = (word_of z, word_of-fits z, bits_of_word t (most_bits t) z (most_narrow t) (range_width t z held))
word_for (Some n) t narrow z held = (word_of z, word_of-fits z, bits_of_word t n z narrow held)

-- whether a text begins with the line of a value
decide_value : (width : Option ℕ) (type : ValueType ClassId) (line : SeenValue → List ℕ) (text : List ℕ) → IsNarrow width → Decided (HasValue width type line text)
decide_value width (NumberType t) line text narrow = decide_number_value width line text t (2 ^ 64) (word_for width t narrow)
decide_value width (PointerType c) line text narrow = decide_pointer width line text c most_dumped_number refl

pub decide_leaf : (h : Classes) (x : LeafLine) (text : List ℕ) → IsNarrow x.bits.width → Decided (HasValue x.bits.width x.ty (leaf_line h x) text)
decide_leaf h x text narrow = decide_value x.bits.width x.ty (leaf_line h x) text narrow
