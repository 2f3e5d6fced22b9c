-- The offsets of a class, and what its tables say of them.
use Rattle.std.proofs.Common.{◌≡◌, ℕ, suc, ◌+◌, ◌<◌, ◌≤◌, Bool, true, false, Some, List, [], ◌∷◌, map, length, get_or, refl, ap, subst, sym, ◌∙◌, arith}
use Rattle.std.specs.Prelude.{if◌then◌else◌, slice_get, All, IfSome, ℤ, pos}
use Rattle.std.specs.List.{list_any}
use Rattle.std.proofs.lemmas.Bool.{eq-eqb}
use Rattle.std.proofs.lemmas.Option.{slice_get-get_or}
use Rattle.cxx_hierarchy.specs.declared.records.ClassId.{ClassId}
use Rattle.cxx_hierarchy.specs.Classes.{Classes}
use Rattle.cxx_hierarchy.specs.Hierarchies.{IsHierarchy}
use Rattle.cxx_hierarchy.specs.VirtualBases.{HasVirtualBase}
use Rattle.cxx_subobject.specs.VirtualBases.{virtual_bases}
use Rattle.cxx_subobject.proofs.PathLemmas.{base_before, virtual_below}
use Rattle.cxx_overrider.specs.declared.FunctionId.{FunctionId}
use Rattle.cxx_overrider.specs.invariants.Numbers.{number_of, IsNumbering}
use Rattle.abi_primary.specs.declared.Primary.{Primary}
use Rattle.abi_primary.specs.declared.Primary.TheVariants.{None as NoPrimary, Direct, Virtual}
use Rattle.abi_sound.specs.declared.class_layout.ClassLayout.{ClassLayout}
use Rattle.abi_sound.specs.Places.{Places, places_of}
use Rattle.abi_sound.specs.Sound.{IsSoundLayout}
use Rattle.abi_slots.specs.declared.words.Offset.{Offset}
use Rattle.abi_slots.specs.declared.words.Offset.TheVariants.{ToBase}
use Rattle.abi_slots.specs.Limits.{most_offsets}
use Rattle.abi_slots.specs.Listing.{is_base, is_offset_of_name, first_position, push_all, calls, calls_in, primary_offsets, offsets, vbase_number, vcall_number}
use Rattle.abi_slots.specs.Slots.{word_number}
use Rattle.abi_slots.specs.invariants.OffsetWords.{virtual_base_number, name_number, has_number, first_offset_number, AreWords}
use Rattle.abi_slots.specs.invariants.SlotRows.{IsPrimaryBefore, IsShared}
use Rattle.abi_slots.proofs.Lists.{Item, any_item}
use Rattle.abi_slots.proofs.Bases.{item_virtual}
use Rattle.abi_slots.proofs.Listings.{ArePrimaries, IsListable, a_base, a_call, offsets_is, offsets_keep, vbase_there}
use Rattle.abi_slots.proofs.Calls.{each_listable}
use Rattle.abi_slots.proofs.OffsetBounds.{few_offsets}
use Rattle.abi_slots.proofs.PushSteps.{any_same, base_told, name_told}

pub primaries_of : (h : Classes) (rows : List ClassLayout) → IsSoundLayout h rows → ArePrimaries h (places_of h rows)
primaries_of h rows sound = record { direct = λ c b known e. (sound.each c known).direct b e; virtual = λ c v known e. (sound.each c known).virtual v e }

place_same : {A : Type 0} (p q : A → Bool) (xs : List A) → ((x : A) → p x ≡ q x) → first_position p xs ≡ first_position q xs
place_same p q [] same = refl
place_same p q (x ∷ xs) same = ap (λ b. if b then 0 else suc (first_position p xs)) (same x) ∙ ap (λ n. if q x then 0 else suc n) (place_same p q xs same)

-- the word of what is listed
word_is : (p q : Offset → Bool) (xs : List Offset) → ((x : Offset) → p x ≡ q x) → list_any q xs ≡ true → first_offset_number p xs ≡ word_number (first_position q xs)
word_is p q xs same there = let any = any_same p q xs same ∙ there in rw any (ap word_number (place_same p q xs same))

low_base : (h : Classes) → IsHierarchy h → (s : Bool) (c : ClassId) (x : Offset) → IsListable h s c x → IfSome (virtual_base_number x) (λ n. n < c.0)
low_base h keeps s c _ (a_base v has) = virtual_below h keeps c v has
low_base h keeps s c _ (a_call u path g is) = tt

pub virtuals_within : (h : Classes) → IsHierarchy h → (c : ClassId) (list : List ClassId) (count : ℕ) → list ≡ virtual_bases h c → count ≡ c.0 → All (λ (v : ClassId). v.0 < count) list
virtuals_within h keeps c list count is size = λ i d lt.
    let v = get_or list i d in
    let there : Item (virtual_bases h c) v = subst (λ xs. Item xs v) is (record { index = i; there = slice_get-get_or list i d lt }) in
    let below = virtual_below h keeps c v (item_virtual h keeps c v there) in
    omega arith

module _ (h : Classes) (l : Places) (keeps : IsHierarchy h) (are : ArePrimaries h l) where
  pub primary_before : (c : ClassId) (p : Primary) → c.0 < length h → p ≡ l.primary c → IsPrimaryBefore c.0 p
  primary_before c NoPrimary known e = tt
  primary_before c (Direct b) known e = base_before h keeps c b false (are.direct c b known (sym e)).0
  primary_before c (Virtual v) known e = virtual_below h keeps c v (are.virtual c v known (sym e)).0

  pub primary_shared : (c : ClassId) (p : Primary) → c.0 < length h → p ≡ l.primary c → IsShared h p
  primary_shared c NoPrimary known e = tt
  primary_shared c (Direct b) known e = tt
  primary_shared c (Virtual v) known e = record { of = c; has = (are.virtual c v known (sym e)).0 }

  pub bases_within : (c : ClassId) (p : Primary) (old : List Offset) → c.0 < length h → p ≡ l.primary c → old ≡ primary_offsets (offsets h l) p → All (λ (x : Offset). IfSome (virtual_base_number x) (λ n. n < c.0)) old
  bases_within c p old known primary is = λ i d lt.
      let x = get_or old i d in
      let there = subst (λ xs. slice_get xs i ≡ Some x) (is ∙ ap (primary_offsets (offsets h l)) primary) (slice_get-get_or old i d lt) in
      low_base h keeps false c x (each_listable h l keeps are false c known x (record { index = i; there = (offsets_keep h l keeps are false c known).stays i x there }))

  plain_is : (c : ClassId) → c.0 < length h → offsets h l false c ≡ push_all h (primary_offsets (offsets h l) (l.primary c)) (map ToBase (virtual_bases h c))
  plain_is c known = offsets_is h l keeps are false c known

  -- the offsets of a class
  pub plain_are : (c : ClassId) (p : Primary) (old : List Offset) (list : List ClassId) → c.0 < length h → p ≡ l.primary c → old ≡ primary_offsets (offsets h l) p → list ≡ virtual_bases h c → push_all h old (map ToBase list) ≡ offsets h l false c
  plain_are c p old list known primary is bases = ap (λ xs. push_all h xs (map ToBase list)) (is ∙ ap (primary_offsets (offsets h l)) primary) ∙ ap (λ vs. push_all h (primary_offsets (offsets h l) (l.primary c)) (map ToBase vs)) bases ∙ sym (plain_is c known)

  pub plain_few : (c : ClassId) (p : Primary) (old : List Offset) (list : List ClassId) → c.0 < length h → p ≡ l.primary c → old ≡ primary_offsets (offsets h l) p → list ≡ virtual_bases h c → length (push_all h old (map ToBase list)) ≤ most_offsets
  plain_few c p old list known primary is bases = let size = ap length (plain_are c p old list known primary is bases) in let few = few_offsets h l keeps are false c known in omega arith

  -- the offsets of a class as a virtual base
  pub shared_are : (c : ClassId) (plain : List Offset) → c.0 < length h → plain ≡ offsets h l false c → push_all h plain (calls_in h l (c.0 + 1) (c ∷ []) c) ≡ offsets h l true c
  shared_are c plain known is = ap (λ xs. push_all h xs (calls h l c)) (is ∙ plain_is c known) ∙ sym (offsets_is h l keeps are true c known)

  pub shared_few : (c : ClassId) (plain : List Offset) → c.0 < length h → plain ≡ offsets h l false c → length (push_all h plain (calls_in h l (c.0 + 1) (c ∷ []) c)) ≤ most_offsets
  shared_few c plain known is = let size = ap length (shared_are c plain known is) in let few = few_offsets h l keeps are true c known in omega arith

  -- the number of the word to a virtual base is kept
  pub vbase_kept : (c v : ClassId) (xs : List Offset) (words : List ℤ) → c.0 < length h → AreWords virtual_base_number xs words → length words ≡ c.0 → xs ≡ offsets h l false c → HasVirtualBase h c v → slice_get words v.0 ≡ Some (word_number (vbase_number h l c v))
  vbase_kept c v xs words known words_are size is has =
      let low = virtual_below h keeps c v has in
      let there = vbase_there h l keeps are false c v known has in
      let any : list_any (is_base v) (offsets h l false c) ≡ true = any_item (is_base v) (offsets h l false c) (ToBase v) (record { index = vbase_number h l c v; there = there }) (eq-eqb v.0 v.0 refl) in
      slice_get-get_or words v.0 (pos 0) (omega arith)
      ∙ ap (λ a. Some a) (words_are.each v.0 (omega arith) ∙ ap (first_offset_number (λ y. has_number v.0 (virtual_base_number y))) is ∙ word_is (λ y. has_number v.0 (virtual_base_number y)) (is_base v) (offsets h l false c) (base_told h v) any)

-- the number of a vcall word is kept
pub vcall_kept : (h : Classes) (l : Places) (rows : List (List ℕ)) (count : ℕ) → IsNumbering h rows count → (c : ClassId) (f : FunctionId) (n : ℕ) (xs : List Offset) (words : List ℤ) → AreWords (name_number rows) xs words → length words ≡ count → xs ≡ offsets h l true c → number_of rows f ≡ Some n → list_any (is_offset_of_name h f) (offsets h l true c) ≡ true → slice_get words n ≡ Some (word_number (vcall_number h l c f))
vcall_kept h l rows count numbering c f n xs words words_are size is number any =
    let low = numbering.few f n number in
    slice_get-get_or words n (pos 0) (omega arith)
    ∙ ap (λ a. Some a) (words_are.each n (omega arith) ∙ ap (first_offset_number (λ y. has_number n (name_number rows y))) is ∙ word_is (λ y. has_number n (name_number rows y)) (is_offset_of_name h f) (offsets h l true c) (name_told h rows count numbering [] f n (sym number)) any)
