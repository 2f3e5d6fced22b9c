-- The words of a table, and the tables of heads.
use Rattle.std.proofs.Common.{◌≡◌, ℕ, ◌+◌, ◌<◌, ⊎_elim, Bool, true, Some, List, [], ◌∷◌, ◌++◌, map, length, get_or, reverse, ap, subst, sym, ◌∙◌, arith}
use Rattle.std.specs.Prelude.{slice_get, ℤ, pos, ◌-ℤ◌}
use Rattle.std.proofs.lemmas.Option.{slice_get_within}
use Rattle.std.proofs.lemmas.List.{length-map}
use Rattle.foundation.proofs.Places.{get_pushed, get_mapped, get_read}
use Rattle.cxx_hierarchy.specs.Classes.{Classes}
use Rattle.cxx_hierarchy.specs.Hierarchies.{IsHierarchy}
use Rattle.cxx_subobject.specs.declared.Subobject.{Subobject}
use Rattle.cxx_subobject.specs.Subobjects.{IsSubobject, whole_of, class_of}
use Rattle.cxx_subobject.specs.Preorder.{preorder}
use Rattle.cxx_subobject.proofs.InsideLemmas.{join_class, join_valid}
use Rattle.abi_sound.specs.declared.class_layout.ClassLayout.{ClassLayout}
use Rattle.abi_sound.specs.Places.{Places, places_of}
use Rattle.abi_sound.specs.Sound.{IsSoundLayout}
use Rattle.abi_slots.specs.declared.words.EntryKey.{EntryKey}
use Rattle.abi_slots.specs.declared.words.EntryWord.{EntryWord}
use Rattle.abi_slots.specs.declared.words.TableWord.{TableWord}
use Rattle.abi_slots.specs.declared.words.TableWord.TheVariants.{Top, Info, Entry}
use Rattle.abi_slots.specs.declared.words.Offset.{Offset}
use Rattle.abi_slots.specs.Listing.{entries, offsets}
use Rattle.abi_slots.specs.Slots.{IsVirtualBase}
use Rattle.abi_slots.specs.Views.{seen, place}
use Rattle.abi_slots.specs.Groups.{GoAlong, between, is_shared_base, IsOffsetWord, IsEntryWord, IsTable}
use Rattle.abi_slots.proofs.Chains.{Setting, same_some}
use Rattle.abi_slots.proofs.Settings.{setting_of}
use Rattle.abi_vtable.specs.declared.view.ViewPart.{ViewPart}
use Rattle.abi_vtable.specs.declared.view.ViewParts.{ViewParts}
use Rattle.abi_vtable.specs.invariants.Parts.{IsViewPart, at_of, IsViewParts, view_of_parts, subobjects_numbered}
use Rattle.abi_vtable.specs.invariants.Words.{NamesVirtual, AreAlong, GoAlongTo}
use Rattle.abi_vtable.proofs.Parts.{class_known}
use Rattle.abi_vtable.proofs.Declaring.{entry_low, all_along}
use Rattle.abi_vtable.proofs.Offsets.{shared_is_base, offset_named}
use Rattle.cxx_hierarchy.proofs.Listed.{get_map}

-- two lists go along so far, and one item more

pub go_more : {A : Type 0} {B : Type 0} (R : A → B → Type 0) (xs : List A) (i : ℕ) (ys new : List B) (x : A) (y : B) → slice_get xs i ≡ Some x → R x y → new ≡ ys ++ y ∷ [] → GoAlongTo R xs i ys → GoAlongTo R xs (i + 1) new
go_more R xs i ys new x y at related e so = record {
  size = (let s = so.size in let f : length new ≡ length (ys ++ y ∷ []) = ap length e in let p = Rattle.foundation.proofs.Places.length_pushed ys y in omega arith);
  each = λ j a b there other. ⊎_elim
      (λ old. so.each j a b there old)
      (λ last.
      let same : a ≡ x = same_some a x (sym there ∙ ap (slice_get xs) (last.0 ∙ so.size) ∙ at) in
      subst (λ z. R z b) (sym same) (subst (λ z. R x z) (sym last.1) related))
      (get_pushed ys y j b (ap (λ zs. slice_get zs j) (sym e) ∙ other));
}

pub go_all : {A : Type 0} {B : Type 0} (R : A → B → Type 0) (xs : List A) (i : ℕ) (ys : List B) → length xs ≡ i → GoAlongTo R xs i ys → GoAlong R xs ys
go_all R xs i ys e so = record { size = so.size ∙ sym e; each = so.each }

-- the head of a number
pub record IsHeadAt (list : List Subobject) (all : List Subobject) (i n : ℕ) : Type 0 where
  pub head : Subobject
  pub there : slice_get all i ≡ Some head
  pub at_number : slice_get list n ≡ Some head

pub head_at : (list all : List Subobject) (numbers : List ℕ) (i n : ℕ) → subobjects_numbered list numbers ≡ map Some all → slice_get numbers i ≡ Some n → IsHeadAt list all i n
head_at list all numbers i n same e =
    let r = get_mapped Some all i (slice_get list n) (ap (λ xs. slice_get xs i) (sym same) ∙ get_map (slice_get list) numbers i n e) in
    record { head = r.0; there = r.1; at_number = sym r.2 }

pub heads_size : (list all : List Subobject) (numbers : List ℕ) → subobjects_numbered list numbers ≡ map Some all → length all ≡ length numbers
heads_size list all numbers same = sym (length-map all Some) ∙ ap length (sym same) ∙ length-map numbers (slice_get list)

pub number_below : (h : Classes) (l : Places) (v : ViewParts) → IsViewParts h l v → (n : ℕ) (s : Subobject) → slice_get (preorder h v.class) n ≡ Some s → n < length v.parts
number_below h l v view n s e =
    let size : length (preorder h v.class) ≡ length v.parts = ap length (sym view.parts.subobjects) ∙ length-map v.parts at_of in
    let lt = slice_get_within (preorder h v.class) n s e in
    subst (λ a. n < a) size lt

-- the part stands at a number of a view, whose classes are a hierarchy and soundly laid out
pub record IsAtNumber (h : Classes) (rows : List ClassLayout) (v : ViewParts) (n : ℕ) (part : ViewPart) : Type 0 where
  pub keeps : IsHierarchy h
  pub sound : IsSoundLayout h rows
  pub view : IsViewParts h (places_of h rows) v
  pub there : slice_get v.parts n ≡ Some part

-- so does the part that is read at a number
pub read_part : (h : Classes) (rows : List ClassLayout) → IsHierarchy h → IsSoundLayout h rows → (v : ViewParts) → IsViewParts h (places_of h rows) v → (items : List ViewPart) (n : ℕ) (part : ViewPart) → items ≡ v.parts → n < length v.parts → part ≡ get_or items n part → IsAtNumber h rows v n part
read_part h rows keeps sound v view items n part same within read = record {
  keeps = keeps;
  sound = sound;
  view = view;
  there = ap (λ xs. slice_get xs n) (sym same) ∙ get_read items n part (subst (λ (xs : List ViewPart). n < length xs) (sym same) within) read;
}

-- the table of a part

module _ {h : Classes} {rows : List ClassLayout} {v : ViewParts} {n : ℕ} {part : ViewPart} (at : IsAtNumber h rows v n part) where
  pub part_of : IsViewPart h (places_of h rows) (view_of_parts v) (preorder h v.class) part
  part_of = at.view.parts.each n part at.there

  setting : Setting h (places_of h rows) (view_of_parts v)
  setting = setting_of h rows at.keeps at.sound (view_of_parts v) at.view.view

  pub part_known : part.class.0 < length h
  part_known = class_known h at.keeps (view_of_parts v) at.view.view part.at part.class part_of.valid part_of.class

  pub part_number : slice_get (preorder h v.class) n ≡ Some part.at
  part_number = ap (λ xs. slice_get xs n) (sym at.view.parts.subobjects) ∙ get_map at_of v.parts n part at.there

  seen_class : class_of (seen (view_of_parts v) part.at) ≡ Some part.class
  seen_class = join_class h v.class v.at part.at at.view.view.of_class part_of.valid ∙ part_of.class

  seen_valid : IsSubobject h v.complete (seen (view_of_parts v) part.at)
  seen_valid = join_valid h v.complete v.class v.at part.at at.view.view.valid at.view.view.of_class part_of.valid

  shared_part : (b : Bool) → b ≡ is_shared_base (seen (view_of_parts v) part.at) → b ≡ true → IsVirtualBase h part.class
  shared_part b is e = record { of = v.complete; has = shared_is_base h v.complete part.class (seen (view_of_parts v) part.at) seen_valid (sym is ∙ e) seen_class }

  listed_offsets : (b : Bool) (list : List Offset) → b ≡ is_shared_base (seen (view_of_parts v) part.at) → list ≡ offsets h (places_of h rows) b part.class → list ≡ offsets h (places_of h rows) (is_shared_base (seen (view_of_parts v) part.at)) part.class
  listed_offsets b list is e = e ∙ ap (λ a. offsets h (places_of h rows) a part.class) is

  pub told_offsets : (b : Bool) (list : List Offset) → b ≡ is_shared_base (seen (view_of_parts v) part.at) → (part.class.0 < length h → (b ≡ true → IsVirtualBase h part.class) → list ≡ offsets h (places_of h rows) b part.class) → list ≡ offsets h (places_of h rows) (is_shared_base (seen (view_of_parts v) part.at)) part.class
  told_offsets b list is told = listed_offsets b list is (told part_known (shared_part b is))

  pub part_named : (list : List Offset) → list ≡ offsets h (places_of h rows) (is_shared_base (seen (view_of_parts v) part.at)) part.class → (i : ℕ) (y : Offset) → slice_get list i ≡ Some y → NamesVirtual h v.class y
  part_named list is i y e = offset_named h (places_of h rows) (view_of_parts v) setting part.at part.class part_of.valid part_of.class i y (ap (λ xs. slice_get xs i) (sym is) ∙ e)

  pub part_keys : (list : List EntryKey) → list ≡ entries h (places_of h rows) part.class → (i : ℕ) (k : EntryKey) → slice_get list i ≡ Some k → k.function.class.0 < length h
  part_keys list is i k e =
      let low = entry_low h (places_of h rows) (view_of_parts v) setting part.class part_known k (record { index = i; there = ap (λ xs. slice_get xs i) (sym is) ∙ e }) in
      let known = part_known in
      omega arith

  pub part_along : (list : List EntryKey) → list ≡ entries h (places_of h rows) part.class → (i : ℕ) (k : EntryKey) → slice_get list i ≡ Some k → AreAlong h (places_of h rows) (view_of_parts v) k i (slice_get (preorder h v.class) n)
  part_along list is i k e = subst (λ o. AreAlong h (places_of h rows) (view_of_parts v) k i o) (sym part_number)
      (all_along h (places_of h rows) (view_of_parts v) setting part.at part.class i k part_of.valid part_of.class (ap (λ xs. slice_get xs i) (sym is) ∙ e))

  pub part_table : (t : Subobject) → slice_get (preorder h v.class) n ≡ Some t → (at_place : ℕ) (listed : List Offset) (keys : List EntryKey) (offset_words : List TableWord) (entry_words : List EntryWord) (top : ℤ) (before : ℕ) (words : List TableWord) →
      at_place ≡ place (places_of h rows) (view_of_parts v) part.at → listed ≡ offsets h (places_of h rows) (is_shared_base (seen (view_of_parts v) part.at)) part.class → keys ≡ entries h (places_of h rows) part.class →
      GoAlong (IsOffsetWord h (places_of h rows) (view_of_parts v) part.at) listed offset_words → GoAlong (IsEntryWord h (places_of h rows) (view_of_parts v) part.at) keys entry_words →
      top ≡ pos v.start -ℤ pos at_place → words ≡ reverse offset_words ++ Top top ∷ Info v.class ∷ map Entry entry_words → before ≡ length offset_words + 2 →
      IsTable h (places_of h rows) (view_of_parts v) t (record { class = part.class; place = at_place; before = before; words = words })
  part_table t here at_place listed keys offset_words entry_words top before words is_place is_listed is_keys are_offsets are_entries is_top is_words is_before =
      let same : t ≡ part.at = same_some t part.at (sym here ∙ part_number) in
      let value : top ≡ between (places_of h rows) v.complete (seen (view_of_parts v) part.at) (seen (view_of_parts v) (whole_of v.class)) = is_top ∙ ap (λ m. pos m -ℤ pos at_place) at.view.start ∙ ap (λ m. pos (place (places_of h rows) (view_of_parts v) (whole_of v.class)) -ℤ pos m) is_place in
      let all : IsTable h (places_of h rows) (view_of_parts v) part.at (record { class = part.class; place = at_place; before = before; words = words }) = record {
        class = part_of.class;
        place = is_place;
        offset_words = offset_words;
        are_offsets = subst (λ xs. GoAlong (IsOffsetWord h (places_of h rows) (view_of_parts v) part.at) xs offset_words) is_listed are_offsets;
        entry_words = entry_words;
        are_entries = subst (λ xs. GoAlong (IsEntryWord h (places_of h rows) (view_of_parts v) part.at) xs entry_words) is_keys are_entries;
        words = is_words ∙ ap (λ d. reverse offset_words ++ Top d ∷ Info v.class ∷ map Entry entry_words) value;
        before = is_before;
      } in
      subst (λ a. IsTable h (places_of h rows) (view_of_parts v) a (record { class = part.class; place = at_place; before = before; words = words })) (sym same) all
