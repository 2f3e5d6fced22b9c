-- The bases that the record of a class lists, and how each is read.
use Rattle.std.proofs.Common.{◌≡◌, ℕ, ◌+◌, ◌*◌, ◌/◌, ◌%◌, ◌<◌, ◌≤◌, ◌^◌, Bool, true, false, Some, List, [], ◌∷◌, map, length, refl, ap, subst, sym, ◌∙◌, arith, pos, ℤ, ◌+ℤ◌, Option, None}
use Rattle.std.specs.Prelude.{position, nat_eq, not, ◌&&◌, if◌then◌else◌, slice_get, negsuc, ◌*ℤ◌}
use Rattle.std.proofs.lemmas.Int.{ints}
use Rattle.std.proofs.lemmas.Bool.{and_parts, not-true, eqb-true}
use Rattle.std.proofs.lemmas.List.{length-map}
use Rattle.std.specs.Option.{option_map}
use Rattle.std.proofs.lemmas.Option.{slice_get-map}
use Rattle.std.proofs.lemmas.List.Quantifiers.{position-Some}
use Rattle.foundation.proofs.Truth.{split}
use Rattle.byte_code.specs.Numbers.{word_of, IsInBytes}
use Rattle.byte_code.specs.declared.image.BaseRecord.{BaseRecord}
use Rattle.cxx_hierarchy.specs.declared.records.ClassId.{ClassId}
use Rattle.cxx_hierarchy.specs.declared.records.Base.{Base}
use Rattle.cxx_hierarchy.specs.Classes.{Classes, bases_of}
use Rattle.cxx_hierarchy.specs.Hierarchies.{IsHierarchy}
use Rattle.abi_sound.specs.Places.{Places}
use Rattle.abi_slots.specs.declared.words.Offset.TheVariants.{ToBase}
use Rattle.abi_slots.specs.declared.words.InfoBase.{InfoBase}
use Rattle.abi_slots.specs.declared.words.TypeInfo.TheVariants.{Single}
use Rattle.abi_slots.specs.Images.{Image, info_bases, HasBaseWords, HasBases}
use Rattle.abi_slots.specs.Limits.{most_offsets}
use Rattle.abi_slots.specs.Listing.{offsets, vbase_number, is_base}
use Rattle.abi_slots.specs.Slots.{word_number}
use Rattle.abi_slots.proofs.Listings.{ArePrimaries}
use Rattle.abi_slots.proofs.EntryPlaces.{place_found, place_missing}
use Rattle.abi_slots.proofs.OffsetBounds.{few_offsets}
use Rattle.abi_slots.proofs.WordSteps.{negative}
use Rattle.abi_rtti.specs.TypeInfos.{bit, offset_flags, info_base, all_bases, is_simple, place_of_base, info_by, type_info}
use Rattle.abi_dyncast.specs.Graph.{has_virtual_flag, is_public, offset_word}
use Rattle.agree_dispatch.proofs.CastNumbers.{IsFlagged, flagged_up, flagged_down}

-- the one base that is simple is described as it would be among others
simple_is : (h : Classes) (l : Places) (c : ClassId) (base : Base ClassId) → is_simple l c base ≡ true → offset_flags h l c base ≡ pos 2
simple_is h l c base e =
    let a = and_parts base.is_public (not base.is_virtual && nat_eq (place_of_base l c base) 0) e in
    let b = and_parts (not base.is_virtual) (nat_eq (place_of_base l c base) 0) a.1 in
    let plain = not-true base.is_virtual b.0 in
    let start = eqb-true (place_of_base l c base) 0 b.1 in
    let flags : ℕ → Bool → Bool → ℤ = λ n v p. pos (bit v 1 + bit p 2) +ℤ pos 256 *ℤ (if v then pos 8 *ℤ word_number (vbase_number h l c base.class) else pos n) in
    ap (λ n. flags n base.is_virtual base.is_public) start ∙ (ap (λ v. flags 0 v base.is_public) plain ∙ ap (λ p. flags 0 false p) a.0)

-- the record of a class lists its bases, in their order
pub lists_bases : (h : Classes) (l : Places) (c : ClassId) → info_bases (type_info h l c) ≡ map (info_base h l c) (bases_of h c)
lists_bases h l c = by_bases (bases_of h c) refl
  where
    by_bases : (bases : List (Base ClassId)) → bases_of h c ≡ bases → info_bases (info_by h l c bases) ≡ map (info_base h l c) bases
    by_bases [] e = refl
    by_bases (base ∷ []) e = split (is_simple l c base) (λ b. info_bases (if b then Single base.class else all_bases h l c) ≡ map (info_base h l c) (base ∷ []))
        (λ t. let make : ℤ → InfoBase = λ z. record { class = base.class; offset_flags = z } in ap (λ z. make z ∷ []) (sym (simple_is h l c base t)))
        (λ f. ap (map (info_base h l c)) e)
    by_bases (base ∷ other ∷ rest) e = ap (map (info_base h l c)) e

-- a base of the record, by its place
pub base_stands : (image : Image) (info : ClassId → ℕ) (bases : List InfoBase) (first i : ℕ) (b : InfoBase) → HasBases image info bases first → slice_get bases i ≡ Some b → HasBaseWords image info b (first + 16 * i)
base_stands image info [] first i b has e = absurd (cc)
base_stands image info (x ∷ xs) first i b has e = has.1 i b e

pub listed_at : (h : Classes) (l : Places) (c : ClassId) (i : ℕ) (base : Base ClassId) → slice_get (bases_of h c) i ≡ Some base → slice_get (info_bases (type_info h l c)) i ≡ Some (info_base h l c base)
listed_at h l c i base e = ap (λ xs. slice_get xs i) (lists_bases h l c) ∙ (slice_get-map (info_base h l c) (bases_of h c) i ∙ ap (option_map (info_base h l c)) e)

pub listed_count : (h : Classes) (l : Places) (c : ClassId) → length (info_bases (type_info h l c)) ≡ length (bases_of h c)
listed_count h l c = ap length (lists_bases h l c) ∙ length-map (bases_of h c) (info_base h l c)

-- the number of a virtual base is small
few_numbers : (h : Classes) (l : Places) → IsHierarchy h → ArePrimaries h l → (c v : ClassId) → c.0 < length h → vbase_number h l c v ≤ most_offsets
few_numbers h l keeps are c v known = by_place (position (is_base v) (offsets h l false c)) refl
  where
    few : length (offsets h l false c) ≤ most_offsets
    few = few_offsets h l keeps are false c known

    by_place : (o : Option ℕ) → position (is_base v) (offsets h l false c) ≡ o → vbase_number h l c v ≤ most_offsets
    by_place None e = let end = place_missing (is_base v) (offsets h l false c) e in omega (arith, few)
    by_place (Some n) e = let at = place_found (is_base v) (offsets h l false c) n e in let low = (position-Some (is_base v) (offsets h l false c) n (ToBase v) e).0 in omega (arith, few)

-- how the record of a base is read
pub record IsBaseRead (base : BaseRecord) (virtual public : Bool) (offset : ℤ) : Type 0 where
  pub virtual_is : has_virtual_flag base ≡ virtual
  pub public_is : is_public base ≡ public
  pub offset_is : offset_word base ≡ word_of offset
  pub fits : IsInBytes 8 true base.offset_flags

flags_read : (info : ℕ) (z : ℤ) (v p : Bool) (offset : ℤ) → IsFlagged z (bit v 1 + bit p 2) offset → IsBaseRead (record { info = info; offset_flags = z }) v p offset
flags_read info z v p offset f = record {
  virtual_is = ap (λ n. nat_eq n 1) f.first ∙ first_bit v p;
  public_is = ap (λ n. nat_eq n 1) f.second ∙ second_bit v p;
  offset_is = ap word_of f.behind;
  fits = f.fits;
}
  where
    first_bit : (v p : Bool) → nat_eq ((bit v 1 + bit p 2) % 2) 1 ≡ v
    first_bit true true = refl
    first_bit true false = refl
    first_bit false true = refl
    first_bit false false = refl

    second_bit : (v p : Bool) → nat_eq ((bit v 1 + bit p 2) / 2 % 2) 1 ≡ p
    second_bit true true = refl
    second_bit true false = refl
    second_bit false true = refl
    second_bit false false = refl

few_flags : (v p : Bool) → bit v 1 + bit p 2 < 4
few_flags true true = omega arith
few_flags true false = omega arith
few_flags false true = omega arith
few_flags false false = omega arith

abbrev pub number : Classes → Places → ClassId → Base ClassId → ℕ
number h l c base = vbase_number h l c base.class

-- the record of a virtual base
pub virtual_read : (h : Classes) (l : Places) → IsHierarchy h → ArePrimaries h l → (c : ClassId) → c.0 < length h → (info : ℕ) (base : Base ClassId) → base.is_virtual ≡ true → IsBaseRead (record { info = info; offset_flags = offset_flags h l c base }) true base.is_public (negsuc (8 * number h l c base + 23))
virtual_read h l keeps are c known info base v =
    let n = number h l c base in
    let few = few_numbers h l keeps are c base.class known in
    let offset : pos 8 *ℤ word_number n ≡ negsuc (8 * n + 23) = ap (λ z. pos 8 *ℤ z) (negative n) ∙ omega (arith, ints) in
    let is : offset_flags h l c base ≡ pos (bit true 1 + bit base.is_public 2) +ℤ pos 256 *ℤ negsuc (8 * n + 23) =
    ap (λ b. pos (bit b 1 + bit base.is_public 2) +ℤ pos 256 *ℤ (if b then pos 8 *ℤ word_number n else pos (place_of_base l c base))) v ∙ ap (λ z. pos (bit true 1 + bit base.is_public 2) +ℤ pos 256 *ℤ z) offset in
    subst (λ z. IsBaseRead (record { info = info; offset_flags = z }) true base.is_public (negsuc (8 * n + 23))) (sym is)
    (flags_read info (pos (bit true 1 + bit base.is_public 2) +ℤ pos 256 *ℤ negsuc (8 * n + 23)) true base.is_public (negsuc (8 * n + 23)) (flagged_down (bit true 1 + bit base.is_public 2) (8 * n + 23) (few_flags true base.is_public) (omega arith)))

-- the record of a base that is not virtual
pub plain_read : (h : Classes) (l : Places) (c : ClassId) (info : ℕ) (base : Base ClassId) → base.is_virtual ≡ false → place_of_base l c base < 2 ^ 32 → IsBaseRead (record { info = info; offset_flags = offset_flags h l c base }) false base.is_public (pos (place_of_base l c base))
plain_read h l c info base v low =
    let n = place_of_base l c base in
    let is : offset_flags h l c base ≡ pos (bit false 1 + bit base.is_public 2) +ℤ pos 256 *ℤ pos n =
    ap (λ b. pos (bit b 1 + bit base.is_public 2) +ℤ pos 256 *ℤ (if b then pos 8 *ℤ word_number (vbase_number h l c base.class) else pos n)) v in
    subst (λ z. IsBaseRead (record { info = info; offset_flags = z }) false base.is_public (pos n)) (sym is)
    (flags_read info (pos (bit false 1 + bit base.is_public 2) +ℤ pos 256 *ℤ pos n) false base.is_public (pos n) (flagged_up (bit false 1 + bit base.is_public 2) n (few_flags false base.is_public) low))
