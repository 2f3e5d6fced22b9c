use Rattle.std.proofs.Common.{◌≡◌, ◌∙◌, ◌++◌, ◌+◌, ℕ, Option, Some, List, length, add-one, append_assoc, refl, ap, subst, sym}
use Rattle.std.specs.List.{slice_get}
use Rattle.std.proofs.lemmas.Option.{slice_get_read}
use Rattle.cxx_hierarchy.specs.declared.records.ClassId.{ClassId}
use Rattle.cxx_hierarchy.specs.declared.records.Member.{Member}
use Rattle.cxx_hierarchy.specs.Classes.{Classes, members_in, members_of}
use Rattle.abi_sound.specs.declared.class_layout.ClassLayout.{ClassLayout}
use Rattle.abi_sound.specs.declared.class_layout.Bits.{Bits}
use Rattle.abi_sound.specs.Places.{member_bits_in, first_bit, first_bit_in, place_or_zero, member_places_in as places_in, member_place}
use Rattle.abi_print.specs.LayoutTexts.{field_in, field_text, fields_text}
use Rattle.abi_print.proofs.layout_lines.append_fields.Goals as goal

-- one member more
fields_more : (h : Classes) (rows : List ClassLayout) (c : ClassId) (n : ℕ) (member : Member ClassId) → slice_get (members_of h c) n ≡ Some member → fields_text h rows c (n + 1) ≡ fields_text h rows c n ++ field_text h (member_place rows c n) (first_bit rows c n) member
fields_more h rows c n member e = rw add-one (ap (λ (o : Option (Member ClassId)). fields_text h rows c n ++ field_in h (member_place rows c n) (first_bit rows c n) o) e)

-- the text with a member's line behind the lines before it
line_more : (text old lines line whole : List ℕ) → text ≡ old ++ lines → whole ≡ lines ++ line → text ++ line ≡ old ++ whole
line_more text old lines line whole a b = ap (λ (x : List ℕ). x ++ line) a ∙ (append_assoc old lines line ∙ ap (λ (x : List ℕ). old ++ x) (sym b))

pub loop-number-preserved : goal.loop-number-preserved
loop-number-preserved g c =
    let h = c.args.w.now.h.now in
    let rows = g.L.SoundLayout.rows c.args.w.now.layout.now in
    let k = c.args.c in
    let n = c.loop-number.number in
    let member = c.index-members-number.result in
    let members : c.as_slice-members.result.now ≡ members_of h k = c.as_slice-members.ensures ∙ ap members_in (sym c.class.ensures) in
    let there : slice_get (members_of h k) n ≡ Some member = subst (λ (xs : List (Member ClassId)). slice_get xs n ≡ Some member) members (slice_get_read c.as_slice-members.result.now (length c.as_slice-members.result.now) n member refl c.loop-number-test.true c.index-members-number.is) in
    let places : c.as_slice-places.result.now ≡ places_in (slice_get rows k.0) = c.as_slice-places.ensures ∙ ap places_in (sym c.layout-row.ensures) in
    let bits : c.as_slice-bits.result.now ≡ member_bits_in (slice_get rows k.0) = c.as_slice-bits.ensures ∙ ap member_bits_in (sym c.layout-row.ensures) in
    let place : c.place_of-place.result ≡ member_place rows k n = c.place_of-place.ensures ∙ ap (λ (ps : List ℕ). place_or_zero (slice_get ps n)) places in
    let first : c.first_bit_of.result ≡ first_bit rows k n = c.first_bit_of.ensures ∙ ap (λ (bs : List Bits). first_bit_in (slice_get bs n)) bits in
    c.in_ok-append_field.ensures
    ∙ (ap (λ p. c.loop-number.text.items ++ field_text h p c.first_bit_of.result member) place
    ∙ (ap (λ b. c.loop-number.text.items ++ field_text h (member_place rows k n) b member) first
    ∙ line_more c.loop-number.text.items c.args.text.now.items (fields_text h rows k n) (field_text h (member_place rows k n) (first_bit rows k n) member) (fields_text h rows k (n + 1)) c.loop-number.invariant (fields_more h rows k n member there)))
