-- The lines of a class, from pieces and numbers.
use Rattle.std.proofs.Common.{◌≡◌, ◌∙◌, ℕ, ◌<◌, Option, Some, None, List, ◌++◌, length, refl, sym, ap, subst, arith, append_assoc, length-append}
use Rattle.std.specs.Prelude.{codes}
use Rattle.std.specs.Fmt.{decimal}
use Rattle.std.proofs.lemmas.List.{append_cancel_left}
use Rattle.cxx_hierarchy.specs.declared.records.ClassId.{ClassId}
use Rattle.cxx_hierarchy.specs.declared.records.Member.{Member}
use Rattle.cxx_hierarchy.specs.Classes.{Classes}
use Rattle.cxx_subobject.specs.declared.Subobject.{Subobject}
use Rattle.abi_print.specs.LayoutTexts.{declared_class_name, subobject_text, kind_text, type_text, length_text, field_text}
use Rattle.abi_foreign.specs.declared.said.Sizes.{Sizes}
use Rattle.abi_foreign.specs.declared.said.MemberPlace.{MemberPlace}
use Rattle.abi_foreign.specs.Lines.{sizes_line, base_line, member_line, IsSizesLine}
use Rattle.abi_foreign.specs.invariants.Pieces.{IsNotBehind, IsApart, IsNumberBefore, HasNoneBefore}
use Rattle.abi_foreign.specs.invariants.Reading.{IsRead, IsNoLine}
use Rattle.abi_foreign.specs.invariants.Said.{FitListing, after_nvsize, after_dsize, after_align, after_size, sizes_then, HasNoSizes, AreSizes, AreSizesRead, sizes_head, base_tail, declared_text, tail_by, member_tail, bits_then, IsSmallBits, HasNoBits, AreBits, HasNoMember, IsMember, IsMemberRead}

pub no_head : (text head : List ℕ) → IsNotBehind text head → HasNoSizes text head
no_head text head none sizes rest small e = none (sizes_then sizes rest) e

-- what is known of the front of a class's first line, number by number
module _ (text head r0 : List ℕ) (e0 : text ≡ head ++ r0) where
  behind_head : (sizes : Sizes) (rest : List ℕ) → text ≡ head ++ sizes_then sizes rest → r0 ≡ sizes_then sizes rest
  behind_head sizes rest e = append_cancel_left head r0 (sizes_then sizes rest) (sym e0 ∙ e)

  pub no_size : HasNoneBefore r0 (codes " align ") → HasNoSizes text head
  no_size none sizes rest small e = none sizes.size (after_size sizes rest) small.0 (behind_head sizes rest e)

  module _ (size : ℕ) (r1 : List ℕ) (b1 : IsNumberBefore r0 (codes " align ") size r1) where
    behind_size : (sizes : Sizes) (rest : List ℕ) → FitListing sizes → text ≡ head ++ sizes_then sizes rest → r1 ≡ after_size sizes rest
    behind_size sizes rest small e = sym (b1.only sizes.size (after_size sizes rest) small.0 (behind_head sizes rest e)).1

    pub no_align : HasNoneBefore r1 (codes " dsize ") → HasNoSizes text head
    no_align none sizes rest small e = none sizes.align (after_align sizes rest) small.1 (behind_size sizes rest small e)

    module _ (align : ℕ) (r2 : List ℕ) (b2 : IsNumberBefore r1 (codes " dsize ") align r2) where
      behind_align : (sizes : Sizes) (rest : List ℕ) → FitListing sizes → text ≡ head ++ sizes_then sizes rest → r2 ≡ after_align sizes rest
      behind_align sizes rest small e = sym (b2.only sizes.align (after_align sizes rest) small.1 (behind_size sizes rest small e)).1

      pub no_dsize : HasNoneBefore r2 (codes " nvsize ") → HasNoSizes text head
      no_dsize none sizes rest small e = none sizes.dsize (after_dsize sizes rest) small.2 (behind_align sizes rest small e)

      module _ (dsize : ℕ) (r3 : List ℕ) (b3 : IsNumberBefore r2 (codes " nvsize ") dsize r3) where
        behind_dsize : (sizes : Sizes) (rest : List ℕ) → FitListing sizes → text ≡ head ++ sizes_then sizes rest → r3 ≡ after_dsize sizes rest
        behind_dsize sizes rest small e = sym (b3.only sizes.dsize (after_dsize sizes rest) small.2 (behind_align sizes rest small e)).1

        pub no_nvsize : HasNoneBefore r3 (codes " nvalign ") → HasNoSizes text head
        no_nvsize none sizes rest small e = none sizes.nvsize (after_nvsize sizes rest) small.3 (behind_dsize sizes rest small e)

        module _ (nvsize : ℕ) (r4 : List ℕ) (b4 : IsNumberBefore r3 (codes " nvalign ") nvsize r4) where
          behind_nvsize : (sizes : Sizes) (rest : List ℕ) → FitListing sizes → text ≡ head ++ sizes_then sizes rest → r4 ≡ after_nvsize sizes rest
          behind_nvsize sizes rest small e = sym (b4.only sizes.nvsize (after_nvsize sizes rest) small.3 (behind_dsize sizes rest small e)).1

          pub no_nvalign : HasNoneBefore r4 (codes "\n") → HasNoSizes text head
          no_nvalign none sizes rest small e = none sizes.nvalign rest small.4 (behind_nvsize sizes rest small e)

          pub sizes_there : (nvalign : ℕ) (r5 : List ℕ) → IsNumberBefore r4 (codes "\n") nvalign r5 → AreSizes text head (record { size = size; align = align; dsize = dsize; nvsize = nvsize; nvalign = nvalign }) r5
          sizes_there nvalign r5 b5 = record {
            is = e0 ∙ ap (λ (t : List ℕ). head ++ t) (b1.is
                ∙ ap (λ (t : List ℕ). decimal size ++ (codes " align " ++ t)) (b2.is
                ∙ ap (λ (t : List ℕ). decimal align ++ (codes " dsize " ++ t)) (b3.is
                ∙ ap (λ (t : List ℕ). decimal dsize ++ (codes " nvsize " ++ t)) (b4.is
                ∙ ap (λ (t : List ℕ). decimal nvsize ++ (codes " nvalign " ++ t)) b5.is))));
            small = (b1.small, b2.small, b3.small, b4.small, b5.small);
            only = λ other after small e. (b5.only other.nvalign after small.4 (behind_nvsize other after small e)).1;
          }

-- a text with a line feed at its end is no empty one
ended_longer : (front rest : List ℕ) → length rest < length ((front ++ codes "\n") ++ rest)
ended_longer front rest =
    let whole = length-append (front ++ codes "\n") rest in
    let line = length-append front (codes "\n") in
    omega (arith, whole, line)

-- the words and numbers of a class's first line, up to its line feed
abbrev pub unended : Classes → ClassId → Sizes → List ℕ
unended h c sizes = codes "class " ++ declared_class_name h c ++ codes " size " ++ decimal sizes.size ++ codes " align " ++ decimal sizes.align ++ codes " dsize " ++ decimal sizes.dsize ++ codes " nvsize " ++ decimal sizes.nvsize ++ codes " nvalign " ++ decimal sizes.nvalign

regroup : (a b c d e f g h i j k l m n : List ℕ) → (a ++ b ++ c ++ d ++ e ++ f ++ g ++ h ++ i ++ j ++ k ++ l ++ m) ++ n ≡ (a ++ b ++ c) ++ (d ++ (e ++ (f ++ (g ++ (h ++ (i ++ (j ++ (k ++ (l ++ (m ++ n))))))))))
regroup a b c d e f g h i j k l m n = simp append_assoc

pub sizes_split : (h : Classes) (c : ClassId) (sizes : Sizes) (rest : List ℕ) → (unended h c sizes ++ codes "\n") ++ rest ≡ sizes_head h c ++ sizes_then sizes rest
sizes_split h c sizes rest =
    regroup (codes "class ") (declared_class_name h c) (codes " size ") (decimal sizes.size) (codes " align ") (decimal sizes.align) (codes " dsize ") (decimal sizes.dsize)
    (codes " nvsize ") (decimal sizes.nvsize) (codes " nvalign ") (decimal sizes.nvalign) (codes "\n") rest

abbrev line_sizes : (h : Classes) (c : ClassId) (front : List ℕ) → IsSizesLine h c front → Sizes
line_sizes h c front line = record { size = line.size; align = line.align; dsize = line.dsize; nvsize = line.nvsize; nvalign = line.nvalign }

pub sizes_read : (h : Classes) (c : ClassId) (text : List ℕ) (sizes : Sizes) (rest : List ℕ) → AreSizes text (sizes_head h c) sizes rest → AreSizesRead h c text sizes rest
sizes_read h c text sizes rest read =
    let whole : text ≡ (unended h c sizes ++ codes "\n") ++ rest = read.is ∙ sym (sizes_split h c sizes rest) in
    record {
      is = read.is;
      small = read.small;
      line = record {
        front = unended h c sizes ++ codes "\n";
        is = whole;
        form = record { size = sizes.size; align = sizes.align; dsize = sizes.dsize; nvsize = sizes.nvsize; nvalign = sizes.nvalign; small = read.small; is = refl };
        only = λ other after e line. read.only (line_sizes h c other line) after line.small (e ∙ ap (λ (t : List ℕ). t ++ after) line.is ∙ sizes_split h c (line_sizes h c other line) after);
        shorter = subst (λ (t : List ℕ). length rest < length t) (sym whole) (ended_longer (unended h c sizes) rest);
      };
    }

pub no_sizes_line : (h : Classes) (c : ClassId) (text : List ℕ) → HasNoSizes text (sizes_head h c) → IsNoLine h (sizes_line c) text
no_sizes_line h c text none front rest e line = none (line_sizes h c front line) rest line.small (e ∙ ap (λ (t : List ℕ). t ++ rest) line.is ∙ sizes_split h c (line_sizes h c front line) rest)

tail_split : (a b c d rest : List ℕ) → (a ++ b ++ c ++ d) ++ rest ≡ a ++ ((b ++ c ++ d) ++ rest)
tail_split a b c d rest = simp append_assoc

base_split : (h : Classes) (s : Subobject) (place : ℕ) (rest : List ℕ) → (decimal place ++ codes " base " ++ subobject_text h s ++ codes "\n") ++ rest ≡ decimal place ++ (base_tail h s ++ rest)
base_split h s place rest = tail_split (decimal place) (codes " base ") (subobject_text h s) (codes "\n") rest

pub base_read : (h : Classes) (s : Subobject) (text : List ℕ) (place : ℕ) (rest : List ℕ) → IsNumberBefore text (base_tail h s) place rest → IsRead h (base_line s) text rest
base_read h s text place rest read =
    let whole : text ≡ (decimal place ++ codes " base " ++ subobject_text h s ++ codes "\n") ++ rest = read.is ∙ sym (base_split h s place rest) in
    record {
      front = decimal place ++ codes " base " ++ subobject_text h s ++ codes "\n";
      is = whole;
      form = record { place = place; small = read.small; is = refl };
      only = λ other after e line. (read.only line.place after line.small (e ∙ ap (λ (t : List ℕ). t ++ after) line.is ∙ base_split h s line.place after)).1;
      shorter = subst (λ (t : List ℕ). length rest < length t) (sym whole) (ended_longer (decimal place ++ codes " base " ++ subobject_text h s) rest);
    }

pub no_base_line : (h : Classes) (s : Subobject) (text : List ℕ) → HasNoneBefore text (base_tail h s) → IsNoLine h (base_line s) text
no_base_line h s text none front rest e line = none line.place rest line.small (e ∙ ap (λ (t : List ℕ). t ++ rest) line.is ∙ base_split h s line.place rest)

-- the line of a member, by the width that it has
abbrev pub field_by : Classes → ℕ → ℕ → Option ℕ → Member ClassId → List ℕ
field_by h place first width member = decimal place ++ codes " " ++ kind_text width first ++ codes " " ++ type_text h member.ty ++ length_text member.count ++ codes " " ++ member.name ++ codes "\n"

whole_split : (p a b c t l d n e rest : List ℕ) → (p ++ a ++ b ++ c ++ t ++ l ++ d ++ n ++ e) ++ rest ≡ p ++ (a ++ (b ++ ((c ++ t ++ l ++ d ++ n ++ e) ++ rest)))
whole_split p a b c t l d n e rest = simp append_assoc

bits_split : (p a b f c w d t l g n e rest : List ℕ) → (p ++ a ++ (b ++ f ++ c ++ w) ++ d ++ t ++ l ++ g ++ n ++ e) ++ rest ≡ p ++ (a ++ (b ++ (f ++ (((c ++ w) ++ (d ++ t ++ l ++ g ++ n ++ e)) ++ rest))))
bits_split p a b f c w d t l g n e rest = simp append_assoc

-- a member's line in the pieces that are read
abbrev pub in_pieces : Option ℕ → MemberPlace → List ℕ → List ℕ
in_pieces None at rest = decimal at.place ++ rest
in_pieces (Some width) at rest = bits_then at rest

pub field_split : (h : Classes) (member : Member ClassId) (width : Option ℕ) (at : MemberPlace) (rest : List ℕ) → field_by h at.place at.first width member ++ rest ≡ in_pieces width at ((tail_by width ++ declared_text h member) ++ rest)
field_split h member None at rest =
    whole_split (decimal at.place) (codes " ") (codes "field") (codes " ") (type_text h member.ty) (length_text member.count) (codes " ") member.name (codes "\n") rest
field_split h member (Some width) at rest =
    bits_split (decimal at.place) (codes " ") (codes "bits ") (decimal at.first) (codes " ") (decimal width) (codes " ") (type_text h member.ty) (length_text member.count) (codes " ") member.name (codes "\n") rest

-- what reading a member by its width gives, in those pieces
record IsByWidth (text tail : List ℕ) (width : Option ℕ) (at : MemberPlace) (rest : List ℕ) : Type 0 where
  is : text ≡ in_pieces width at (tail ++ rest)
  small : IsSmallBits at
  first : width ≡ None → at.first ≡ 0
  only : (other : MemberPlace) (after : List ℕ) → IsSmallBits other → text ≡ in_pieces width other (tail ++ after) → after ≡ rest

by_width : (text tail : List ℕ) (width : Option ℕ) (at : MemberPlace) (rest : List ℕ) → IsMember width text tail at rest → IsByWidth text tail width at rest
by_width text tail None at rest read = record {
  is = read.0.is;
  small = (read.0.small, (let zero : at.first ≡ 0 = read.1 in omega arith));
  first = λ none. read.1;
  only = λ other after small e. (read.0.only other.place after small.0 e).1;
}
by_width text tail (Some width) at rest read = record {
  is = read.is;
  small = read.small;
  first = λ none. absurd (cc);
  only = read.only;
}

member_by : (h : Classes) (member : Member ClassId) (text : List ℕ) (width : Option ℕ) (at : MemberPlace) (rest : List ℕ) → member.width ≡ width →
    IsByWidth text (tail_by width ++ declared_text h member) width at rest → IsMemberRead h member text at rest
member_by h member text width at rest same read =
    let split : (other : MemberPlace) (after : List ℕ) → field_text h other.place other.first member ++ after ≡ in_pieces width other ((tail_by width ++ declared_text h member) ++ after) =
    λ other after. ap (λ (w : Option ℕ). field_by h other.place other.first w member ++ after) same ∙ field_split h member width other after in
    let whole : text ≡ field_text h at.place at.first member ++ rest = read.is ∙ sym (split at rest) in
    record {
      is = whole;
      small = (read.small.0, read.small.1, λ none. read.first (sym same ∙ none));
      line = record {
        front = field_text h at.place at.first member;
        is = whole;
        form = record { place = at.place; first = at.first; small = read.small; is = refl };
        only = λ other after e line. read.only (record { place = line.place; first = line.first }) after line.small (e ∙ ap (λ (t : List ℕ). t ++ after) line.is ∙ split (record { place = line.place; first = line.first }) after);
        shorter = subst (λ (t : List ℕ). length rest < length t) (sym whole)
            (ended_longer (decimal at.place ++ codes " " ++ kind_text member.width at.first ++ codes " " ++ type_text h member.ty ++ length_text member.count ++ codes " " ++ member.name) rest);
      };
    }

pub member_read : (h : Classes) (member : Member ClassId) (text : List ℕ) (at : MemberPlace) (rest : List ℕ) → IsMember member.width text (member_tail h member) at rest → IsMemberRead h member text at rest
member_read h member text at rest read = member_by h member text member.width at rest refl (by_width text (member_tail h member) member.width at rest read)

none_by : (text tail : List ℕ) (width : Option ℕ) → HasNoMember width text tail → (at : MemberPlace) (rest : List ℕ) → IsSmallBits at → text ≡ in_pieces width at (tail ++ rest) → ⊥
none_by text tail None none at rest small e = none at.place rest small.0 e
none_by text tail (Some width) none at rest small e = none at rest small e

pub no_member_line : (h : Classes) (member : Member ClassId) (text : List ℕ) → HasNoMember member.width text (member_tail h member) → IsNoLine h (member_line member) text
no_member_line h member text none front rest e line =
    none_by text (member_tail h member) member.width none (record { place = line.place; first = line.first }) rest line.small
    (e ∙ ap (λ (t : List ℕ). t ++ rest) line.is ∙ field_split h member member.width (record { place = line.place; first = line.first }) rest)

pub tail_apart_by : (width : Option ℕ) (more : List ℕ) → IsApart (tail_by width ++ more)
tail_apart_by None more = refl
tail_apart_by (Some width) more = refl

-- what stands behind a number does not begin with a digit
pub tail_apart : (h : Classes) (member : Member ClassId) → IsApart (member_tail h member)
tail_apart h member = tail_apart_by member.width (declared_text h member)

-- two numbers of a bit-field
module _ (text tail : List ℕ) where
  pub no_bits_place : HasNoneBefore text (codes " bits ") → HasNoBits text tail
  no_bits_place none at rest small e = none at.place (decimal at.first ++ (tail ++ rest)) small.0 e

  module _ (place : ℕ) (mid : List ℕ) (before : IsNumberBefore text (codes " bits ") place mid) where
    pub no_bits_first : HasNoneBefore mid tail → HasNoBits text tail
    no_bits_first none at rest small e = none at.first rest small.1 (sym (before.only at.place (decimal at.first ++ (tail ++ rest)) small.0 e).1)

    pub bits_there : (first : ℕ) (rest : List ℕ) → IsNumberBefore mid tail first rest → AreBits text tail (record { place = place; first = first }) rest
    bits_there first rest behind = record {
      is = before.is ∙ ap (λ (t : List ℕ). decimal place ++ (codes " bits " ++ t)) behind.is;
      small = (before.small, behind.small);
      only = λ other after small e. (behind.only other.first after small.1 (sym (before.only other.place (decimal other.first ++ (tail ++ after)) small.0 e).1)).1;
    }
