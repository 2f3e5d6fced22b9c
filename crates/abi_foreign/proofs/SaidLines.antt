-- What is said of classes stands in the lines of a listing.
use Rattle.std.proofs.Common.{◌≡◌, ℕ, zero, suc, ◌≤◌, Option, List, [], ◌∷◌, ◌++◌, length, map, refl, sym, subst, arith, append_assoc}
use Rattle.std.specs.Prelude.{codes, slice_get}
use Rattle.std.specs.Fmt.{decimal}
use Rattle.foundation.proofs.Places.{get_within}
use Rattle.cxx_hierarchy.specs.declared.records.ClassId.{ClassId}
use Rattle.cxx_hierarchy.specs.declared.records.Member.{Member}
use Rattle.cxx_hierarchy.specs.Classes.{Classes, members_of, class_by_number}
use Rattle.cxx_subobject.specs.declared.Subobject.{Subobject}
use Rattle.cxx_subobject.specs.Preorder.{preorder}
use Rattle.abi_print.specs.LayoutTexts.{subobject_text, field_text, proper}
use Rattle.abi_foreign.specs.declared.said.MemberPlace.{MemberPlace}
use Rattle.abi_foreign.specs.declared.said.ClassSaid.{ClassSaid}
use Rattle.abi_foreign.specs.Lines.{base_line, member_line, class_lines, lines_before, listing_lines, first_line, AreLines}
use Rattle.abi_foreign.specs.invariants.Said.{base_tail, base_lines, members_text, primary_line_text, AreSmallNumbers, AreSmallPlaces, said_text, said_in, said_before, IsSaid, AreSaid}
use Rattle.abi_foreign.proofs.ReadLines.{lines_join}
use Rattle.abi_foreign.proofs.LineReads.{unended, sizes_split}

base_grouped : (a b c d : List ℕ) → a ++ (b ++ c ++ d) ≡ a ++ b ++ c ++ d
base_grouped a b c d = simp append_assoc

bases_lines : (h : Classes) (list : List Subobject) (places : List ℕ) → length places ≡ length list → AreSmallNumbers places → AreLines h (map base_line list) (base_lines h list places)
bases_lines h [] [] each small = refl
bases_lines h [] (n ∷ places) each small = absurd (omega arith)
bases_lines h (s ∷ list) [] each small = absurd (omega arith)
bases_lines h (s ∷ list) (n ∷ places) each small = record {
  front = decimal n ++ base_tail h s;
  rest = base_lines h list places;
  is = refl;
  first = record { place = n; small = small.0; is = base_grouped (decimal n) (codes " base ") (subobject_text h s) (codes "\n") };
  second = bases_lines h list places (omega arith) small.1;
}

members_lines : (h : Classes) (members : List (Member ClassId)) (places : List MemberPlace) → AreSmallPlaces members places → AreLines h (map member_line members) (members_text h members places)
members_lines h [] [] small = refl
members_lines h [] (at ∷ places) small = absurd small
members_lines h (m ∷ members) [] small = absurd small
members_lines h (m ∷ members) (at ∷ places) small = record {
  front = field_text h at.place at.first m;
  rest = members_text h members places;
  is = refl;
  first = record { place = at.place; first = at.first; small = (small.0.0, small.0.1); is = refl };
  second = members_lines h members places small.1;
}

class_said : (h : Classes) (c : ClassId) (n : ℕ) (said : ClassSaid) → IsSaid h c n said → AreLines h (class_lines h c) (said_text h c said)
class_said h c n said is = record {
  front = unended h c said.sizes ++ codes "\n";
  rest = primary_line_text h said.primary ++ (base_lines h (proper said.list) said.places ++ members_text h (members_of h c) said.members);
  is = sym (sizes_split h c said.sizes (primary_line_text h said.primary ++ (base_lines h (proper said.list) said.places ++ members_text h (members_of h c) said.members)));
  first = record { size = said.sizes.size; align = said.sizes.align; dsize = said.sizes.dsize; nvsize = said.sizes.nvsize; nvalign = said.sizes.nvalign; small = is.sizes; is = refl };
  second = record {
    front = primary_line_text h said.primary;
    rest = base_lines h (proper said.list) said.places ++ members_text h (members_of h c) said.members;
    is = refl;
    first = record { primary = said.primary; writable = is.primary; is = refl };
    second = lines_join h (map base_line (proper (preorder h c))) (map member_line (members_of h c)) (base_lines h (proper said.list) said.places) (members_text h (members_of h c) said.members)
        (subst (λ (list : List Subobject). AreLines h (map base_line (proper list)) (base_lines h (proper said.list) said.places)) is.in_preorder (bases_lines h (proper said.list) said.places is.each is.small))
        (members_lines h (members_of h c) said.members is.members);
  };
}

before_lines : (h : Classes) (text : List ℕ) (saids : List ClassSaid) → AreSaid h text saids → (n : ℕ) → n ≤ length h → AreLines h (lines_before h n) (said_before h saids n)
before_lines h text saids all zero within = refl
before_lines h text saids all (suc n) within =
    let said = get_within saids n (let count = all.count in omega arith) in
    lines_join h (lines_before h n) (class_lines h (class_by_number n)) (said_before h saids n) (said_in h (class_by_number n) (slice_get saids n)) (before_lines h text saids all n (omega arith))
    (subst (λ (one : Option ClassSaid). AreLines h (class_lines h (class_by_number n)) (said_in h (class_by_number n) one)) (sym said.1) (class_said h (class_by_number n) (first_line h (class_by_number n)) said.0 (all.each (class_by_number n) said.0 said.1)))

pub said_lines : (h : Classes) (text : List ℕ) (saids : List ClassSaid) → AreSaid h text saids → AreLines h (listing_lines h) text
said_lines h text saids all = subst (AreLines h (listing_lines h)) (sym all.is) (before_lines h text saids all (length h) (omega arith))
