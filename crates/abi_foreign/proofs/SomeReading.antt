-- A text has the lines of a listing, or a first line that is not of its form.
use Rattle.std.proofs.Common.{◌≡◌, ◌∙◌, ℕ, zero, suc, ◌+◌, ◌<◌, ◌≤◌, ◌⊎◌, ⊎_elim, inl, inr, Bool, true, false, ◌&&◌, Option, Some, None, List, [], ◌∷◌, ◌++◌, length, map, get_or, refl, sym, ap, subst, arith, append_assoc, append-nil}
use Rattle.std.specs.Prelude.{codes, slice_get, Contains}
use Rattle.std.specs.Char.{is_ascii_digit}
use Rattle.std.specs.List.{list_all}
use Rattle.std.proofs.lemmas.Bool.{cases_lt}
use Rattle.foundation.proofs.Deciding.{decide_number, decide_list}
use Rattle.foundation.proofs.Members.{has_from_contains, contains_from_has}
use Rattle.cxx_hierarchy.specs.declared.records.ClassId.{ClassId}
use Rattle.cxx_hierarchy.specs.declared.records.Member.{Member}
use Rattle.cxx_hierarchy.specs.Classes.{Classes, class_names, members_of, IsClassNamed, class_by_number}
use Rattle.cxx_hierarchy.specs.Hierarchies.{IsHierarchy}
use Rattle.cxx_subobject.specs.declared.Subobject.{Subobject}
use Rattle.cxx_subobject.specs.Preorder.{preorder}
use Rattle.cxx_subobject.proofs.TreeLemmas.{preorder_lists}
use Rattle.abi_primary.specs.declared.Primary.{Primary}
use Rattle.abi_primary.specs.declared.Primary.TheVariants.{None as NoPrimary, Virtual, Direct}
use Rattle.abi_print.specs.LayoutTexts.{proper}
use Rattle.abi_foreign.specs.declared.listing_stop.ListingStop.TheVariants as stops
use Rattle.abi_foreign.specs.declared.listing_stop.ListingRule.TheVariants.{Form}
use Rattle.abi_foreign.specs.declared.said.Sizes.{Sizes}
use Rattle.abi_foreign.specs.declared.said.MemberPlace.{MemberPlace}
use Rattle.abi_foreign.specs.declared.said.ClassSaid.{ClassSaid}
use Rattle.abi_foreign.specs.Lines.{ListingLine, most_number, sizes_line, primary_line, base_line, member_line, class_lines}
use Rattle.abi_foreign.specs.Refusals.{IsRefused}
use Rattle.abi_foreign.specs.invariants.Pieces.{IsNotBehind, IsNoDigit, IsApart, read_on, BeginsWithNumber, HasNoNumber, IsNumberBefore, HasNoneBefore}
use Rattle.abi_foreign.specs.invariants.Reading.{IsNoLine, StopsReading}
use Rattle.abi_foreign.specs.invariants.Said.{HasNoSizes, AreSizes, sizes_head, IsWord, IsPrimaryWord, IsPrimaryRead, base_tail, AreBasesRead, member_tail, HasNoMember, IsMember, AreMembersRead, IsSaid, IsClassRead, AreSaidTo, AreSaid}
use Rattle.abi_foreign.proofs.Digits.{no_digits, leading_zero, too_large, number_read, none_before, not_before, before_read}
use Rattle.abi_foreign.proofs.ReadLines.{stops_here}
use Rattle.abi_foreign.proofs.LineReads.{no_head, no_size, no_align, no_dsize, no_nvsize, no_nvalign, sizes_there, sizes_read, no_sizes_line, no_base_line, member_read, no_member_line, tail_apart, no_bits_place, no_bits_first, bits_there}
use Rattle.abi_foreign.proofs.PrimaryReads.{primary_read, no_first_word, no_line_end, no_word, says_none, says_virtual, says_no_virtual, says_direct, says_no_direct}
use Rattle.abi_foreign.proofs.ClassReads.{no_bases, base_more, no_members, member_more, next_stops, sizes_stop, primary_stop, bases_stop, members_stop, class_read}
use Rattle.abi_foreign.proofs.ListingReads.{none_said, one_class_more, class_stops, too_many_lines, all_said}

-- the digits that a text begins with
record AreDigits (text : List ℕ) : Type 0 where
  digits : List ℕ
  rest : List ℕ
  is : text ≡ digits ++ rest
  all : list_all is_ascii_digit digits ≡ true
  ends : IsNoDigit rest

both_on : (a b : Bool) → a ≡ true → b ≡ true → (a && b) ≡ true
both_on true b e f = f
both_on false b e f = cc

digits_of : (text : List ℕ) → AreDigits text
digits_of [] = record { digits = []; rest = []; is = refl; all = refl; ends = tt }
digits_of (c ∷ text) = by_test (is_ascii_digit c) refl (digits_of text)
  where
    by_test : (b : Bool) → is_ascii_digit c ≡ b → AreDigits text → AreDigits (c ∷ text)
    by_test true on more = record { digits = c ∷ more.digits; rest = more.rest; is = ap (λ (t : List ℕ). c ∷ t) more.is; all = both_on (is_ascii_digit c) (list_all is_ascii_digit more.digits) on more.all; ends = more.ends }
    by_test false off more = record { digits = []; rest = c ∷ text; is = refl; all = refl; ends = off }

-- the number that a text begins with
record StartsNumber (text : List ℕ) : Type 0 where
  n : ℕ
  rest : List ℕ
  is : BeginsWithNumber text n rest

by_value : (text digits rest : List ℕ) → text ≡ digits ++ rest → list_all is_ascii_digit digits ≡ true → IsNoDigit rest → 0 < length digits → (get_or digits 0 0 ≡ 48 → length digits ≡ 1) → StartsNumber text ⊎ HasNoNumber text
by_value text digits rest e all ends some plain = ⊎_elim
    (λ large. inr (too_large text digits rest e all ends large))
    (λ small. inl (record { n = read_on 0 digits; rest = rest; is = number_read text digits rest (read_on 0 digits) e all ends some plain (refl, small) }))
    (cases_lt most_number (read_on 0 digits))

by_digits : (text digits rest : List ℕ) → text ≡ digits ++ rest → list_all is_ascii_digit digits ≡ true → IsNoDigit rest → StartsNumber text ⊎ HasNoNumber text
by_digits text [] rest e all ends = inr (no_digits text rest e ends)
by_digits text (d ∷ []) rest e all ends = by_value text (d ∷ []) rest e all ends (omega arith) (λ first. refl)
by_digits text (d ∷ second ∷ digits) rest e all ends = ⊎_elim
    (λ first. inr (leading_zero text rest digits second (e ∙ ap (λ (c : ℕ). (c ∷ second ∷ digits) ++ rest) first) (subst (λ (c : ℕ). list_all is_ascii_digit (c ∷ second ∷ digits) ≡ true) first all) ends))
    (λ not. by_value text (d ∷ second ∷ digits) rest e all ends (omega arith) (λ first. absurd (not first)))
    (decide_number d 48)

number_decided : (text : List ℕ) → StartsNumber text ⊎ HasNoNumber text
number_decided text = let d = digits_of text in by_digits text d.digits d.rest d.is d.all d.ends

-- what stands behind a piece
behind_decided : (text piece : List ℕ) → ((rest : List ℕ) × (text ≡ piece ++ rest)) ⊎ IsNotBehind text piece
behind_decided text [] = inl (text, refl)
behind_decided [] (d ∷ piece) = inr (λ rest e. cc)
behind_decided (c ∷ text) (d ∷ piece) = ⊎_elim
    (λ same. ⊎_elim
    (λ more. inl (more.0, ap (λ (k : ℕ). k ∷ text) same ∙ ap (λ (t : List ℕ). d ∷ t) more.1))
    (λ none. inr (λ rest e. none rest (let f : text ≡ piece ++ rest = cc in f)))
    (behind_decided text piece))
    (λ differs. inr (λ rest e. differs (let f : c ≡ d = cc in f)))
    (decide_number c d)

-- the number that stands before a piece
record StandsBefore (text piece : List ℕ) : Type 0 where
  n : ℕ
  rest : List ℕ
  is : IsNumberBefore text piece n rest

before_decided : (text piece : List ℕ) → IsApart piece → StandsBefore text piece ⊎ HasNoneBefore text piece
before_decided text piece apart = ⊎_elim
    (λ number. ⊎_elim
    (λ more. inl (record { n = number.n; rest = more.0; is = before_read text piece number.n number.rest more.0 apart number.is more.1 }))
    (λ none. inr (not_before text piece number.n number.rest apart number.is none))
    (behind_decided number.rest piece))
    (λ none. inr (none_before text piece apart none))
    (number_decided text)

record SaysSizes (text head : List ℕ) : Type 0 where
  sizes : Sizes
  rest : List ℕ
  are : AreSizes text head sizes rest

sizes_decided : (text head : List ℕ) → SaysSizes text head ⊎ HasNoSizes text head
sizes_decided text head = ⊎_elim
    (λ a. ⊎_elim
    (λ b. ⊎_elim
    (λ c. ⊎_elim
    (λ d. ⊎_elim
    (λ e. ⊎_elim
    (λ f. inl (record {
      sizes = record { size = b.n; align = c.n; dsize = d.n; nvsize = e.n; nvalign = f.n };
      rest = f.rest;
      are = sizes_there text head a.0 a.1 b.n b.rest b.is c.n c.rest c.is d.n d.rest d.is e.n e.rest e.is f.n f.rest f.is;
    }))
    (λ none. inr (no_nvalign text head a.0 a.1 b.n b.rest b.is c.n c.rest c.is d.n d.rest d.is e.n e.rest e.is none))
    (before_decided e.rest (codes "\n") refl))
    (λ none. inr (no_nvsize text head a.0 a.1 b.n b.rest b.is c.n c.rest c.is d.n d.rest d.is none))
    (before_decided d.rest (codes " nvalign ") refl))
    (λ none. inr (no_dsize text head a.0 a.1 b.n b.rest b.is c.n c.rest c.is none))
    (before_decided c.rest (codes " nvsize ") refl))
    (λ none. inr (no_align text head a.0 a.1 b.n b.rest b.is none))
    (before_decided b.rest (codes " dsize ") refl))
    (λ none. inr (no_size text head a.0 a.1 none))
    (before_decided a.0 (codes " align ") refl))
    (λ none. inr (no_head text head none))
    (behind_decided text head)

-- the word up to the next line feed
record StartsWord (text : List ℕ) : Type 0 where
  word : List ℕ
  rest : List ℕ
  is : IsWord text word rest

word_decided : (text : List ℕ) → StartsWord text ⊎ (Contains text 10 → ⊥)
word_decided [] = inr (λ has. has_from_contains [] 10 has)
word_decided (c ∷ text) = ⊎_elim
    (λ same. inl (record { word = []; rest = text; is = record { is = ap (λ (k : ℕ). k ∷ text) same; one_line = λ has. has_from_contains [] 10 has } }))
    (λ differs. ⊎_elim
    (λ more. inl (record {
      word = c ∷ more.word;
      rest = more.rest;
      is = record {
        is = ap (λ (t : List ℕ). c ∷ t) more.is.is;
        one_line = λ has. ⊎_elim differs (λ rest. more.is.one_line (contains_from_has more.word 10 rest)) (has_from_contains (c ∷ more.word) 10 has);
      };
    }))
    (λ none. inr (λ has. ⊎_elim differs (λ rest. none (contains_from_has text 10 rest)) (has_from_contains (c ∷ text) 10 has)))
    (word_decided text))
    (decide_number c 10)

-- the class of a name
named : (names : List (List ℕ)) (name : List ℕ) → ((i : ℕ) × (slice_get names i ≡ Some name)) ⊎ (Contains names name → ⊥)
named [] name = inr (λ has. has_from_contains [] name has)
named (first ∷ names) name = ⊎_elim
    (λ same. inl (zero, ap (λ (n : List ℕ). Some n) same))
    (λ differs. ⊎_elim
    (λ later. inl (suc later.0, later.1))
    (λ none. inr (λ has. ⊎_elim differs (λ rest. none (contains_from_has names name rest)) (has_from_contains (first ∷ names) name has)))
    (named names name))
    (decide_list decide_number first name)

class_named : (h : Classes) (name : List ℕ) → (found : Option ClassId) × IsClassNamed h name found
class_named h name = ⊎_elim (λ at. (Some (class_by_number at.0), at.1)) (λ none. (None, none)) (named (class_names h) name)

word_said : (h : Classes) (word : List ℕ) → (Contains word 10 → ⊥) → (primary : Option Primary) × IsPrimaryWord h word primary
word_said h word plain = ⊎_elim
    (λ is. (Some NoPrimary, says_none h word is))
    (λ not. ⊎_elim
    (λ name. by_virtual name.0 name.1 (class_named h name.0).0 (class_named h name.0).1)
    (λ no_virtual. by_direct not no_virtual (class_named h word).0 (class_named h word).1)
    (behind_decided word (codes "virtual ")))
    (decide_list decide_number word (codes "none"))
  where
    by_virtual : (name : List ℕ) → word ≡ codes "virtual " ++ name → (found : Option ClassId) → IsClassNamed h name found → (primary : Option Primary) × IsPrimaryWord h word primary
    by_virtual name e None none = (None, says_no_virtual h word name e none)
    by_virtual name e (Some v) there = (Some (Virtual v), says_virtual h word name v plain e there)

    by_direct : (word ≡ codes "none" → ⊥) → IsNotBehind word (codes "virtual ") → (found : Option ClassId) → IsClassNamed h word found → (primary : Option Primary) × IsPrimaryWord h word primary
    by_direct not no_virtual None none = (None, says_no_direct h word not no_virtual none)
    by_direct not no_virtual (Some b) there = (Some (Direct b), says_direct h word b plain not no_virtual there)

record SaysPrimary (h : Classes) (text : List ℕ) : Type 0 where
  primary : Primary
  rest : List ℕ
  is : IsPrimaryRead h text primary rest

primary_decided : (h : Classes) (text : List ℕ) → SaysPrimary h text ⊎ IsNoLine h primary_line text
primary_decided h text = ⊎_elim
    (λ a. ⊎_elim
    (λ w. let said = word_said h w.word w.is.one_line in by_word a.0 a.1 w.word w.rest w.is said.0 said.1)
    (λ none. inr (no_line_end h text a.0 a.1 none))
    (word_decided a.0))
    (λ none. inr (no_first_word h text none))
    (behind_decided text (codes "primary "))
  where
    by_word : (r0 : List ℕ) → text ≡ codes "primary " ++ r0 → (word rest : List ℕ) → IsWord r0 word rest → (primary : Option Primary) → IsPrimaryWord h word primary → SaysPrimary h text ⊎ IsNoLine h primary_line text
    by_word r0 e word rest is None none = inr (no_word h text r0 word rest e is none)
    by_word r0 e word rest is (Some primary) said = inl (record { primary = primary; rest = rest; is = primary_read h text r0 word rest primary e is said })

-- the line at which reading stops
abbrev Stops : Classes → List ListingLine → List ℕ → ℕ → Type 0
Stops h lines text number = (line : ℕ) × StopsReading h lines text number (stops.Bad Form line)

record SaysBases (h : Classes) (list : List Subobject) (text : List ℕ) : Type 0 where
  places : List ℕ
  rest : List ℕ
  are : AreBasesRead h list text places rest

bases_decided : (h : Classes) (text : List ℕ) (number : ℕ) (front list : List Subobject) (places mid : List ℕ) → AreBasesRead h front text places mid → SaysBases h (front ++ list) text ⊎ Stops h (map base_line (front ++ list)) text number
bases_decided h text number front [] places mid read = inl (record { places = places; rest = mid; are = subst (λ (l : List Subobject). AreBasesRead h l text places mid) (sym (append-nil front)) read })
bases_decided h text number front (s ∷ list) places mid read = ⊎_elim
    (λ b. subst (λ (l : List Subobject). SaysBases h l text ⊎ Stops h (map base_line l) text number) (append_assoc front (s ∷ []) list)
    (bases_decided h text number (front ++ s ∷ []) list (places ++ b.n ∷ []) b.rest (base_more h front s text places mid b.rest b.n read b.is)))
    (λ none. inr (
      number + length front,
      next_stops h base_line front s list (front ++ s ∷ list) text mid number (number + length front) (stops.Bad Form (number + length front)) refl read.lines refl
          (stops_here h (base_line s) mid (number + length front) (no_base_line h s mid none)),
    ))
    (before_decided mid (base_tail h s) refl)

record SaysMember (width : Option ℕ) (text tail : List ℕ) : Type 0 where
  at : MemberPlace
  rest : List ℕ
  is : IsMember width text tail at rest

member_decided : (width : Option ℕ) (text tail : List ℕ) → IsApart tail → SaysMember width text tail ⊎ HasNoMember width text tail
member_decided None text tail apart = ⊎_elim
    (λ b. inl (record { at = record { place = b.n; first = 0 }; rest = b.rest; is = (b.is, refl) }))
    (λ none. inr none)
    (before_decided text tail apart)
member_decided (Some width) text tail apart = ⊎_elim
    (λ a. ⊎_elim
    (λ b. inl (record { at = record { place = a.n; first = b.n }; rest = b.rest; is = bits_there text tail a.n a.rest a.is b.n b.rest b.is }))
    (λ none. inr (no_bits_first text tail a.n a.rest a.is none))
    (before_decided a.rest tail apart))
    (λ none. inr (no_bits_place text tail none))
    (before_decided text (codes " bits ") refl)

record SaysMembers (h : Classes) (members : List (Member ClassId)) (text : List ℕ) : Type 0 where
  places : List MemberPlace
  rest : List ℕ
  are : AreMembersRead h members text places rest

members_decided : (h : Classes) (text : List ℕ) (number : ℕ) (front list : List (Member ClassId)) (places : List MemberPlace) (mid : List ℕ) → AreMembersRead h front text places mid → SaysMembers h (front ++ list) text ⊎ Stops h (map member_line (front ++ list)) text number
members_decided h text number front [] places mid read = inl (record { places = places; rest = mid; are = subst (λ (l : List (Member ClassId)). AreMembersRead h l text places mid) (sym (append-nil front)) read })
members_decided h text number front (m ∷ list) places mid read = ⊎_elim
    (λ b. subst (λ (l : List (Member ClassId)). SaysMembers h l text ⊎ Stops h (map member_line l) text number) (append_assoc front (m ∷ []) list)
    (members_decided h text number (front ++ m ∷ []) list (places ++ b.at ∷ []) b.rest (member_more h front m text mid b.rest places b.at read (member_read h m mid b.at b.rest b.is))))
    (λ none. inr (
      number + length front,
      next_stops h member_line front m list (front ++ m ∷ list) text mid number (number + length front) (stops.Bad Form (number + length front)) refl read.lines refl
          (stops_here h (member_line m) mid (number + length front) (no_member_line h m mid none)),
    ))
    (member_decided m.width mid (member_tail h m) (tail_apart h m))

record SaysClass (h : Classes) (c : ClassId) (number : ℕ) (text : List ℕ) : Type 0 where
  said : ClassSaid
  rest : List ℕ
  is : IsSaid h c number said
  read : IsClassRead h c text said rest

class_decided : (h : Classes) → IsHierarchy h → (c : ClassId) (number : ℕ) (text : List ℕ) → SaysClass h c number text ⊎ Stops h (class_lines h c) text number
class_decided h keeps c number text = ⊎_elim
    (λ s.
    let first = sizes_read h c text s.sizes s.rest s.are in
    ⊎_elim
    (λ p. ⊎_elim
    (λ b. ⊎_elim
    (λ m.
    let said : ClassSaid = record { line = number; sizes = s.sizes; primary = p.primary; list = preorder h c; places = b.places; members = m.places } in
    inl (record {
      said = said;
      rest = m.rest;
      is = record { first = refl; sizes = first.small; primary = p.is.writable; in_preorder = refl; lists = preorder_lists h c keeps; each = b.are.each; small = b.are.small; members = m.are.small };
      read = class_read h c text s.rest s.sizes first number p.primary p.rest p.is b.places b.rest b.are said m.places m.rest m.are refl refl refl refl refl;
    }))
    (λ stop. inr (stop.0, members_stop h c text s.rest s.sizes first number p.primary p.rest p.is b.places b.rest b.are (number + 2 + length (proper (preorder h c))) (stops.Bad Form stop.0) refl stop.1))
    (members_decided h b.rest (number + 2 + length (proper (preorder h c))) [] (members_of h c) [] b.rest (no_members h b.rest)))
    (λ stop. inr (stop.0, bases_stop h c text s.rest s.sizes first number p.primary p.rest p.is (number + 2) (stops.Bad Form stop.0) refl stop.1))
    (bases_decided h p.rest (number + 2) [] (proper (preorder h c)) [] p.rest (no_bases h p.rest)))
    (λ none. inr (number + 1, primary_stop h c text s.rest s.sizes first number (number + 1) (stops.Bad Form (number + 1)) refl (stops_here h primary_line s.rest (number + 1) none)))
    (primary_decided h s.rest))
    (λ none. inr (number, sizes_stop h c text number (stops.Bad Form number) (stops_here h (sizes_line c) text number (no_sizes_line h c text none))))
    (sizes_decided text (sizes_head h c))

record SaysTo (h : Classes) (text : List ℕ) (n : ℕ) : Type 0 where
  saids : List ClassSaid
  rest : List ℕ
  number : ℕ
  are : AreSaidTo h text n saids rest number

-- a line is of no form
abbrev IsStopped : Classes → List ℕ → Type 0
IsStopped h text = (line : ℕ) × IsRefused h text (stops.Bad Form line)

stopped : (h : Classes) (text : List ℕ) (line : ℕ) → ((stops.Bad Form line ≡ stops.NoMemory) ⊎ IsRefused h text (stops.Bad Form line)) → IsStopped h text
stopped h text line (inl e) = absurd (cc)
stopped h text line (inr is) = (line, is)

classes_decided : (h : Classes) → IsHierarchy h → (text : List ℕ) (n : ℕ) → n ≤ length h → SaysTo h text n ⊎ IsStopped h text
classes_decided h keeps text zero within = inl (record { saids = []; rest = text; number = 1; are = none_said h text 1 refl })
classes_decided h keeps text (suc n) within = ⊎_elim
    (λ old. ⊎_elim
    (λ c.
    let one : n + 1 ≡ suc n = omega arith in
    inl (record {
      saids = old.saids ++ c.said ∷ [];
      rest = c.rest;
      number = old.number + length (class_lines h (class_by_number n));
      are = subst (λ (k : ℕ). AreSaidTo h text k (old.saids ++ c.said ∷ []) c.rest (old.number + length (class_lines h (class_by_number n)))) one
          (one_class_more h text n old.saids old.rest c.rest old.number (old.number + length (class_lines h (class_by_number n))) c.said old.are c.is c.read refl);
    }))
    (λ stop. inr (stopped h text stop.0 (class_stops h text n old.saids old.rest old.number (stops.Bad Form stop.0) (omega arith) old.are stop.1)))
    (class_decided h keeps (class_by_number n) old.number old.rest))
    (λ stop. inr stop)
    (classes_decided h keeps text n (omega arith))

pub reading_decided : (h : Classes) → IsHierarchy h → (text : List ℕ) → ((saids : List ClassSaid) × AreSaid h text saids) ⊎ IsStopped h text
reading_decided h keeps text = ⊎_elim (λ old. by_rest old.saids old.rest old.number old.are) (λ stop. inr stop) (classes_decided h keeps text (length h) (omega arith))
  where
    by_rest : (saids : List ClassSaid) (rest : List ℕ) (number : ℕ) → AreSaidTo h text (length h) saids rest number → ((saids : List ClassSaid) × AreSaid h text saids) ⊎ IsStopped h text
    by_rest saids [] number are = inl (saids, all_said h text saids [] number are refl)
    by_rest saids (c ∷ rest) number are = inr (number, too_many_lines h text saids (c ∷ rest) number are (λ e. cc))
