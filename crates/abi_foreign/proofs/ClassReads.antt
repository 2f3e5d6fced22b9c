-- The lines of a class, one after the other.
use Rattle.std.proofs.Common.{◌≡◌, ◌∙◌, ℕ, zero, suc, ◌+◌, ◌<◌, ◌≤◌, ◌^◌, List, [], ◌∷◌, ◌++◌, length, map, take, drop, get_or, refl, sym, ap, subst, arith, append_assoc, append-nil, length-append}
use Rattle.std.specs.Prelude.{codes}
use Rattle.std.specs.Fmt.{decimal}
use Rattle.std.proofs.lemmas.List.{map-append, length-map}
use Rattle.foundation.proofs.Places.{take_next}
use Rattle.cxx_hierarchy.specs.declared.records.ClassId.{ClassId}
use Rattle.cxx_hierarchy.specs.declared.records.Member.{Member}
use Rattle.cxx_hierarchy.specs.Classes.{Classes, members_of}
use Rattle.cxx_subobject.specs.declared.Subobject.{Subobject}
use Rattle.cxx_subobject.specs.Preorder.{preorder}
use Rattle.abi_primary.specs.declared.Primary.{Primary}
use Rattle.abi_print.specs.LayoutTexts.{field_text, proper}
use Rattle.abi_foreign.specs.declared.listing_stop.ListingStop.{ListingStop}
use Rattle.abi_foreign.specs.declared.listing_stop.ListingStop.TheVariants as stops
use Rattle.abi_foreign.specs.declared.listing_stop.ListingRule.TheVariants.{Form}
use Rattle.abi_foreign.specs.declared.said.Sizes.{Sizes}
use Rattle.abi_foreign.specs.declared.said.MemberPlace.{MemberPlace}
use Rattle.abi_foreign.specs.declared.said.ClassSaid.{ClassSaid}
use Rattle.abi_foreign.specs.Lines.{ListingLine, most_number, sizes_line, primary_line, base_line, member_line, class_lines}
use Rattle.abi_foreign.specs.invariants.Pieces.{IsNumberBefore, HasNoneBefore}
use Rattle.abi_foreign.specs.invariants.Reading.{IsRead, IsReadTo, StopsReading, HasRoomForLines}
use Rattle.abi_foreign.specs.invariants.Said.{sizes_then, sizes_head, AreSizesRead, primary_line_text, IsPrimaryRead, base_tail, base_lines, AreBasesRead, AreSmallNumbers, members_text, IsSmallPlace, IsMemberRead, AreSmallPlaces, AreMembersRead, IsClassRead}
use Rattle.abi_foreign.proofs.ReadLines.{nothing_read, both_read, one_read, stops_here, stops_after, stops_before}
use Rattle.abi_foreign.proofs.LineReads.{base_read, no_base_line}

-- the lines of base subobjects
bases_more : (h : Classes) (list : List Subobject) (s : Subobject) (places : List ℕ) (place : ℕ) → length places ≡ length list → base_lines h (list ++ s ∷ []) (places ++ place ∷ []) ≡ base_lines h list places ++ (decimal place ++ base_tail h s)
bases_more h [] s [] place same = append-nil (decimal place ++ base_tail h s)
bases_more h [] s (p ∷ places) place same = absurd (omega arith)
bases_more h (t ∷ list) s [] place same = absurd (omega arith)
bases_more h (t ∷ list) s (p ∷ places) place same =
    ap (λ (rest : List ℕ). decimal p ++ base_tail h t ++ rest) (bases_more h list s places place (omega arith))
    ∙ sym (append_assoc (decimal p ++ base_tail h t) (base_lines h list places) (decimal place ++ base_tail h s))

small_more : (places : List ℕ) (place : ℕ) → AreSmallNumbers places → place ≤ most_number → AreSmallNumbers (places ++ place ∷ [])
small_more [] place all one = (one, tt)
small_more (p ∷ places) place all one = (all.0, small_more places place all.1 one)

pub no_bases : (h : Classes) (text : List ℕ) → AreBasesRead h [] text [] text
no_bases h text = record { is = refl; each = refl; small = tt; lines = nothing_read h text }

joined : (a b c d : List ℕ) → a ++ (b ++ (c ++ d)) ≡ (a ++ (b ++ c)) ++ d
joined a b c d = simp append_assoc

pub base_more : (h : Classes) (list : List Subobject) (s : Subobject) (text places mid rest : List ℕ) (place : ℕ) → AreBasesRead h list text places mid → IsNumberBefore mid (base_tail h s) place rest →
    AreBasesRead h (list ++ s ∷ []) text (places ++ place ∷ []) rest
base_more h list s text places mid rest place old new = record {
  is = old.is ∙ ap (λ (t : List ℕ). base_lines h list places ++ t) new.is ∙ joined (base_lines h list places) (decimal place) (base_tail h s) rest
      ∙ ap (λ (t : List ℕ). t ++ rest) (sym (bases_more h list s places place old.each));
  each = length-append places (place ∷ []) ∙ ap (λ (n : ℕ). n + 1) old.each ∙ sym (length-append list (s ∷ []));
  small = small_more places place old.small new.small;
  lines = subst (λ (lines : List ListingLine). IsReadTo h lines text rest) (sym (map-append base_line list (s ∷ [])))
      (both_read h (map base_line list) (base_line s ∷ []) text mid rest old.lines (one_read h (base_line s) mid rest (base_read h s mid place rest new)));
}

-- the lines of members
pub members_more : (h : Classes) (members : List (Member ClassId)) (member : Member ClassId) (places : List MemberPlace) (at : MemberPlace) → AreSmallPlaces members places →
    members_text h (members ++ member ∷ []) (places ++ at ∷ []) ≡ members_text h members places ++ field_text h at.place at.first member
members_more h [] member [] at same = append-nil (field_text h at.place at.first member)
members_more h [] member (p ∷ places) at same = absurd same
members_more h (m ∷ members) member [] at same = absurd same
members_more h (m ∷ members) member (p ∷ places) at same =
    ap (λ (rest : List ℕ). field_text h p.place p.first m ++ rest) (members_more h members member places at same.1)
    ∙ sym (append_assoc (field_text h p.place p.first m) (members_text h members places) (field_text h at.place at.first member))

places_more : (members : List (Member ClassId)) (member : Member ClassId) (places : List MemberPlace) (at : MemberPlace) → AreSmallPlaces members places → IsSmallPlace member at → AreSmallPlaces (members ++ member ∷ []) (places ++ at ∷ [])
places_more [] member [] at all one = (one, tt)
places_more [] member (p ∷ places) at all one = absurd all
places_more (m ∷ members) member [] at all one = absurd all
places_more (m ∷ members) member (p ∷ places) at all one = (all.0, places_more members member places at all.1 one)

pub no_members : (h : Classes) (text : List ℕ) → AreMembersRead h [] text [] text
no_members h text = record { is = refl; small = tt; lines = nothing_read h text }

pub member_more : (h : Classes) (members : List (Member ClassId)) (member : Member ClassId) (text mid rest : List ℕ) (places : List MemberPlace) (at : MemberPlace) → AreMembersRead h members text places mid → IsMemberRead h member mid at rest →
    AreMembersRead h (members ++ member ∷ []) text (places ++ at ∷ []) rest
member_more h members member text mid rest places at old new = record {
  is = old.is ∙ ap (λ (t : List ℕ). members_text h members places ++ t) new.is ∙ sym (append_assoc (members_text h members places) (field_text h at.place at.first member) rest)
      ∙ ap (λ (t : List ℕ). t ++ rest) (sym (members_more h members member places at old.small));
  small = places_more members member places at old.small new.small;
  lines = subst (λ (lines : List ListingLine). IsReadTo h lines text rest) (sym (map-append member_line members (member ∷ [])))
      (both_read h (map member_line members) (member_line member ∷ []) text mid rest old.lines (one_read h (member_line member) mid rest new.line));
}

-- which lines come before the next one of a list, and which lines follow
pub next_stops : {X : Type 0} (h : Classes) (line : X → ListingLine) (front : List X) (x : X) (rest all : List X) (text mid : List ℕ) (number next : ℕ) (stop : ListingStop) →
    all ≡ front ++ x ∷ rest → IsReadTo h (map line front) text mid → next ≡ number + length front → StopsReading h (line x ∷ []) mid next stop → StopsReading h (map line all) text number stop
next_stops h line front x rest all text mid number next stop split read same stops =
    subst (λ (lines : List ListingLine). StopsReading h lines text number stop) (sym (ap (map line) split ∙ map-append line front (x ∷ rest)))
    (stops_after h (map line front) (line x ∷ map line rest) text mid number next stop read (same ∙ ap (λ (n : ℕ). number + n) (sym (length-map front line))) (stops_before h (line x ∷ []) (map line rest) mid next stop stops))

-- what follows lines that were read has room
pub room_left : (h : Classes) (lines : List ListingLine) (text rest : List ℕ) (number next : ℕ) → HasRoomForLines number text → IsReadTo h lines text rest → next ≡ number + length lines → HasRoomForLines next rest
room_left h lines text rest number next room read same = omega arith

-- there is a number for the line behind one that was read
pub room_next : (h : Classes) (line : ListingLine) (text rest : List ℕ) (number : ℕ) → HasRoomForLines number text → IsRead h line text rest → number + 1 < 2 ^ 32
room_next h line text rest number room read = omega arith

-- the first items of a list, as lines
taken_lines : {X : Type 0} (line : X → ListingLine) (list : List X) (i : ℕ) → i ≤ length list → length (map line (take i list)) ≡ i
taken_lines line list zero within = refl
taken_lines line [] (suc i) within = absurd (omega arith)
taken_lines line (x ∷ list) (suc i) within = ap suc (taken_lines line list i (omega arith))

split_item : {X : Type 0} (list : List X) (i : ℕ) (x : X) → i < length list → x ≡ get_or list i x → list ≡ take i list ++ x ∷ drop (suc i) list
split_item [] i x lt is = absurd (omega arith)
split_item (y ∷ list) zero x lt is = ap (λ z. z ∷ list) (sym is)
split_item (y ∷ list) (suc i) x lt is = ap (λ rest. y ∷ rest) (split_item list i x (omega arith) is)

taken_length : {X : Type 0} (list : List X) (i : ℕ) → i ≤ length list → length (take i list) ≡ i
taken_length list zero within = refl
taken_length [] (suc i) within = absurd (omega arith)
taken_length (x ∷ list) (suc i) within = ap suc (taken_length list i (omega arith))

-- the lines of the first base subobjects, and the next one
module _ (h : Classes) (list : List Subobject) (i : ℕ) (text places mid : List ℕ) (number line : ℕ) (read : AreBasesRead h (take i list) text places mid) (same : line ≡ number + i) where
  pub bases_room : i ≤ length list → HasRoomForLines number text → HasRoomForLines line mid
  bases_room within room = room_left h (map base_line (take i list)) text mid number line room read.lines (let count = taken_lines base_line list i within in omega arith)

  module _ (s : Subobject) (lt : i < length list) (is : s ≡ get_or list i s) (tail : List ℕ) (tail_is : tail ≡ base_tail h s) where
    pub base_room : (place : ℕ) (rest : List ℕ) → HasRoomForLines number text → IsNumberBefore mid tail place rest → line + 1 < 2 ^ 32
    base_room place rest room new = room_next h (base_line s) mid rest line (bases_room (omega arith) room) (base_read h s mid place rest (subst (λ (t : List ℕ). IsNumberBefore mid t place rest) tail_is new))

    pub bases_step : (place : ℕ) (rest more after : List ℕ) → IsNumberBefore mid tail place rest → more ≡ places ++ place ∷ [] → after ≡ rest → AreBasesRead h (take (i + 1) list) text more after
    bases_step place rest more after new more_is after_is =
        subst (λ (l : List Subobject). AreBasesRead h l text more after) (sym (take_next list i s lt is))
        (subst (λ (ps : List ℕ). AreBasesRead h (take i list ++ s ∷ []) text ps after) (sym more_is)
        (subst (λ (r : List ℕ). AreBasesRead h (take i list ++ s ∷ []) text (places ++ place ∷ []) r) (sym after_is)
        (base_more h (take i list) s text places mid rest place read (subst (λ (t : List ℕ). IsNumberBefore mid t place rest) tail_is new))))

    pub base_stops : (stop : ListingStop) → HasNoneBefore mid tail → stop ≡ stops.Bad Form line → StopsReading h (map base_line list) text number stop
    base_stops stop none stop_is = subst (λ (x : ListingStop). StopsReading h (map base_line list) text number x) (sym stop_is)
        (next_stops h base_line (take i list) s (drop (suc i) list) list text mid number line (stops.Bad Form line) (split_item list i s lt is) read.lines (let count = taken_length list i (omega arith) in omega arith)
        (stops_here h (base_line s) mid line (no_base_line h s mid (subst (λ (t : List ℕ). HasNoneBefore mid t) tail_is none))))

-- the same of members
module _ (h : Classes) (list : List (Member ClassId)) (i : ℕ) (text : List ℕ) (places : List MemberPlace) (mid : List ℕ) (number line : ℕ) (read : AreMembersRead h (take i list) text places mid) (same : line ≡ number + i) where
  pub members_room : i ≤ length list → HasRoomForLines number text → HasRoomForLines line mid
  members_room within room = room_left h (map member_line (take i list)) text mid number line room read.lines (let count = taken_lines member_line list i within in omega arith)

  module _ (member : Member ClassId) (lt : i < length list) (is : member ≡ get_or list i member) where
    pub members_step : (at : MemberPlace) (rest : List ℕ) (more : List MemberPlace) → IsMemberRead h member mid at rest → more ≡ places ++ at ∷ [] → AreMembersRead h (take (i + 1) list) text more rest
    members_step at rest more new more_is =
        subst (λ (l : List (Member ClassId)). AreMembersRead h l text more rest) (sym (take_next list i member lt is))
        (subst (λ (ps : List MemberPlace). AreMembersRead h (take i list ++ member ∷ []) text ps rest) (sym more_is)
        (member_more h (take i list) member text mid rest places at read new))

    pub member_stops : (stop : ListingStop) → StopsReading h (member_line member ∷ []) mid line stop → StopsReading h (map member_line list) text number stop
    member_stops stop stops =
        next_stops h member_line (take i list) member (drop (suc i) list) list text mid number line stop (split_item list i member lt is) read.lines (let count = taken_length list i (omega arith) in omega arith) stops

all_joined : (h s c1 a c2 d c3 v c4 w c5 x y z rest : List ℕ) →
    h ++ (s ++ (c1 ++ (a ++ (c2 ++ (d ++ (c3 ++ (v ++ (c4 ++ (w ++ (c5 ++ (x ++ (y ++ (z ++ rest))))))))))))) ≡ (h ++ (s ++ (c1 ++ (a ++ (c2 ++ (d ++ (c3 ++ (v ++ (c4 ++ (w ++ (c5 ++ (x ++ (y ++ z))))))))))))) ++ rest
all_joined h s c1 a c2 d c3 v c4 w c5 x y z rest = simp append_assoc

pub said_joined : (head : List ℕ) (sizes : Sizes) (a b c rest : List ℕ) → head ++ sizes_then sizes (a ++ (b ++ (c ++ rest))) ≡ (head ++ sizes_then sizes (a ++ (b ++ c))) ++ rest
said_joined head sizes a b c rest =
    all_joined head (decimal sizes.size) (codes " align ") (decimal sizes.align) (codes " dsize ") (decimal sizes.dsize) (codes " nvsize ") (decimal sizes.nvsize) (codes " nvalign ") (decimal sizes.nvalign) (codes "\n") a b c rest

pub sizes_stop : (h : Classes) (c : ClassId) (text : List ℕ) (number : ℕ) (stop : ListingStop) → StopsReading h (sizes_line c ∷ []) text number stop → StopsReading h (class_lines h c) text number stop
sizes_stop h c text number stop stops = stops_before h (sizes_line c ∷ []) (primary_line ∷ (map base_line (proper (preorder h c)) ++ map member_line (members_of h c))) text number stop stops

module _ (h : Classes) (c : ClassId) (text t1 : List ℕ) (sizes : Sizes) (first : AreSizesRead h c text sizes t1) (number : ℕ) where
  read1 : IsReadTo h (sizes_line c ∷ []) text t1
  read1 = one_read h (sizes_line c) text t1 first.line

  pub primary_stop : (n1 : ℕ) (stop : ListingStop) → n1 ≡ number + 1 → StopsReading h (primary_line ∷ []) t1 n1 stop → StopsReading h (class_lines h c) text number stop
  primary_stop n1 stop same stops =
      stops_after h (sizes_line c ∷ []) (primary_line ∷ (map base_line (proper (preorder h c)) ++ map member_line (members_of h c))) text t1 number n1 stop read1 same
      (stops_before h (primary_line ∷ []) (map base_line (proper (preorder h c)) ++ map member_line (members_of h c)) t1 n1 stop stops)

  module _ (primary : Primary) (t2 : List ℕ) (second : IsPrimaryRead h t1 primary t2) where
    pub read2 : IsReadTo h (sizes_line c ∷ primary_line ∷ []) text t2
    read2 = both_read h (sizes_line c ∷ []) (primary_line ∷ []) text t1 t2 read1 (one_read h primary_line t1 t2 second.line)

    pub bases_stop : (n2 : ℕ) (stop : ListingStop) → n2 ≡ number + 2 → StopsReading h (map base_line (proper (preorder h c))) t2 n2 stop → StopsReading h (class_lines h c) text number stop
    bases_stop n2 stop same stops =
        stops_after h (sizes_line c ∷ primary_line ∷ []) (map base_line (proper (preorder h c)) ++ map member_line (members_of h c)) text t2 number n2 stop read2 same
        (stops_before h (map base_line (proper (preorder h c))) (map member_line (members_of h c)) t2 n2 stop stops)

    module _ (places t3 : List ℕ) (third : AreBasesRead h (proper (preorder h c)) t2 places t3) where
      pub members_stop : (n3 : ℕ) (stop : ListingStop) → n3 ≡ number + 2 + length (proper (preorder h c)) → StopsReading h (map member_line (members_of h c)) t3 n3 stop → StopsReading h (class_lines h c) text number stop
      members_stop n3 stop same stops =
          stops_after h (sizes_line c ∷ primary_line ∷ []) (map base_line (proper (preorder h c)) ++ map member_line (members_of h c)) text t2 number (number + 2) stop read2 refl
          (stops_after h (map base_line (proper (preorder h c))) (map member_line (members_of h c)) t2 t3 (number + 2) n3 stop third.lines
          (same ∙ ap (λ (n : ℕ). number + 2 + n) (sym (length-map (proper (preorder h c)) base_line))) stops)

      pub class_read : (said : ClassSaid) (members : List MemberPlace) (rest : List ℕ) → AreMembersRead h (members_of h c) t3 members rest → said.sizes ≡ sizes → said.primary ≡ primary → said.list ≡ preorder h c → said.places ≡ places → said.members ≡ members → IsClassRead h c text said rest
      class_read said members rest fourth e1 e2 e3 e4 e5 = record {
        is = first.is ∙ ap (λ (t : List ℕ). sizes_head h c ++ sizes_then sizes t) (second.is
            ∙ ap (λ (t : List ℕ). primary_line_text h primary ++ t) (third.is ∙ ap (λ (t : List ℕ). base_lines h (proper (preorder h c)) places ++ t) fourth.is))
            ∙ said_joined (sizes_head h c) sizes (primary_line_text h primary) (base_lines h (proper (preorder h c)) places) (members_text h (members_of h c) members) rest
            ∙ ap (λ (s : Sizes). (sizes_head h c ++ sizes_then s (primary_line_text h primary ++ (base_lines h (proper (preorder h c)) places ++ members_text h (members_of h c) members))) ++ rest) (sym e1)
            ∙ ap (λ (p : Primary). (sizes_head h c ++ sizes_then said.sizes (primary_line_text h p ++ (base_lines h (proper (preorder h c)) places ++ members_text h (members_of h c) members))) ++ rest) (sym e2)
            ∙ ap (λ (l : List Subobject). (sizes_head h c ++ sizes_then said.sizes (primary_line_text h said.primary ++ (base_lines h (proper l) places ++ members_text h (members_of h c) members))) ++ rest) (sym e3)
            ∙ ap (λ (p : List ℕ). (sizes_head h c ++ sizes_then said.sizes (primary_line_text h said.primary ++ (base_lines h (proper said.list) p ++ members_text h (members_of h c) members))) ++ rest) (sym e4)
            ∙ ap (λ (m : List MemberPlace). (sizes_head h c ++ sizes_then said.sizes (primary_line_text h said.primary ++ (base_lines h (proper said.list) said.places ++ members_text h (members_of h c) m))) ++ rest) (sym e5);
        lines = both_read h (sizes_line c ∷ primary_line ∷ []) (map base_line (proper (preorder h c)) ++ map member_line (members_of h c)) text t2 rest read2
            (both_read h (map base_line (proper (preorder h c))) (map member_line (members_of h c)) t2 t3 rest third.lines fourth.lines);
      }

      pub lines_count : (n3 n4 : ℕ) → n3 ≡ number + 2 + length (proper (preorder h c)) → n4 ≡ n3 + length (members_of h c) → n4 ≡ number + length (class_lines h c)
      lines_count n3 n4 one other =
          let both = length-append (map base_line (proper (preorder h c))) (map member_line (members_of h c)) in
          let bases = length-map (proper (preorder h c)) base_line in
          let members = length-map (members_of h c) member_line in
          omega (arith, both, bases, members)
