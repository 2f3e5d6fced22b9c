-- What the classes of a listing break.
use Rattle.std.proofs.Common.{◌≡◌, ◌∙◌, ℕ, zero, suc, ◌+◌, ◌<◌, ◌≤◌, ◌⊎◌, ⊎_elim, inl, inr, Bool, true, false, Option, Some, None, List, [], ◌∷◌, length, map, refl, sym, ap, subst, arith}
use Rattle.std.specs.Prelude.{slice_get, Contains, position}
use Rattle.std.proofs.lemmas.Bool.{cases_order}
use Rattle.foundation.proofs.Places.{place_of, contains_at, get_within, get_mapped}
use Rattle.cxx_hierarchy.specs.declared.records.ClassId.{ClassId}
use Rattle.cxx_hierarchy.specs.declared.records.Base.{Base}
use Rattle.cxx_hierarchy.specs.declared.records.Member.{Member}
use Rattle.cxx_hierarchy.specs.Classes.{Classes, members_of, class_by_number}
use Rattle.cxx_hierarchy.specs.Hierarchies.{IsHierarchy}
use Rattle.cxx_subobject.specs.declared.Subobject.{Subobject}
use Rattle.cxx_subobject.specs.Subobjects.{same_subobject, shared_base}
use Rattle.abi_sound.specs.declared.class_layout.ClassLayout.{ClassLayout}
use Rattle.abi_sound.specs.Places.{places_of}
use Rattle.abi_sound.specs.Sound.{IsSoundClass}
use Rattle.abi_judge.specs.declared.rules.SoundRule.{SoundRule}
use Rattle.abi_judge.specs.declared.rules.SoundRule.TheVariants as sound
use Rattle.abi_judge.specs.Rules.{Keeps, turn, FailsFirst, IsFault, IsSmallRow, MayBeJudged}
use Rattle.abi_print.specs.LayoutTexts.{proper}
use Rattle.abi_print.specs.Texts.{PlaceOf}
use Rattle.abi_foreign.specs.declared.listing_stop.ListingRule.{ListingRule}
use Rattle.abi_foreign.specs.declared.listing_stop.ListingRule.TheVariants.{Place}
use Rattle.abi_foreign.specs.declared.listing_stop.ListingStop.TheVariants as stops
use Rattle.abi_foreign.specs.declared.said.MemberPlace.{MemberPlace}
use Rattle.abi_foreign.specs.declared.said.ClassSaid.{ClassSaid}
use Rattle.abi_foreign.specs.Lines.{first_line}
use Rattle.abi_foreign.specs.Listings.{cut_row, cut_rows, AreSums, IsForeign}
use Rattle.abi_foreign.specs.Refusals.{listing_rule_no, rule_of, Breaks, unsound, no_sum, IsRefused, faulty}
use Rattle.abi_foreign.specs.invariants.Said.{AreSaid, AreSmallNumbers, AreSmallPlaces}
use Rattle.abi_foreign.specs.invariants.Rows.{said_base_place, printed_in, said_place, direct_base, exact_row, exact_rows, primaries_of}
use Rattle.abi_foreign.specs.invariants.Sums.{AreSumsOf, HasNoSum}
use Rattle.abi_foreign.specs.invariants.Judged.{rule_with_sums, least_rule, IsJudged, AreGood}
use Rattle.abi_foreign.proofs.Positions.{get_below}
use Rattle.abi_foreign.proofs.RowFacts.{written_row, nth_small}
use Rattle.abi_foreign.proofs.Stands.{rows_full, said_at, stands}
use Rattle.abi_foreign.proofs.ListedTexts.{printed_at, listed}

printed_small : (said : ClassSaid) → AreSmallNumbers said.places → (s : Subobject) → said_base_place said s ≤ 1048576
printed_small said small s = nth_small said.places (position (λ (t : Subobject). same_subobject t s) (proper said.list)) small

mapped_small : {X : Type 0} (f : X → ℕ) → ((x : X) → f x ≤ 1048576) → (xs : List X) (k place : ℕ) → slice_get (map f xs) k ≡ Some place → place ≤ 1048576
mapped_small f each xs k place there = let at = get_mapped f xs k place there in subst (λ (n : ℕ). n ≤ 1048576) at.2 (each at.0)

member_small : (members : List (Member ClassId)) (places : List MemberPlace) → AreSmallPlaces members places → (k place : ℕ) → slice_get (map (λ (at : MemberPlace). at.place) places) k ≡ Some place → place ≤ 1048576
member_small members [] small k place there = absurd (cc)
member_small [] (at ∷ places) small k place there = absurd small
member_small (member ∷ members) (at ∷ places) small zero place there = let same : at.place ≡ place = cc in subst (λ (n : ℕ). n ≤ 1048576) same small.0.0
member_small (member ∷ members) (at ∷ places) small (suc k) place there = member_small members places small.1 k place there

-- no rule is broken where the answer is none
clean_of : (fault : Option SoundRule) (has_sums : Bool) → least_rule fault has_sums ≡ None → (fault ≡ None) × (has_sums ≡ true)
clean_of (Some rule) has_sums e = absurd (cc)
clean_of None true e = (refl, refl)
clean_of None false e = absurd (cc)

-- what a class breaks, and that this is the least
record IsVerdict (h : Classes) (rows : List ClassLayout) (place : PlaceOf) (c : ClassId) (rule : ListingRule) : Type 0 where
  breaks : Breaks h rows place c rule
  least : (other : ListingRule) → listing_rule_no other < listing_rule_no rule → Breaks h rows place c other → ⊥

turn_no : (rule : SoundRule) → listing_rule_no (rule_of rule) ≡ turn rule + 2
turn_no sound.Primary = refl
turn_no sound.Place = refl
turn_no sound.Align = refl
turn_no sound.Inside = refl
turn_no sound.Overlap = refl
turn_no sound.Twice = refl

turn_less : (earlier rule : SoundRule) → listing_rule_no (rule_of earlier) < listing_rule_no (rule_of rule) → turn earlier < turn rule
turn_less earlier rule less = let a = turn_no earlier in let b = turn_no rule in omega arith

-- of the rules before this one none is broken, where places are sums or this one comes before
least_unsound : (h : Classes) (rows : List ClassLayout) (place : PlaceOf) (c : ClassId) (rule : SoundRule) → FailsFirst h (places_of h rows) c rule → (listing_rule_no (rule_of rule) ≤ 3) ⊎ AreSums h rows place c →
    (other : ListingRule) → listing_rule_no other < listing_rule_no (rule_of rule) → Breaks h rows place c other → ⊥
least_unsound h rows place c rule fails sums other less (unsound earlier broken) = broken (fails.before earlier (turn_less earlier rule less))
least_unsound h rows place c rule fails sums other less (no_sum s has differs) = ⊎_elim (λ low. absurd (omega arith)) (λ all. differs (all s has)) sums

-- where a place is no sum, only the rule on the primary base comes before
least_place : (h : Classes) (rows : List ClassLayout) (place : PlaceOf) (c : ClassId) → Keeps h (places_of h rows) c sound.Primary → (other : ListingRule) → listing_rule_no other < 3 → Breaks h rows place c other → ⊥
least_place h rows place c kept other less (unsound sound.Primary broken) = broken kept
least_place h rows place c kept other less (unsound sound.Place broken) = absurd (omega arith)
least_place h rows place c kept other less (unsound sound.Align broken) = absurd (omega arith)
least_place h rows place c kept other less (unsound sound.Inside broken) = absurd (omega arith)
least_place h rows place c kept other less (unsound sound.Overlap broken) = absurd (omega arith)
least_place h rows place c kept other less (unsound sound.Twice broken) = absurd (omega arith)
least_place h rows place c kept other less (no_sum s has differs) = absurd (omega arith)

by_rule : (h : Classes) (rows : List ClassLayout) (place : PlaceOf) (c : ClassId) (rule : SoundRule) → FailsFirst h (places_of h rows) c rule → (listing_rule_no (rule_of rule) ≤ 3) ⊎ AreSums h rows place c → IsVerdict h rows place c (rule_of rule)
by_rule h rows place c rule fails sums = record { breaks = unsound rule fails.broken; least = least_unsound h rows place c rule fails sums }

by_place : (h : Classes) (rows : List ClassLayout) (place : PlaceOf) (c : ClassId) → Keeps h (places_of h rows) c sound.Primary → Breaks h rows place c Place → IsVerdict h rows place c Place
by_place h rows place c kept broken = record { breaks = broken; least = least_place h rows place c kept }

-- a sound class keeps the rule on its primary base
keeps_primary : (h : Classes) (rows : List ClassLayout) (c : ClassId) → IsSoundClass h (places_of h rows) c → Keeps h (places_of h rows) c sound.Primary
keeps_primary h rows c is = record { direct = is.direct; virtual = is.virtual; held = record { holder = is.holder } }

module _ (h : Classes) (rows : List ClassLayout) (place : PlaceOf) (c : ClassId) where
  with_sums : (rule : SoundRule) (has_sums : Bool) → FailsFirst h (places_of h rows) c rule → (has_sums ≡ true → AreSums h rows place c) → (has_sums ≡ false → Breaks h rows place c Place) → IsVerdict h rows place c (rule_with_sums rule has_sums)
  with_sums sound.Primary has_sums fails on off = by_rule h rows place c sound.Primary fails (inl (omega arith))
  with_sums sound.Place has_sums fails on off = by_rule h rows place c sound.Place fails (inl (omega arith))
  with_sums sound.Align true fails on off = by_rule h rows place c sound.Align fails (inr (on refl))
  with_sums sound.Align false fails on off = by_place h rows place c (fails.before sound.Primary (omega arith)) (off refl)
  with_sums sound.Inside true fails on off = by_rule h rows place c sound.Inside fails (inr (on refl))
  with_sums sound.Inside false fails on off = by_place h rows place c (fails.before sound.Primary (omega arith)) (off refl)
  with_sums sound.Overlap true fails on off = by_rule h rows place c sound.Overlap fails (inr (on refl))
  with_sums sound.Overlap false fails on off = by_place h rows place c (fails.before sound.Primary (omega arith)) (off refl)
  with_sums sound.Twice true fails on off = by_rule h rows place c sound.Twice fails (inr (on refl))
  with_sums sound.Twice false fails on off = by_place h rows place c (fails.before sound.Primary (omega arith)) (off refl)

  verdict_of : (fault : Option SoundRule) (has_sums : Bool) (broken : ListingRule) → IsFault h (places_of h rows) c fault → (has_sums ≡ true → AreSums h rows place c) → (has_sums ≡ false → Breaks h rows place c Place) → least_rule fault has_sums ≡ Some broken → IsVerdict h rows place c broken
  verdict_of (Some rule) has_sums broken fails on off e = let same : rule_with_sums rule has_sums ≡ broken = cc in subst (IsVerdict h rows place c) same (with_sums rule has_sums fails on off)
  verdict_of None true broken is on off e = absurd (cc)
  verdict_of None false broken is on off e = let same : Place ≡ broken = cc in subst (IsVerdict h rows place c) same (by_place h rows place c (keeps_primary h rows c is) (off refl))

module _ (h : Classes) (keeps : IsHierarchy h) (text : List ℕ) (saids : List ClassSaid) (all : AreSaid h text saids) where
  -- the rows as they are cut, and the places that are said
  small_rows : (i : ℕ) (row : ClassLayout) → slice_get (cut_rows (exact_rows h saids (length h))) i ≡ Some row → IsSmallRow row
  small_rows i row e =
      let cut = get_mapped cut_row (exact_rows h saids (length h)) i row e in
      let of = written_row h saids i cut.0 all.count cut.1 in
      let said = all.each (class_by_number i) of.said of.there in
      let is : cut_row (exact_row h saids (primaries_of saids) (class_by_number i) of.said) ≡ row = ap cut_row (sym of.is) ∙ cut.2 in
      subst IsSmallRow is (record {
        size = said.sizes.0;
        align = said.sizes.1;
        nvalign = said.sizes.4;
        bases = λ k place there. mapped_small (λ (b : Base ClassId). said_base_place of.said (direct_base (class_by_number i) b.class)) (λ b. printed_small of.said said.small (direct_base (class_by_number i) b.class)) _ k place there;
        virtuals = λ k place there. mapped_small (λ (v : ClassId). said_base_place of.said (shared_base v)) (λ v. printed_small of.said said.small (shared_base v)) _ k place there;
        members = λ k place there. member_small (members_of h (class_by_number i)) of.said.members said.members k place there;
      })

  -- each place that a class says is a sum, or one is none
  sums_of : (c : ClassId) (said : ClassSaid) → slice_get saids c.0 ≡ Some said → AreSumsOf h (cut_rows (exact_rows h saids (length h))) c (proper said.list) said.places → AreSums h (cut_rows (exact_rows h saids (length h))) (said_place saids) c
  sums_of c said e sums s has =
      let of = all.each c said e in
      let listed : Contains (proper said.list) s = subst (λ (list : List Subobject). Contains (proper list) s) (sym of.in_preorder) has in
      let at = place_of (proper said.list) s listed in
      let place = get_within said.places at.0 (let each = of.each in let below = get_below (proper said.list) at.0 s at.1 in omega arith) in
      ap (λ (one : Option ClassSaid). printed_in one s) e ∙ printed_at h c said at.0 s place.0 of.lists at.1 place.1 ∙ sums.each at.0 s place.0 at.1 place.1

  breaks_sum : (c : ClassId) (said : ClassSaid) → slice_get saids c.0 ≡ Some said → HasNoSum h (cut_rows (exact_rows h saids (length h))) c (proper said.list) said.places → Breaks h (cut_rows (exact_rows h saids (length h))) (said_place saids) c Place
  breaks_sum c said e none =
      let of = all.each c said e in
      no_sum none.s (subst (λ (list : List Subobject). Contains (proper list) none.s) of.in_preorder (contains_at (proper said.list) none.number none.s none.there))
      (λ same. none.other (sym (ap (λ (one : Option ClassSaid). printed_in one none.s) e ∙ printed_at h c said none.number none.s none.place of.lists none.there none.said) ∙ same))

  -- what a class is judged by
  pub next : (n : ℕ) → n < length h → AreGood h (cut_rows (exact_rows h saids (length h))) saids n → MayBeJudged h (cut_rows (exact_rows h saids (length h))) (class_by_number n)
  next n known good = record {
    known = known;
    full = rows_full h keeps text saids all;
    small = small_rows;
    held = record { holder = λ v has. (stands h keeps text saids all).holders (class_by_number n) v has };
    before = λ d less. good.sound d less;
  }

  pub good_next : (n : ℕ) (said : ClassSaid) (rule : Option ListingRule) → slice_get saids n ≡ Some said → AreGood h (cut_rows (exact_rows h saids (length h))) saids n →
      IsJudged h (cut_rows (exact_rows h saids (length h))) (class_by_number n) (proper said.list) said.places rule → rule ≡ None → AreGood h (cut_rows (exact_rows h saids (length h))) saids (n + 1)
  good_next n said rule e good judged none =
      let clean = clean_of judged.fault judged.has_sums (sym judged.is ∙ none) in
      let here : IsSoundClass h (places_of h (cut_rows (exact_rows h saids (length h)))) (class_by_number n) = subst (IsFault h (places_of h (cut_rows (exact_rows h saids (length h)))) (class_by_number n)) clean.0 judged.is_fault in
      record {
        sound = λ d less. ⊎_elim
            (λ at. subst (λ (c : ClassId). IsSoundClass h (places_of h (cut_rows (exact_rows h saids (length h)))) c) (sym (ap class_by_number at)) here)
            (λ other. ⊎_elim (λ below. good.sound d below) (λ above. absurd (omega arith)) other)
            (cases_order d.0 n);
        sums = λ d one less there. ⊎_elim
            (λ at.
            let same : Some one ≡ Some said = sym there ∙ ap (slice_get saids) at ∙ e in
            let is : said ≡ one = cc in
            subst (λ (s : ClassSaid). AreSumsOf h (cut_rows (exact_rows h saids (length h))) d (proper s.list) s.places) is
            (subst (λ (c : ClassId). AreSumsOf h (cut_rows (exact_rows h saids (length h))) c (proper said.list) said.places) (sym (ap class_by_number at)) (judged.sums clean.1)))
            (λ other. ⊎_elim (λ below. good.sums d one below there) (λ above. absurd (omega arith)) other)
            (cases_order d.0 n);
      }

  pub all_good : AreGood h (cut_rows (exact_rows h saids (length h))) saids (length h) → IsForeign h text (cut_rows (exact_rows h saids (length h)))
  all_good good = record {
    place = said_place saids;
    listed = listed h keeps text saids all;
    sums = λ c known. let said = said_at h keeps text saids all c known in sums_of c said.0 said.1 (good.sums c said.0 known said.1);
    sound = record { full = rows_full h keeps text saids all; each = λ c known. good.sound c known };
  }

  pub bad_class : (n : ℕ) (said : ClassSaid) (rule : Option ListingRule) (broken : ListingRule) → n < length h → slice_get saids n ≡ Some said → AreGood h (cut_rows (exact_rows h saids (length h))) saids n →
      IsJudged h (cut_rows (exact_rows h saids (length h))) (class_by_number n) (proper said.list) said.places rule → rule ≡ Some broken → IsRefused h text (stops.Bad broken said.line)
  bad_class n said rule broken known e good judged is =
      let first : said.line ≡ first_line h (class_by_number n) = (all.each (class_by_number n) said e).first in
      let l = places_of h (cut_rows (exact_rows h saids (length h))) in
      let verdict = verdict_of h (cut_rows (exact_rows h saids (length h))) (said_place saids) (class_by_number n) judged.fault judged.has_sums broken judged.is_fault (λ on. sums_of (class_by_number n) said e (judged.sums on)) (λ off. breaks_sum (class_by_number n) said e (judged.no_sum off)) (sym judged.is ∙ is) in
      subst (λ (k : ℕ). IsRefused h text (stops.Bad broken k)) (sym first) (faulty (cut_rows (exact_rows h saids (length h))) (said_place saids) (class_by_number n) broken (listed h keeps text saids all) (record {
        known = known;
        before = λ d less.
            let one = said_at h keeps text saids all d (omega arith) in
            (good.sound d less, sums_of d one.0 one.1 (good.sums d one.0 less one.1));
        breaks = verdict.breaks;
        least = verdict.least;
      }))
