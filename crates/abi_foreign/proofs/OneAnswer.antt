-- A listing stands for one layout, or is refused for one thing.
use Rattle.std.proofs.Common.{◌≡◌, ◌∙◌, ℕ, zero, suc, ◌<◌, ⊎_elim, List, [], ◌∷◌, ◌++◌, length, refl, sym, ap, subst, arith, append_assoc}
use Rattle.std.specs.Prelude.{Contains}
use Rattle.std.proofs.lemmas.Bool.{cases_order}
use Rattle.cxx_hierarchy.specs.declared.records.ClassId.{ClassId}
use Rattle.cxx_hierarchy.specs.Classes.{Classes}
use Rattle.cxx_hierarchy.specs.Hierarchies.{IsHierarchy}
use Rattle.cxx_subobject.specs.declared.Subobject.{Subobject}
use Rattle.cxx_subobject.specs.Preorder.{preorder}
use Rattle.cxx_subobject.proofs.PathLemmas.{same_id}
use Rattle.abi_sound.specs.declared.class_layout.ClassLayout.{ClassLayout}
use Rattle.abi_sound.specs.Places.{Places, places_of}
use Rattle.abi_sound.specs.Sound.{IsSoundClass}
use Rattle.abi_judge.specs.declared.rules.SoundRule.{SoundRule}
use Rattle.abi_judge.specs.declared.rules.SoundRule.TheVariants as sound
use Rattle.abi_judge.specs.Rules.{Keeps}
use Rattle.abi_print.specs.LayoutTexts.{proper}
use Rattle.abi_print.specs.Texts.{PlaceOf}
use Rattle.abi_foreign.specs.declared.listing_stop.ListingRule.{ListingRule}
use Rattle.abi_foreign.specs.declared.listing_stop.ListingRule.TheVariants.{Form, Primary, Place, Align, Inside, Overlap, Twice}
use Rattle.abi_foreign.specs.declared.listing_stop.ListingStop.{ListingStop}
use Rattle.abi_foreign.specs.declared.listing_stop.ListingStop.TheVariants.{Bad}
use Rattle.abi_foreign.specs.declared.said.ClassSaid.{ClassSaid}
use Rattle.abi_foreign.specs.Lines.{ListingLine, listing_lines, first_line, AreLines, BeginsWithLines}
use Rattle.abi_foreign.specs.Listings.{cut_rows, ListsLayout, AreSums, IsForeign}
use Rattle.abi_foreign.specs.Refusals.{listing_rule_no, IsFormFault, Breaks, unsound, no_sum, IsFirstBreach, IsRefused, no_listing, faulty}
use Rattle.abi_foreign.specs.invariants.Said.{AreSaid}
use Rattle.abi_foreign.specs.invariants.Rows.{said_place, exact_rows}
use Rattle.abi_foreign.proofs.Once.{saids_once}
use Rattle.abi_foreign.proofs.WrittenRows.{saids, all, rows_are, places_same}
use Rattle.abi_foreign.proofs.SaidLines.{said_lines}

-- what a listing says, with the rows and the places that it stands for
record IsTold (h : Classes) (text : List ℕ) (rows : List ClassLayout) (place : PlaceOf) : Type 0 where
  said : List ClassSaid
  all : AreSaid h text said
  rows_are : rows ≡ cut_rows (exact_rows h said (length h))
  places_are : (c : ClassId) (s : Subobject) → c.0 < length h → Contains (proper (preorder h c)) s → place c s ≡ said_place said c s

told : (h : Classes) → IsHierarchy h → (text : List ℕ) (rows : List ClassLayout) (place : PlaceOf) → ListsLayout h text rows place → IsTold h text rows place
told h keeps text rows place is = record {
  said = saids h keeps text rows is.written place is.listing is.is is.stands;
  all = all h keeps text rows is.written place is.listing is.is is.stands;
  rows_are = rows_are h keeps text rows is.written place is.listing is.is is.stands;
  places_are = places_same h keeps text rows is.written place is.listing is.is is.stands;
}

-- two that a listing stands for are alike
record AreAlike (h : Classes) (rows others : List ClassLayout) (place other : PlaceOf) : Type 0 where
  rows_same : rows ≡ others
  places_same : (c : ClassId) (s : Subobject) → c.0 < length h → Contains (proper (preorder h c)) s → place c s ≡ other c s

alike : (h : Classes) → IsHierarchy h → (text : List ℕ) (rows others : List ClassLayout) (place other : PlaceOf) → ListsLayout h text rows place → ListsLayout h text others other → AreAlike h rows others place other
alike h keeps text rows others place other one two =
    let a = told h keeps text rows place one in
    let b = told h keeps text others other two in
    let same = saids_once h keeps text a.said b.said a.all b.all in
    record {
      rows_same = a.rows_are ∙ ap (λ (said : List ClassSaid). cut_rows (exact_rows h said (length h))) same ∙ sym b.rows_are;
      places_same = λ c s known has. a.places_are c s known has ∙ ap (λ (said : List ClassSaid). said_place said c s) same ∙ sym (b.places_are c s known has);
    }

pub one_layout : (h : Classes) → IsHierarchy h → (text : List ℕ) (rows others : List ClassLayout) → IsForeign h text rows → IsForeign h text others → rows ≡ others
one_layout h keeps text rows others one two = (alike h keeps text rows others one.place two.place one.listed two.listed).rows_same

listed_lines : (h : Classes) → IsHierarchy h → (text : List ℕ) (rows : List ClassLayout) (place : PlaceOf) → ListsLayout h text rows place → AreLines h (listing_lines h) text
listed_lines h keeps text rows place is = let a = told h keeps text rows place is in said_lines h text a.said a.all

-- a sound class keeps each rule
sound_keeps : (h : Classes) (l : Places) (c : ClassId) → IsSoundClass h l c → (rule : SoundRule) → Keeps h l c rule
sound_keeps h l c is sound.Primary = record { direct = is.direct; virtual = is.virtual; held = record { holder = is.holder } }
sound_keeps h l c is sound.Place = record { positive = is.positive; one_place = is.one_place }
sound_keeps h l c is sound.Align = record { aligned = is.aligned; base_multiple = is.base_multiple; object_multiple = is.object_multiple }
sound_keeps h l c is sound.Inside = record { bounded = is.bounded; leaf_inside = is.leaf_inside; pointer_inside = is.pointer_inside; begins_inside = is.begins_inside }
sound_keeps h l c is sound.Overlap = record { leaves_apart = is.leaves_apart; leaf_and_pointer = is.leaf_and_pointer; pointers_apart = is.pointers_apart }
sound_keeps h l c is sound.Twice = record { distinct = is.distinct }

-- and breaks none
breaks_none : (h : Classes) (rows : List ClassLayout) (place : PlaceOf) (c : ClassId) (rule : ListingRule) → IsSoundClass h (places_of h rows) c → AreSums h rows place c → Breaks h rows place c rule → ⊥
breaks_none h rows place c _ is sums (unsound rule broken) = broken (sound_keeps h (places_of h rows) c is rule)
breaks_none h rows place c _ is sums (no_sum s has differs) = differs (sums s has)

breaks_alike : (h : Classes) (rows : List ClassLayout) (place other : PlaceOf) (c : ClassId) (rule : ListingRule) → ((s : Subobject) → Contains (proper (preorder h c)) s → place c s ≡ other c s) → Breaks h rows other c rule → Breaks h rows place c rule
breaks_alike h rows place other c _ same (unsound rule broken) = unsound rule broken
breaks_alike h rows place other c _ same (no_sum s has differs) = no_sum s has (λ e. differs (sym (same s has) ∙ e))

-- the same fault, for rows and places that are alike
fault_alike : (h : Classes) (rows others : List ClassLayout) (place other : PlaceOf) (c : ClassId) (rule : ListingRule) → AreAlike h rows others place other → IsFirstBreach h others other c rule → IsFirstBreach h rows place c rule
fault_alike h rows others place other c rule same is =
    let here : IsFirstBreach h rows other c rule = subst (λ (r : List ClassLayout). IsFirstBreach h r other c rule) (sym same.rows_same) is in
    record {
      known = here.known;
      before = λ d less.
          let both = here.before d less in
          let known : d.0 < length h = let all = here.known in omega arith in
          (both.0, λ s has. same.places_same d s known has ∙ both.1 s has);
      breaks = breaks_alike h rows place other c rule (λ s has. same.places_same c s here.known has) here.breaks;
      least = λ earlier less broken. here.least earlier less (breaks_alike h rows other place c earlier (λ s has. sym (same.places_same c s here.known has)) broken);
    }

pub not_both : (h : Classes) → IsHierarchy h → (text : List ℕ) (rows : List ClassLayout) (stop : ListingStop) → IsForeign h text rows → IsRefused h text stop → ⊥
not_both h keeps text rows _ is (no_listing line fault) = fault.none (listed_lines h keeps text rows is.place is.listed)
not_both h keeps text rows _ is (faulty others other c rule listed first) =
    let here = fault_alike h rows others is.place other c rule (alike h keeps text rows others is.place other is.listed listed) first in
    breaks_none h rows is.place c rule (is.sound.each c here.known) (is.sums c here.known) here.breaks

-- the rule of a number
abbrev rule_at : ℕ → ListingRule
rule_at zero = Form
rule_at (suc zero) = Form
rule_at (suc (suc zero)) = Primary
rule_at (suc (suc (suc zero))) = Place
rule_at (suc (suc (suc (suc zero)))) = Align
rule_at (suc (suc (suc (suc (suc zero))))) = Inside
rule_at (suc (suc (suc (suc (suc (suc zero)))))) = Overlap
rule_at (suc (suc (suc (suc (suc (suc (suc n))))))) = Twice

rule_back : (rule : ListingRule) → rule_at (listing_rule_no rule) ≡ rule
rule_back Form = refl
rule_back Primary = refl
rule_back Place = refl
rule_back Align = refl
rule_back Inside = refl
rule_back Overlap = refl
rule_back Twice = refl

-- of two first faults both are one
fault_once : (h : Classes) (rows : List ClassLayout) (place : PlaceOf) (c d : ClassId) (rule other : ListingRule) → IsFirstBreach h rows place c rule → IsFirstBreach h rows place d other → (c ≡ d) × (rule ≡ other)
fault_once h rows place c d rule other one two = ⊎_elim
    (λ same. at_one (same_id c d same))
    (λ differs. ⊎_elim
    (λ less. let clean = two.before c less in absurd (breaks_none h rows place c rule clean.0 clean.1 one.breaks))
    (λ more. let clean = one.before d more in absurd (breaks_none h rows place d other clean.0 clean.1 two.breaks))
    differs)
    (cases_order c.0 d.0)
  where
    at_one : c ≡ d → (c ≡ d) × (rule ≡ other)
    at_one same = (
      same,
      ⊎_elim
          (λ e. sym (rule_back rule) ∙ ap rule_at e ∙ rule_back other)
          (λ differs. ⊎_elim
          (λ less. absurd (two.least rule less (subst (λ (x : ClassId). Breaks h rows place x rule) same one.breaks)))
          (λ more. absurd (one.least other more (subst (λ (x : ClassId). Breaks h rows place x other) (sym same) two.breaks)))
          differs)
          (cases_order (listing_rule_no rule) (listing_rule_no other)),
    )

-- of two fronts of a list the longer one has the next item
record IsLonger (xs us ys vs : List ListingLine) : Type 0 where
  next : ListingLine
  more : List ListingLine
  us_are : us ≡ xs ++ next ∷ more
  ys_are : ys ≡ next ∷ (more ++ vs)

longer : (xs us ys vs : List ListingLine) → xs ++ ys ≡ us ++ vs → length xs < length us → IsLonger xs us ys vs
longer [] [] ys vs e less = absurd (omega arith)
longer [] (u ∷ us) ys vs e less = record { next = u; more = us; us_are = refl; ys_are = e }
longer (x ∷ xs) [] ys vs e less = absurd (omega arith)
longer (x ∷ xs) (u ∷ us) ys vs e less =
    let first : x ≡ u = cc in
    let rest : xs ++ ys ≡ us ++ vs = cc in
    let is = longer xs us ys vs rest (omega arith) in
    record { next = is.next; more = is.more; us_are = ap (λ (l : ListingLine). l ∷ us) (sym first) ∙ ap (λ (list : List ListingLine). x ∷ list) is.us_are; ys_are = is.ys_are }

begins_less : (h : Classes) (a b : List ListingLine) (text : List ℕ) → BeginsWithLines h (a ++ b) text → BeginsWithLines h a text
begins_less h [] b text begins = tt
begins_less h (line ∷ a) b text begins = record { front = begins.front; rest = begins.rest; is = begins.is; first = begins.first; second = begins_less h a b begins.rest begins.second }

-- no longer front of the lines begins the text
not_longer : (h : Classes) (text : List ℕ) (m n : ℕ) → (one : IsFormFault h text m) (two : IsFormFault h text n) → length one.front < length two.front → ⊥
not_longer h text m n one two less =
    let is = longer one.front two.front one.others two.others (sym one.all ∙ two.all) less in
    let begins : BeginsWithLines h ((one.front ++ is.next ∷ []) ++ is.more) text = subst (λ (lines : List ListingLine). BeginsWithLines h lines text) (is.us_are ∙ sym (append_assoc one.front (is.next ∷ []) is.more)) two.begins in
    one.ends is.next (is.more ++ two.others) is.ys_are (begins_less h (one.front ++ is.next ∷ []) is.more text begins)

form_once : (h : Classes) (text : List ℕ) (m n : ℕ) → IsFormFault h text m → IsFormFault h text n → m ≡ n
form_once h text m n one two = ⊎_elim
    (λ same. let a = one.is in let b = two.is in omega arith)
    (λ differs. ⊎_elim (λ less. absurd (not_longer h text m n one two less)) (λ more. absurd (not_longer h text n m two one more)) differs)
    (cases_order (length one.front) (length two.front))

pub one_stop : (h : Classes) → IsHierarchy h → (text : List ℕ) (stop other : ListingStop) → IsRefused h text stop → IsRefused h text other → stop ≡ other
one_stop h keeps text _ _ (no_listing m one) (no_listing n two) = ap (Bad Form) (form_once h text m n one two)
one_stop h keeps text _ _ (no_listing m one) (faulty rows place c rule listed first) = absurd (one.none (listed_lines h keeps text rows place listed))
one_stop h keeps text _ _ (faulty rows place c rule listed first) (no_listing n two) = absurd (two.none (listed_lines h keeps text rows place listed))
one_stop h keeps text _ _ (faulty rows place c rule listed first) (faulty others other d broken too second) =
    let here = fault_alike h rows others place other d broken (alike h keeps text rows others place other listed too) second in
    let same = fault_once h rows place c d rule broken first here in
    ap (λ (r : ListingRule). Bad r (first_line h c)) same.1 ∙ ap (λ (x : ClassId). Bad broken (first_line h x)) same.0
