-- A text stands for a layout, or is refused.
use Rattle.std.proofs.Common.{◌≡◌, ◌∙◌, ℕ, zero, suc, ◌+◌, ◌<◌, ◌≤◌, ◌⊎◌, ⊎_elim, inl, inr, true, false, Option, Some, None, List, [], ◌∷◌, length, refl, sym, ap, subst, arith}
use Rattle.std.specs.Prelude.{slice_get}
use Rattle.foundation.proofs.Deciding.{decide_number}
use Rattle.cxx_hierarchy.specs.declared.records.ClassId.{ClassId}
use Rattle.cxx_hierarchy.specs.Classes.{Classes, class_by_number}
use Rattle.cxx_hierarchy.specs.Hierarchies.{IsHierarchy}
use Rattle.cxx_subobject.specs.declared.Subobject.{Subobject}
use Rattle.abi_sound.specs.declared.class_layout.ClassLayout.{ClassLayout}
use Rattle.abi_sound.specs.Places.{places_of, place_in_class}
use Rattle.abi_judge.specs.declared.rules.SoundRule.{SoundRule}
use Rattle.abi_judge.specs.Rules.{IsFault}
use Rattle.abi_print.specs.LayoutTexts.{proper}
use Rattle.abi_foreign.specs.declared.listing_stop.ListingRule.{ListingRule}
use Rattle.abi_foreign.specs.declared.listing_stop.ListingRule.TheVariants.{Form}
use Rattle.abi_foreign.specs.declared.listing_stop.ListingStop.TheVariants.{Bad}
use Rattle.abi_foreign.specs.declared.said.ClassSaid.{ClassSaid}
use Rattle.abi_foreign.specs.Listings.{cut_rows, IsForeign}
use Rattle.abi_foreign.specs.Refusals.{IsRefused}
use Rattle.abi_foreign.specs.invariants.Said.{AreSaid}
use Rattle.abi_foreign.specs.invariants.Rows.{exact_rows}
use Rattle.abi_foreign.specs.invariants.Sums.{AreSumsOf, HasNoSum}
use Rattle.abi_foreign.specs.invariants.Judged.{least_rule, IsJudged, AreGood}
use Rattle.abi_foreign.proofs.Stands.{said_at}
use Rattle.abi_foreign.proofs.Verdicts.{next, good_next, all_good, bad_class}
use Rattle.abi_judge.proofs.SomeFault.{some_fault}
use Rattle.abi_foreign.proofs.SomeReading.{reading_decided}

-- the layout of a text, or what it is refused for
pub record HasLayout (h : Classes) (text : List ℕ) : Type 0 where
  pub rows : List ClassLayout
  pub is : IsForeign h text rows

pub record HasRefusal (h : Classes) (text : List ℕ) : Type 0 where
  pub rule : ListingRule
  pub line : ℕ
  pub is : IsRefused h text (Bad rule line)

sums_decided : (h : Classes) (rows : List ClassLayout) (c : ClassId) (list : List Subobject) (places : List ℕ) → AreSumsOf h rows c list places ⊎ HasNoSum h rows c list places
sums_decided h rows c [] places = inl (record { each = λ i s place e f. absurd (cc) })
sums_decided h rows c (t ∷ list) [] = inl (record { each = λ i s place e f. absurd (cc) })
sums_decided h rows c (t ∷ list) (p ∷ places) = ⊎_elim
    (λ same. ⊎_elim
    (λ all. inl (record { each = each_more same all.each }))
    (λ none. inr (record { number = suc none.number; s = none.s; place = none.place; there = none.there; said = none.said; other = none.other }))
    (sums_decided h rows c list places))
    (λ differs. inr (record { number = 0; s = t; place = p; there = refl; said = refl; other = differs }))
    (decide_number p (place_in_class h rows c t))
  where
    each_more : p ≡ place_in_class h rows c t → ((i : ℕ) (s : Subobject) (place : ℕ) → slice_get list i ≡ Some s → slice_get places i ≡ Some place → place ≡ place_in_class h rows c s) →
        (i : ℕ) (s : Subobject) (place : ℕ) → slice_get (t ∷ list) i ≡ Some s → slice_get (p ∷ places) i ≡ Some place → place ≡ place_in_class h rows c s
    each_more same each zero s place e f =
        let one : t ≡ s = cc in
        let two : p ≡ place = cc in
        sym two ∙ same ∙ ap (place_in_class h rows c) one
    each_more same each (suc i) s place e f = each i s place e f

-- what a class is judged by
judge : (h : Classes) (rows : List ClassLayout) (c : ClassId) (list : List Subobject) (places : List ℕ) (fault : Option SoundRule) → IsFault h (places_of h rows) c fault → AreSumsOf h rows c list places ⊎ HasNoSum h rows c list places →
    (rule : Option ListingRule) × IsJudged h rows c list places rule
judge h rows c list places fault is (inl sums) = (least_rule fault true, record { fault = fault; has_sums = true; is_fault = is; sums = λ on. sums; no_sum = λ off. absurd (cc); is = refl })
judge h rows c list places fault is (inr none) = (least_rule fault false, record { fault = fault; has_sums = false; is_fault = is; sums = λ on. absurd (cc); no_sum = λ off. none; is = refl })

module _ (h : Classes) (keeps : IsHierarchy h) (text : List ℕ) (saids : List ClassSaid) (all : AreSaid h text saids) where
  judged_next : (n : ℕ) (said : ClassSaid) → n < length h → slice_get saids n ≡ Some said → AreGood h (cut_rows (exact_rows h saids (length h))) saids n → (rule : Option ListingRule) →
      IsJudged h (cut_rows (exact_rows h saids (length h))) (class_by_number n) (proper said.list) said.places rule → AreGood h (cut_rows (exact_rows h saids (length h))) saids (suc n) ⊎ HasRefusal h text
  judged_next n said known e good None judged =
      let one : n + 1 ≡ suc n = omega arith in
      inl (subst (λ (k : ℕ). AreGood h (cut_rows (exact_rows h saids (length h))) saids k) one (good_next h keeps text saids all n said None e good judged refl))
  judged_next n said known e good (Some broken) judged = inr (record { rule = broken; line = said.line; is = bad_class h keeps text saids all n said (Some broken) broken known e good judged refl })

  judged_to : (n : ℕ) → n ≤ length h → AreGood h (cut_rows (exact_rows h saids (length h))) saids n ⊎ HasRefusal h text
  judged_to zero within = inl (record { sound = λ d less. absurd (omega arith); sums = λ d said less e. absurd (omega arith) })
  judged_to (suc n) within = ⊎_elim
      (λ good.
      let said = said_at h keeps text saids all (class_by_number n) (omega arith) in
      let fault = some_fault h keeps (cut_rows (exact_rows h saids (length h))) (class_by_number n) (next h keeps text saids all n (omega arith) good) in
      let rule = judge h (cut_rows (exact_rows h saids (length h))) (class_by_number n) (proper said.0.list) said.0.places fault.0 fault.1 (sums_decided h (cut_rows (exact_rows h saids (length h))) (class_by_number n) (proper said.0.list) said.0.places) in
      judged_next n said.0 (omega arith) said.1 good rule.0 rule.1)
      (λ refused. inr refused)
      (judged_to n (omega arith))

  said_decided : HasLayout h text ⊎ HasRefusal h text
  said_decided = ⊎_elim
      (λ good. inl (record { rows = cut_rows (exact_rows h saids (length h)); is = all_good h keeps text saids all good }))
      (λ refused. inr refused)
      (judged_to (length h) (omega arith))

pub some_answer : (h : Classes) → IsHierarchy h → (text : List ℕ) → HasLayout h text ⊎ HasRefusal h text
some_answer h keeps text = ⊎_elim
    (λ said. said_decided h keeps text said.0 said.1)
    (λ stop. inr (record { rule = Form; line = stop.0; is = stop.1 }))
    (reading_decided h keeps text)
