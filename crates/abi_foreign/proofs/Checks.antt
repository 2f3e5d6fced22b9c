-- The judgement of the rows that were made of a listing.
use Rattle.std.proofs.Common.{◌≡◌, ◌∙◌, ℕ, ◌+◌, ◌<◌, ◌≤◌, Option, Some, None, List, length, sym, ap, subst, arith}
use Rattle.std.specs.Prelude.{slice_get}
use Rattle.cxx_hierarchy.specs.Classes.{Classes, class_by_number}
use Rattle.cxx_hierarchy.specs.Hierarchies.{IsHierarchy}
use Rattle.abi_sound.specs.declared.class_layout.ClassLayout.{ClassLayout}
use Rattle.abi_judge.specs.Rules.{MayBeJudged}
use Rattle.abi_print.specs.LayoutTexts.{proper}
use Rattle.abi_foreign.specs.declared.listing_stop.ListingRule.{ListingRule}
use Rattle.abi_foreign.specs.declared.listing_stop.ListingStop.TheVariants as stops
use Rattle.abi_foreign.specs.declared.said.ClassSaid.{ClassSaid}
use Rattle.abi_foreign.specs.Listings.{cut_rows, IsForeign}
use Rattle.abi_foreign.specs.Refusals.{IsRefused}
use Rattle.abi_foreign.specs.invariants.Said.{AreSaid}
use Rattle.abi_foreign.specs.invariants.Rows.{exact_rows}
use Rattle.abi_foreign.specs.invariants.Judged.{IsJudged, AreGood}
use Rattle.abi_foreign.proofs.Verdicts.{next, good_next, all_good, bad_class}

pub none_good : (h : Classes) (rows : List ClassLayout) (saids : List ClassSaid) → AreGood h rows saids 0
none_good h rows saids = record { sound = λ d less. absurd (omega arith); sums = λ d said less e. absurd (omega arith) }

module _ (h : Classes) (keeps : IsHierarchy h) (text : List ℕ) (saids : List ClassSaid) (all : AreSaid h text saids) (rows : List ClassLayout) (are : rows ≡ cut_rows (exact_rows h saids (length saids))) where
  of_all : cut_rows (exact_rows h saids (length h)) ≡ rows
  of_all = sym (are ∙ ap (λ (n : ℕ). cut_rows (exact_rows h saids n)) all.count)

  pub next_of : (n : ℕ) → n < length h → AreGood h rows saids n → MayBeJudged h rows (class_by_number n)
  next_of n known = subst (λ (r : List ClassLayout). AreGood h r saids n → MayBeJudged h r (class_by_number n)) of_all (next h keeps text saids all n known)

  pub good_of : (n : ℕ) (said : ClassSaid) (rule : Option ListingRule) → slice_get saids n ≡ Some said → AreGood h rows saids n → IsJudged h rows (class_by_number n) (proper said.list) said.places rule → rule ≡ None → AreGood h rows saids (n + 1)
  good_of n said rule e = subst (λ (r : List ClassLayout). AreGood h r saids n → IsJudged h r (class_by_number n) (proper said.list) said.places rule → rule ≡ None → AreGood h r saids (n + 1)) of_all (good_next h keeps text saids all n said rule e)

  pub layout_of : (n : ℕ) → length h ≤ n → n ≤ length h → AreGood h rows saids n → IsForeign h text rows
  layout_of n past within good =
      let same : n ≡ length h = omega arith in
      subst (λ (r : List ClassLayout). AreGood h r saids (length h) → IsForeign h text r) of_all (all_good h keeps text saids all) (subst (λ (k : ℕ). AreGood h rows saids k) same good)

  pub refused_of : (n : ℕ) (said : ClassSaid) (rule : Option ListingRule) (broken : ListingRule) → n < length h → slice_get saids n ≡ Some said → AreGood h rows saids n → IsJudged h rows (class_by_number n) (proper said.list) said.places rule → rule ≡ Some broken →
      IsRefused h text (stops.Bad broken said.line)
  refused_of n said rule broken known e = subst (λ (r : List ClassLayout). AreGood h r saids n → IsJudged h r (class_by_number n) (proper said.list) said.places rule → rule ≡ Some broken → IsRefused h text (stops.Bad broken said.line)) of_all
      (bad_class h keeps text saids all n said rule broken known e)
