-- What a class of a listing is judged by.
use Rattle.std.specs.Prelude.{◌≡◌, ℕ, ◌<◌, Bool, true, false, Option, Some, None, List, slice_get}
use Rattle.cxx_hierarchy.specs.declared.records.ClassId.{ClassId}
use Rattle.cxx_hierarchy.specs.Classes.{Classes}
use Rattle.cxx_subobject.specs.declared.Subobject.{Subobject}
use Rattle.abi_sound.specs.declared.class_layout.ClassLayout.{ClassLayout}
use Rattle.abi_sound.specs.Places.{places_of}
use Rattle.abi_judge.specs.declared.rules.SoundRule.{SoundRule}
use Rattle.abi_judge.specs.declared.rules.SoundRule.TheVariants as sound
use Rattle.abi_sound.specs.Sound.{IsSoundClass}
use Rattle.abi_judge.specs.Rules.{IsFault}
use Rattle.abi_print.specs.LayoutTexts.{proper}
use Rattle.abi_foreign.specs.declared.said.ClassSaid.{ClassSaid}
use Rattle.abi_foreign.specs.declared.listing_stop.ListingRule.{ListingRule}
use Rattle.abi_foreign.specs.declared.listing_stop.ListingRule.TheVariants.{Primary, Place}
use Rattle.abi_foreign.specs.Refusals.{rule_of}
use Rattle.abi_foreign.specs.invariants.Sums.{AreSumsOf, HasNoSum}

-- the rule that a class breaks first: that its places are sums is asked after the rule on its primary base
abbrev pub rule_with_sums : SoundRule → Bool → ListingRule
rule_with_sums sound.Primary has_sums = Primary
rule_with_sums sound.Place has_sums = Place
rule_with_sums sound.Align true = rule_of sound.Align
rule_with_sums sound.Align false = Place
rule_with_sums sound.Inside true = rule_of sound.Inside
rule_with_sums sound.Inside false = Place
rule_with_sums sound.Overlap true = rule_of sound.Overlap
rule_with_sums sound.Overlap false = Place
rule_with_sums sound.Twice true = rule_of sound.Twice
rule_with_sums sound.Twice false = Place

abbrev pub least_rule : Option SoundRule → Bool → Option ListingRule
least_rule (Some rule) has_sums = Some (rule_with_sums rule has_sums)
least_rule None true = None
least_rule None false = Some Place

-- the class breaks this rule of a listing first, or none
pub record IsJudged (h : Classes) (rows : List ClassLayout) (c : ClassId) (list : List Subobject) (places : List ℕ) (rule : Option ListingRule) : Type 0 where
  pub fault : Option SoundRule
  pub has_sums : Bool
  pub is_fault : IsFault h (places_of h rows) c fault
  pub sums : has_sums ≡ true → AreSumsOf h rows c list places
  pub no_sum : has_sums ≡ false → HasNoSum h rows c list places
  pub is : rule ≡ least_rule fault has_sums

-- the classes before this number are sound, and their places are sums
pub record AreGood (h : Classes) (rows : List ClassLayout) (saids : List ClassSaid) (n : ℕ) : Type 0 where
  pub sound : (d : ClassId) → d.0 < n → IsSoundClass h (places_of h rows) d
  pub sums : (d : ClassId) (said : ClassSaid) → d.0 < n → slice_get saids d.0 ≡ Some said → AreSumsOf h rows d (proper said.list) said.places
