-- What is wrong with a listing, and what is told of it.
use Rattle.std.specs.Prelude.{◌≡◌, ℕ, ◌+◌, ◌<◌, Contains, List, [], ◌∷◌, ◌++◌, length}
use Rattle.cxx_hierarchy.specs.declared.records.ClassId.{ClassId}
use Rattle.cxx_hierarchy.specs.Classes.{Classes}
use Rattle.cxx_subobject.specs.declared.Subobject.{Subobject}
use Rattle.cxx_subobject.specs.Preorder.{preorder}
use Rattle.abi_sound.specs.declared.class_layout.ClassLayout.{ClassLayout}
use Rattle.abi_sound.specs.Places.{places_of}
use Rattle.abi_sound.specs.Sound.{IsSoundClass}
use Rattle.abi_judge.specs.declared.rules.SoundRule.{SoundRule}
use Rattle.abi_judge.specs.declared.rules.SoundRule.TheVariants as sound
use Rattle.abi_judge.specs.Rules.{Keeps}
use Rattle.abi_print.specs.LayoutTexts.{proper}
use Rattle.abi_print.specs.Texts.{PlaceOf}
use Rattle.abi_foreign.specs.declared.listing_stop.ListingRule.{ListingRule}
use Rattle.abi_foreign.specs.declared.listing_stop.ListingRule.TheVariants.{Form, Primary, Place, Align, Inside, Overlap, Twice}
use Rattle.abi_foreign.specs.declared.listing_stop.ListingStop.{ListingStop}
use Rattle.abi_foreign.specs.declared.listing_stop.ListingStop.TheVariants.{Bad}
use Rattle.abi_foreign.specs.Lines.{ListingLine, listing_lines, first_line, AreLines, BeginsWithLines}
use Rattle.abi_foreign.specs.Listings.{ListsLayout, AreSums}

-- the number of a rule
abbrev pub listing_rule_no : ListingRule → ℕ
listing_rule_no Form = 1
listing_rule_no Primary = 2
listing_rule_no Place = 3
listing_rule_no Align = 4
listing_rule_no Inside = 5
listing_rule_no Overlap = 6
listing_rule_no Twice = 7

-- the rule of a listing that asks for what a rule of sound layouts asks for
abbrev pub rule_of : SoundRule → ListingRule
rule_of sound.Primary = Primary
rule_of sound.Place = Place
rule_of sound.Align = Align
rule_of sound.Inside = Inside
rule_of sound.Overlap = Overlap
rule_of sound.Twice = Twice

-- the text is not the lines of a listing; the number is, from 1, that of the first line that is not of the form that stands at
-- its place, of the first one too many, or of the first one that is missing
pub record IsFormFault (h : Classes) (text : List ℕ) (number : ℕ) : Type 0 where
  pub front : List ListingLine
  pub others : List ListingLine
  pub all : listing_lines h ≡ front ++ others
  pub is : number ≡ length front + 1
  pub begins : BeginsWithLines h front text
  pub ends : (line : ListingLine) (rest : List ListingLine) → others ≡ line ∷ rest → BeginsWithLines h (front ++ line ∷ []) text → ⊥
  pub none : AreLines h (listing_lines h) text → ⊥

-- what the class c of a listing breaks: a rule of sound layouts, or that each place is the sum along its path
pub data Breaks (h : Classes) (rows : List ClassLayout) (place : PlaceOf) (c : ClassId) : ListingRule → Type 0 where
  unsound : (rule : SoundRule) → (Keeps h (places_of h rows) c rule → ⊥) → Breaks h rows place c (rule_of rule)
  no_sum : (s : Subobject) → Contains (proper (preorder h c)) s → (place c s ≡ (places_of h rows).place c s → ⊥) → Breaks h rows place c Place

-- the class is the first that breaks a rule, and this is the least rule that it breaks
pub record IsFirstBreach (h : Classes) (rows : List ClassLayout) (place : PlaceOf) (c : ClassId) (rule : ListingRule) : Type 0 where
  pub known : c.0 < length h
  pub before : (d : ClassId) → d.0 < c.0 → IsSoundClass h (places_of h rows) d × AreSums h rows place d
  pub breaks : Breaks h rows place c rule
  pub least : (other : ListingRule) → listing_rule_no other < listing_rule_no rule → Breaks h rows place c other → ⊥

-- what is told of a listing that stands for no sound layout: the fault of form, before all else; or the first fault of a class,
-- with the first line of that class
pub data IsRefused (h : Classes) (text : List ℕ) : ListingStop → Type 0 where
  no_listing : (line : ℕ) → IsFormFault h text line → IsRefused h text (Bad Form line)
  faulty : (rows : List ClassLayout) (place : PlaceOf) (c : ClassId) (rule : ListingRule) → ListsLayout h text rows place → IsFirstBreach h rows place c rule → IsRefused h text (Bad rule (first_line h c))
