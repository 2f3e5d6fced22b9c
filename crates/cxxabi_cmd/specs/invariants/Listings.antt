-- What is known of an accepted source, and how the listing of classes is put together.
use Rattle.std.specs.Prelude.{◌≡◌, ℕ, ◌<◌, ◌≤◌, Contains, Some, List, [], ◌∷◌, ◌++◌, length, slice_get}
use Rattle.std.specs.Option.{is_some}
use Rattle.cxx_hierarchy.specs.declared.records.ClassId.{ClassId}
use Rattle.cxx_hierarchy.specs.declared.stop.Rule.TheVariants.{UnknownName}
use Rattle.cxx_hierarchy.specs.Classes.{Classes, class_names}
use Rattle.cxx_overrider.specs.Overriders.{AreOverriders}
use Rattle.cxx_program.specs.Typed.{IsTypedProgram}
use Rattle.path_model.specs.States.{is_body}
use Rattle.abi_sound.specs.declared.class_layout.ClassLayout.{ClassLayout}
use Rattle.abi_sound.specs.Places.{places_of}
use Rattle.abi_slots.specs.Slots.{AreSlots}
use Rattle.abi_tables.specs.Counts.{words_of_all_classes, most_words}
use Rattle.abi_layout.specs.AbiLayouts.{IsAbiLayout}
use Rattle.abi_inspect.specs.Faults.{AreNamesWords}
use Rattle.abi_lower.specs.Bounds.{IsSmall}
use Rattle.cxxabi_cmd.specs.declared.listing.Listing.{Listing}
use Rattle.cxxabi_cmd.specs.declared.status.Status.TheVariants.{Refused}
use Rattle.cxxabi_cmd.specs.declared.verdict.Accepted.{Accepted}
use Rattle.text_told.specs.Told.{text_limit}
use Rattle.cxxabi_cmd.specs.Output.{Answer, IsClassText, AreTexts, Lists, line_alone}

-- the layout, the final overriders, and what the classes list for their tables are those of the classes, whose names are words, and
-- the tables are within the limit; the program is typed, has a main where the source has one, and is small enough to be lowered
pub record IsReady (accepted : Accepted) : Type 0 where
  pub words : AreNamesWords accepted.hierarchy
  pub layout : IsAbiLayout accepted.hierarchy accepted.layout
  pub overriders : AreOverriders accepted.hierarchy accepted.overriders
  pub slots : AreSlots accepted.hierarchy (places_of accepted.hierarchy accepted.layout) accepted.slots
  pub typed : IsTypedProgram accepted.hierarchy accepted.program
  pub main : is_body accepted.program.main ≡ is_some accepted.source.main
  pub few_words : words_of_all_classes accepted.hierarchy (places_of accepted.hierarchy accepted.layout) ≤ most_words
  pub small : IsSmall accepted.program

-- behind what was there stands the text of a class
pub record IsAppended (h : Classes) (rows : List ClassLayout) (listing : Listing) (c : ClassId) (before after : List ℕ) : Type 0 where
  pub piece : List ℕ
  pub is : IsClassText h rows listing c piece
  pub joined : after ≡ before ++ piece

-- the texts of classes, within the limit
pub record AreListedTexts (h : Classes) (rows : List ClassLayout) (listing : Listing) (classes : List ClassId) (text : List ℕ) : Type 0 where
  pub are : AreTexts h rows listing classes text
  pub short : length text ≤ text_limit

-- the texts of classes pass the limit
pub record IsTooMuch (h : Classes) (rows : List ClassLayout) (listing : Listing) (classes : List ClassId) : Type 0 where
  pub text : List ℕ
  pub are : AreTexts h rows listing classes text
  pub past : text_limit < length text

-- what is answered where the class of a name is listed, for a source of so many bytes
pub data ListsName (size : ℕ) (h : Classes) (listing : Listing) (name : List ℕ) : Answer → Type 0 where
  is_unknown : (Contains (class_names h) name → ⊥) → ListsName size h listing name (line_alone (Refused UnknownName size))
  is_class : (c : ClassId) (answer : Answer) → slice_get (class_names h) c.0 ≡ Some name → Lists h listing (c ∷ []) answer → ListsName size h listing name answer
