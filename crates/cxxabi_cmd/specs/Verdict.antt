-- What the passes over a source say of it.
use Rattle.std.specs.Prelude.{◌≡◌, ℕ, ◌<◌, ◌≤◌, Option, Some, Ok, Err, List, [], length}
use Rattle.cxx_text.specs.declared.token.Token.{Token}
use Rattle.cxx_text.specs.Cover.{AreTokens}
use Rattle.cxx_grammar.specs.declared.sort.Lexeme.{Lexeme}
use Rattle.cxx_grammar.specs.Grammar.{source_form}
use Rattle.cxx_grammar.specs.Lexemes.{lexemes, source_start}
use Rattle.cxx_grammar.specs.Event.{DerivesPrefix, Event, at_start}
use Rattle.cxx_hierarchy.specs.declared.records.ClassId.{ClassId}
use Rattle.cxx_hierarchy.specs.declared.stop.Stop.{Stop}
use Rattle.cxx_hierarchy.specs.declared.stop.Stop.TheVariants.{Refused, Limit}
use Rattle.cxx_hierarchy.specs.declared.stop.Rule.TheVariants.{SharedPlace}
use Rattle.cxx_hierarchy.specs.declared.stop.LimitNo.TheVariants.{L6, L7}
use Rattle.cxx_hierarchy.specs.Classes.{Class, Classes, class_at}
use Rattle.cxx_hierarchy.specs.ClassPass.{faults_of, first_of}
use Rattle.cxx_hierarchy.specs.Resolved.{resolved}
use Rattle.cxx_syntax.specs.declared.source_text.SourceText.{SourceText}
use Rattle.cxx_syntax.specs.Sources.{SourceReads}
use Rattle.cxx_overrider.specs.Faults.{Spot, spot, size_part, place_part, IsBefore, Fault as MeaningFault}
use Rattle.cxx_program.specs.declared.program.TypedProgram.{TypedProgram}
use Rattle.cxx_resolve.specs.Programs.{program_of}
use Rattle.abi_sound.specs.declared.class_layout.ClassLayout.{ClassLayout}
use Rattle.abi_sound.specs.Places.{places_of}
use Rattle.abi_tables.specs.Counts.{words_of_all_classes, most_words}
use Rattle.abi_layout.specs.Layouts.{IsLaid}
use Rattle.abi_layout.specs.Refusals.{IsLargeClass, HasSharedPlace}

-- the tokens of the text, up to its end or to the first place where none stands, have these sorts
pub record AreLexemes (text : List ℕ) (all : List Lexeme) : Type 0 where
  pub tokens : List Token
  pub bad : Option ℕ
  pub cover : AreTokens text tokens bad
  pub sorted : all ≡ lexemes text source_start tokens bad

-- the text spells the source: the grammar derives its tokens, and they say the source
pub record SpellsSource (text : List ℕ) (source : SourceText) : Type 0 where
  pub all : List Lexeme
  pub sorts : AreLexemes text all
  pub rest : List Lexeme
  pub derives : DerivesPrefix source_form at_start all rest
  pub reads : SourceReads text source all rest

-- the first event of reading the text
pub record StopsText (text : List ℕ) (stop : Stop) : Type 0 where
  pub all : List Lexeme
  pub sorts : AreLexemes text all
  pub event : Event source_form at_start all stop

-- the condition asked at the spot stops the source: one of the class-meaning pass, the size of a class, or a base of it that
-- brings one class to one place twice
pub data SourceFault (h : Classes) : Spot → Stop → Type 0 where
  of_meaning : (at : Spot) (stop : Stop) → MeaningFault h at stop → SourceFault h at stop
  large : (c : ClassId) → c.0 < length h → IsLargeClass h c → SourceFault h (spot c size_part 0 0) (Limit L6)
  shared : (c : ClassId) (class : Class) → class_at h c ≡ Some class → HasSharedPlace h c → SourceFault h (spot c place_part 0 0) (Refused SharedPlace class.at)

-- a fault, and none is met before it
pub record StopsFirst (h : Classes) (stop : Stop) : Type 0 where
  pub at : Spot
  pub fault : SourceFault h at stop
  pub first : (before : Spot) (other : Stop) → SourceFault h before other → IsBefore before at → ⊥

-- no fault is met
pub record MeetsNoFault (h : Classes) : Type 0 where
  pub none : (at : Spot) (stop : Stop) → SourceFault h at stop → ⊥

-- over their layout, the virtual tables and the VTTs of the classes have more words than the limit
pub record HasManyWords (h : Classes) : Type 0 where
  pub rows : List ClassLayout
  pub laid : IsLaid h rows
  pub many : most_words < words_of_all_classes h (places_of h rows)

-- they are within it
pub record HasFewWords (h : Classes) : Type 0 where
  pub rows : List ClassLayout
  pub laid : IsLaid h rows
  pub few : words_of_all_classes h (places_of h rows) ≤ most_words

-- what is said of a source: where it stops, or that it is accepted, with its classes and what its globals and bodies resolve to
pub data Judgement : Type 0 where
  Stops : Stop → Judgement
  Accepts : SourceText → Classes → TypedProgram → Judgement

-- the passes in their order: the text, the class records, the classes with their counts, meanings, sizes and places, the globals
-- and bodies, and the words of the tables
pub data Verdict (text : List ℕ) : Judgement → Type 0 where
  by_text : (stop : Stop) → StopsText text stop → Verdict text (Stops stop)
  by_records : (source : SourceText) (stop : Stop) → SpellsSource text source → first_of (faults_of source.records) ≡ Some stop → Verdict text (Stops stop)
  by_classes : (source : SourceText) (stop : Stop) → SpellsSource text source → faults_of source.records ≡ [] → StopsFirst (resolved source.records) stop → Verdict text (Stops stop)
  by_bodies : (source : SourceText) (stop : Stop) → SpellsSource text source → faults_of source.records ≡ [] → MeetsNoFault (resolved source.records) →
      program_of (resolved source.records) source ≡ Err stop → Verdict text (Stops stop)
  by_words : (source : SourceText) (program : TypedProgram) → SpellsSource text source → faults_of source.records ≡ [] → MeetsNoFault (resolved source.records) →
      program_of (resolved source.records) source ≡ Ok program → HasManyWords (resolved source.records) → Verdict text (Stops (Limit L7))
  accepted : (source : SourceText) (program : TypedProgram) → SpellsSource text source → faults_of source.records ≡ [] → MeetsNoFault (resolved source.records) →
      program_of (resolved source.records) source ≡ Ok program → HasFewWords (resolved source.records) → Verdict text (Accepts source (resolved source.records) program)
