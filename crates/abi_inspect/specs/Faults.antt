-- When a text is no dump of a class, and which line of it says so first.
use Rattle.std.specs.Prelude.{◌≡◌, ℕ, ◌<◌, ◌≤◌, true, Some, List, ◌++◌, codes, Contains, length, take}
use Rattle.std.specs.List.{concat}
use Rattle.cxx_hierarchy.specs.declared.records.ClassId.{ClassId}
use Rattle.cxx_hierarchy.specs.Classes.{Class, Classes, class_at, class_names}
use Rattle.cxx_text.specs.OneToken.{IsToken, is_numeral}
use Rattle.cxx_text.specs.declared.token.Kind.TheVariants.{Word}
use Rattle.abi_sound.specs.Places.{Places}
use Rattle.abi_inspect.specs.declared.seen.Seen.{Seen}
use Rattle.abi_inspect.specs.declared.seen.InspectFault.{InspectFault}
use Rattle.abi_inspect.specs.declared.seen.InspectFault.TheVariants.{UnknownClass, Form, NoMemory}
use Rattle.abi_inspect.specs.SeenTexts.{IsFitting, dump_of_seen, dump_lines}

-- the name of each class is a word, as it is in a source (ISO C++03 2.10)
pub record AreNamesWords (h : Classes) : Type 0 where
  pub each : (c : ClassId) (class : Class) → class_at h c ≡ Some class → IsToken class.name Word 0

-- the first line is that of a dump of a class that the hierarchy does not have: its numbers are decimal, of any size, and its name is
-- a word
pub record NamesNoClass (h : Classes) (text : List ℕ) : Type 0 where
  pub number : List ℕ
  pub name : List ℕ
  pub size : List ℕ
  pub rest : List ℕ
  pub is : text ≡ codes "dump #" ++ number ++ codes " " ++ name ++ codes " " ++ size ++ codes "\n" ++ rest
  pub counts : is_numeral number ≡ true
  pub word : IsToken name Word 0
  pub measures : is_numeral size ≡ true
  pub unknown : Contains (class_names h) name → ⊥

-- the text is the dump of these values
pub record IsDumpOf (h : Classes) (l : Places) (seen : Seen) (text : List ℕ) : Type 0 where
  pub fits : IsFitting h l seen
  pub is : text ≡ dump_of_seen h l seen

-- the text begins with so many lines of a dump
pub record BeginsDump (h : Classes) (l : Places) (text : List ℕ) (lines : ℕ) : Type 0 where
  pub seen : Seen
  pub rest : List ℕ
  pub fits : IsFitting h l seen
  pub enough : lines ≤ length (dump_lines h l seen)
  pub is : text ≡ concat (take lines (dump_lines h l seen)) ++ rest

-- the text is no dump, and this is the first line with which it begins none, or the line after the last where lines are missing. Lines
-- count from 1
pub record IsFirstBadLine (h : Classes) (l : Places) (text : List ℕ) (line : ℕ) : Type 0 where
  pub low : 1 ≤ line
  pub none : (seen : Seen) → IsDumpOf h l seen text → ⊥
  pub otherwise : NamesNoClass h text → ⊥
  pub before : (n : ℕ) → 1 ≤ n → n < line → BeginsDump h l text n
  pub here : BeginsDump h l text line → ⊥

-- why a text has no values
abbrev pub IsDumpFault : Classes → Places → List ℕ → InspectFault → Type 0
IsDumpFault h l text UnknownClass = NamesNoClass h text
IsDumpFault h l text (Form line) = IsFirstBadLine h l text line
IsDumpFault h l text NoMemory = Unit {0}
