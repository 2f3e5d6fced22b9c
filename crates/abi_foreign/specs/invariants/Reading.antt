-- Lines that were read from the front of a text.
use Rattle.std.specs.Prelude.{◌≡◌, ℕ, ◌+◌, ◌<◌, ◌≤◌, ◌^◌, List, ◌∷◌, ◌++◌, length}
use Rattle.cxx_hierarchy.specs.Classes.{Classes}
use Rattle.abi_foreign.specs.declared.listing_stop.ListingStop.{ListingStop}
use Rattle.abi_foreign.specs.declared.listing_stop.ListingStop.TheVariants.{Bad, NoMemory}
use Rattle.abi_foreign.specs.declared.listing_stop.ListingRule.TheVariants.{Form}
use Rattle.abi_foreign.specs.Lines.{ListingLine, IsLine, AreLines, BeginsWithLines}

-- the text begins with the line, in one way, and the rest follows
pub record IsRead (h : Classes) (line : ListingLine) (text rest : List ℕ) : Type 0 where
  pub front : List ℕ
  pub is : text ≡ front ++ rest
  pub form : IsLine h line front
  pub only : (other after : List ℕ) → text ≡ other ++ after → IsLine h line other → after ≡ rest
  pub shorter : length rest < length text

-- the text does not begin with the line
abbrev pub IsNoLine : Classes → ListingLine → List ℕ → Type 0
IsNoLine h line text = (front rest : List ℕ) → text ≡ front ++ rest → IsLine h line front → ⊥

-- the text begins with the lines, in one way, and the rest follows
pub record IsReadTo (h : Classes) (lines : List ListingLine) (text rest : List ℕ) : Type 0 where
  pub front : List ℕ
  pub is : text ≡ front ++ rest
  pub forms : AreLines h lines front
  pub only : (others : List ListingLine) → BeginsWithLines h (lines ++ others) text → BeginsWithLines h others rest
  pub whole : (others : List ListingLine) → AreLines h (lines ++ others) text → AreLines h others rest
  pub shorter : length lines + length rest ≤ length text

-- so many of the lines are read from the text, and the next one is not there
pub record IsStuck (h : Classes) (lines : List ListingLine) (text : List ℕ) (n : ℕ) : Type 0 where
  pub front : List ListingLine
  pub line : ListingLine
  pub others : List ListingLine
  pub rest : List ℕ
  pub split : lines ≡ front ++ line ∷ others
  pub read : IsReadTo h front text rest
  pub none : IsNoLine h line rest
  pub is : n ≡ length front

-- what reading the lines, of which the first has this number, is stopped by
pub data StopsReading (h : Classes) (lines : List ListingLine) (text : List ℕ) (number : ℕ) : ListingStop → Type 0 where
  no_memory : StopsReading h lines text number NoMemory
  stuck : (n : ℕ) → IsStuck h lines text n → StopsReading h lines text number (Bad Form (number + n))

-- a line number and what is left have so much room that each line that follows has a number
abbrev pub HasRoomForLines : ℕ → List ℕ → Type 0
HasRoomForLines number rest = number + length rest < 2 ^ 32
