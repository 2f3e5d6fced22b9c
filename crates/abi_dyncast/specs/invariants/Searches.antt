-- What a search for the source keeps.
use Rattle.std.specs.Prelude.{◌≡◌, ◌↔◌, ℕ, ◌≤◌, Bool, true, Option, List, ◌++◌, length, Contains}
use Rattle.byte_memory.specs.Store.{Store}
use Rattle.abi_dyncast.specs.declared.parts.TypedPart.{TypedPart}
use Rattle.abi_dyncast.specs.declared.work.Goal.{Goal}
use Rattle.abi_dyncast.specs.declared.work.Entry.{Entry}
use Rattle.abi_dyncast.specs.Graph.{Graph, graph_of, any_edge, LeadsByEdges, LeadsToSome}
use Rattle.abi_dyncast.specs.Casts.{AreClosedParts, CanReadParts}
use Rattle.abi_dyncast.specs.invariants.Chain.{IsMet}
use Rattle.abi_dyncast.specs.invariants.Finding.{IsSource}

-- whether the source is a part or lies below it
pub record TellsOfSource (g : Graph) (goal : Goal) (part : TypedPart) (found : Bool) : Type 0 where
  pub source : (found ≡ true) ↔ LeadsToSome g any_edge (IsSource g goal) part

-- the source is none of the parts that were passed, and lies below none
pub record AreWithout (g : Graph) (goal : Goal) (entries : List Entry) : Type 0 where
  pub without : (part : TypedPart) → IsMet entries part → LeadsToSome g any_edge (IsSource g goal) part → ⊥

-- a search from a part can begin
pub record MayBeginSearch (image : ℕ → Option ℕ) (memory : Store) (goal : Goal) (room : ℕ) (entries : List Entry) (part : TypedPart) : Type 0 where
  pub parts : List TypedPart
  pub are : AreClosedParts (graph_of image memory) parts
  pub read : CanReadParts image memory parts
  pub has : Contains parts part
  pub few : length parts ≤ room
  pub inside : (other : TypedPart) → IsMet entries other → Contains parts other
  pub clear : AreWithout (graph_of image memory) goal entries

-- all that lies below a part can be read
pub record MayDescend (image : ℕ → Option ℕ) (memory : Store) (part : TypedPart) : Type 0 where
  pub parts : List TypedPart
  pub are : AreClosedParts (graph_of image memory) parts
  pub read : CanReadParts image memory parts
  pub has : Contains parts part

-- a part leads to another, in which the source lies if it lies in the part
pub record LeadsOnlyTo (g : Graph) (goal : Goal) (part low : TypedPart) : Type 0 where
  pub leads : LeadsByEdges g any_edge part low
  pub all : LeadsToSome g any_edge (IsSource g goal) part → LeadsToSome g any_edge (IsSource g goal) low

-- what a search from a part does: it adds parts below it, those below which the source does not lie
pub record Searched (g : Graph) (goal : Goal) (part : TypedPart) (old new : List Entry) : Type 0 where
  pub more : List Entry
  pub is : new ≡ old ++ more
  pub low : (other : TypedPart) → IsMet more other → g.class other ≤ g.class part
  pub below : (other : TypedPart) → IsMet more other → LeadsByEdges g any_edge part other
  pub clear : AreWithout g goal new
