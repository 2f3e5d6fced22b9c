-- What a walk over the parts keeps.
use Rattle.std.specs.Prelude.{◌≡◌, ℕ, ◌+◌, ◌≤◌, Option, List, ◌++◌, length, sum_by, Contains}
use Rattle.byte_memory.specs.Store.{Store}
use Rattle.abi_dyncast.specs.declared.parts.TypedPart.{TypedPart}
use Rattle.abi_dyncast.specs.declared.work.Goal.{Goal}
use Rattle.abi_dyncast.specs.declared.work.Entry.{Entry}
use Rattle.abi_dyncast.specs.Graph.{Graph, graph_of, any_edge, LeadsByEdges}
use Rattle.abi_dyncast.specs.Casts.{AreClosedParts, CanReadParts, HasAllBelow, edges_of}
use Rattle.abi_dyncast.specs.invariants.Chain.{IsMet}
use Rattle.abi_dyncast.specs.invariants.Finding.{IsOfTarget, TellsBelow}

-- what is kept of each part is right, and with a part all parts of the target class below it are there
pub record AreDone (g : Graph) (goal : Goal) (entries : List Entry) : Type 0 where
  pub class : (e : Entry) → Contains entries e → e.class ≡ g.class e.part
  pub tells : (e : Entry) → Contains entries e → TellsBelow g goal e.part e.found
  pub targets : (part end : TypedPart) → IsMet entries part → LeadsByEdges g any_edge part end → IsOfTarget g goal end → IsMet entries end

-- how many edges leave the parts that were met
abbrev pub edges_from : Graph → List Entry → ℕ
edges_from g entries = sum_by (λ (e : Entry). g.count e.part) entries

-- a walk reads the record of a base at most once for each edge of the parts that it adds
pub record HasRead (g : Graph) (old new : List Entry) (before after : ℕ) : Type 0 where
  pub more : before ≤ after
  pub few : after + edges_from g old ≤ before + edges_from g new

-- a whole walk reads the record of a base at most once for each edge of the view
pub record ReadsAtMost (g : Graph) (view : TypedPart) (before after : ℕ) : Type 0 where
  pub more : before ≤ after
  pub few : (parts : List TypedPart) → HasAllBelow g view parts → after ≤ before + edges_of g parts

-- a walk from a part can begin
pub record MayBeginWalk (image : ℕ → Option ℕ) (memory : Store) (goal : Goal) (room : ℕ) (entries : List Entry) (part : TypedPart) : Type 0 where
  pub parts : List TypedPart
  pub are : AreClosedParts (graph_of image memory) parts
  pub read : CanReadParts image memory parts
  pub has : Contains parts part
  pub few : length parts ≤ room
  pub inside : (other : TypedPart) → IsMet entries other → Contains parts other
  pub done : AreDone (graph_of image memory) goal entries

-- what a walk from a part does: it adds the part and parts below it, all of the target class, as far as they are not there
pub record Visited (g : Graph) (goal : Goal) (part : TypedPart) (old new : List Entry) : Type 0 where
  pub more : List Entry
  pub is : new ≡ old ++ more
  pub low : (other : TypedPart) → IsMet more other → g.class other ≤ g.class part
  pub below : (other : TypedPart) → IsMet more other → LeadsByEdges g any_edge part other
  pub met : (end : TypedPart) → LeadsByEdges g any_edge part end → IsOfTarget g goal end → IsMet new end
  pub done : AreDone g goal new
