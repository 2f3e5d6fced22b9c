-- What is kept of the answers on containment. For the layers above:
--   TellsTruth image known      each answer that is kept is true of the image
-- An answer is kept where no base on the way is virtual: it rests on the image alone, and serves each view of its class.
use Rattle.std.specs.Prelude.{◌≡◌, ℕ, ◌<◌, ◌^◌, true, Option, All}
use Rattle.byte_memory.specs.Store.{Store}
use Rattle.byte_code.specs.Images.{word_at}
use Rattle.byte_code.specs.declared.code.ImageBytes.{ImageBytes}
use Rattle.abi_dyncast.specs.declared.kept.KnownPart.{KnownPart}
use Rattle.abi_dyncast.specs.declared.kept.KnownParts.{KnownParts}
use Rattle.abi_dyncast.specs.Graph.{moved, graph_of, any_edge, LeadsToSome}
use Rattle.abi_dyncast.specs.Casts.{IsPartAtAddress, point_of, complete_view_at}

-- each view of the class, whatever a memory has, has a part of the class so many bytes behind itself; said so that it is a proposition
pub record HasKnownPart (image : ℕ → Option ℕ) (base view_class class distance : ℕ) : Type 0 where
  pub dynamic : 0 < point_of image base view_class
  pub named : (memory : Store) (view_at : ℕ) → view_at < 2 ^ 64 →
      (LeadsToSome (graph_of image memory) any_edge (IsPartAtAddress (graph_of image memory) (moved view_at distance) class) (complete_view_at image base view_at view_class) → ⊥) → ⊥

-- an entry that says that the part is there tells the truth; the others say nothing
abbrev pub IsTrueEntry : (ℕ → Option ℕ) → ℕ → KnownPart → Type 0
IsTrueEntry image base k = k.is_there ≡ true → HasKnownPart image base k.view_class k.class k.distance

abbrev pub TellsTruth : ImageBytes → KnownParts → Type 0
TellsTruth image known = All (IsTrueEntry (word_at image) image.base) known.parts.items
