-- The alignments on LP64, and what is known of components, stages and rows within the limit of sizes.
use Rattle.std.specs.Prelude.{◌≡◌, ℕ, ◌+◌, ◌*◌, ◌<◌, ◌≤◌, ◌⊎◌, false, Some, List, [], ◌∷◌, ◌++◌, length, take}
use Rattle.abi_emptybase.specs.declared.Part.{Part}
use Rattle.abi_emptybase.specs.Table.{holds}
use Rattle.abi_layout.specs.Limits.{size_limit}
pub use Rattle.abi_layout.specs.Limits.{IsAlignment, byte, two_bytes, four_bytes, eight_bytes}
use Rattle.abi_layout.specs.declared.component.Component.{Component}
use Rattle.abi_layout.specs.declared.component.Stage.{Stage}
use Rattle.abi_layout.specs.declared.placing.Placing.{Placing}
use Rattle.abi_layout.specs.Placements.{IsComponentAt, ArePlaced, stage_after_all}

-- no part lies behind a place
abbrev pub LieUpTo : ℕ → List Part → Type 0
LieUpTo end [] = Unit {0}
LieUpTo end (part ∷ parts) = (part.place ≤ end) × LieUpTo end parts

-- a bit-field has data, no class subobject, and no more bits than its type
pub record IsFitWidth (component : Component) (width : ℕ) : Type 0 where
  pub has_data : component.is_empty ≡ false
  pub parts : component.parts ≡ []
  pub most : width ≤ 8 * component.align

-- a component with an alignment, not above the limit of sizes
pub record IsFit (component : Component) : Type 0 where
  pub align : IsAlignment component.align
  pub takes : component.takes ≤ size_limit
  pub parts : LieUpTo component.takes component.parts
  pub width : (width : ℕ) → component.width ≡ Some width → IsFitWidth component width

abbrev pub AreFit : List Component → Type 0
AreFit [] = Unit {0}
AreFit (component ∷ components) = IsFit component × AreFit components

-- none takes more than the limit of sizes
abbrev pub AreLittle : List Component → Type 0
AreLittle [] = Unit {0}
AreLittle (component ∷ components) = (component.takes ≤ size_limit) × AreLittle components

-- the table has the first of the stage's parts, as many as are listed
pub record ListsFirstParts (placing : Placing) : Type 0 where
  pub within : placing.listed ≤ length placing.stage.parts
  pub same : (q : Part) → holds placing.table q ≡ holds (take placing.listed placing.stage.parts) q

-- the table has all parts, or is not asked: the parts are few, or the component has none to ask for
abbrev pub IsTableReady : Placing → Component → Type 0
IsTableReady placing component = (length placing.stage.parts ≤ 8) ⊎ ((component.parts ≡ []) ⊎ (placing.listed ≡ length placing.stage.parts))

abbrev pub with_parts : Stage → List Part → Stage
with_parts stage parts = record { dsize = stage.dsize; free_bit = stage.free_bit; size = stage.size; align = stage.align; parts = stage.parts ++ parts }

-- the free bit is in the last byte of the data or right behind it
pub record HasFreeBit (stage : Stage) : Type 0 where
  pub inside : stage.free_bit ≤ 8 * stage.dsize
  pub last : 8 * stage.dsize < stage.free_bit + 8

-- a stage with an alignment, within the limit of sizes, and the table of its first parts
pub record IsPlacing (placing : Placing) : Type 0 where
  pub table : ListsFirstParts placing
  pub align : IsAlignment placing.stage.align
  pub free_bit : HasFreeBit placing.stage
  pub dsize : placing.stage.dsize ≤ placing.stage.size
  pub size : placing.stage.size ≤ size_limit
  pub parts : LieUpTo placing.stage.size placing.stage.parts

-- wherever the rules place the component, it lies behind the limit
pub record HasNoPlace (stage : Stage) (component : Component) : Type 0 where
  pub past : (place : ℕ) → IsComponentAt stage component place → size_limit < place

-- wherever the rules place the components, the size passes the limit
pub record IsPastLimit (stage : Stage) (components : List Component) : Type 0 where
  pub past : (places : List ℕ) → ArePlaced stage components places → size_limit < (stage_after_all stage components places).size
