-- When the block that is next agrees with a move.
use Rattle.std.specs.Prelude.{◌≡◌, Some, List, [], ◌∷◌, slice_get}
use Rattle.path_model.specs.Runs.{Move}
use Rattle.byte_code.specs.declared.code.Block.{Block}
use Rattle.byte_machine.specs.Frames.{MachineFrame}
use Rattle.byte_machine.specs.Leads.{LeadsBlock}
use Rattle.byte_machine.specs.Turn.{ByteState as Bytes, at_block}
use Rattle.agree_relation.specs.Worlds.{World, fixed}
use Rattle.agree_relation.specs.Frames.{PlaceNumbers}
use Rattle.agree_relation.specs.Agrees.{Agrees}

-- the frame on top is at a block of the code, and what the block leads to agrees with the move
pub record BlockLeads (w : World) (at : PlaceNumbers) (b : Bytes) (m : Move) : Type 0 where
  pub top : MachineFrame
  pub below : List MachineFrame
  pub frames : b.frames ≡ top ∷ below
  pub block : Block
  pub there : slice_get w.code.blocks top.block ≡ Some block
  pub leads : LeadsBlock (fixed w) block.ops (at_block b top below [] block.line) (Agrees w at m)
