-- When what a block leads to agrees with a move of the subobject machine.
use Rattle.std.specs.Prelude.{◌≡◌, ℕ, ◌+◌, Some, None, List, [], ◌∷◌, ◌++◌, slice_get}
use Rattle.cxx_hierarchy.specs.declared.records.ClassId.{ClassId}
use Rattle.cxx_hierarchy.specs.Stops.{limit_no}
use Rattle.cxx_subobject.specs.declared.Location.{Location}
use Rattle.path_rules.specs.Rules.{undefined_no}
use Rattle.path_model.specs.declared.outs.Out.{Out}
use Rattle.path_model.specs.declared.outs.Out.TheVariants.{Number as NumberOut, Pointer as PointerOut, TypeName as TypeNameOut, Dump as DumpOut, Call as CallOut, Built as BuiltOut, Ending as EndingOut}
use Rattle.path_model.specs.States.{ProgramState}
use Rattle.path_model.specs.Runs.{Move, Moves, IsRefused, IsLimited, IsOver, IsWrong}
use Rattle.abi_sound.specs.Locations.{place_along_hops}
use Rattle.byte_machine.specs.declared.turn.RawOut.{RawOut}
use Rattle.byte_machine.specs.declared.turn.RawOut.TheVariants.{Number, Address, Class, Dump, Call, Built, Ending}
use Rattle.byte_machine.specs.declared.turn.MachineTurn.{MachineTurn}
use Rattle.byte_machine.specs.declared.turn.MachineTurn.TheVariants.{Went, Ended, Refused, Limit}
use Rattle.byte_machine.specs.Running.{Running}
use Rattle.agree_parts.specs.Heaps.{Heap, object_start}
use Rattle.agree_parts.specs.Placed.{LieIn}
use Rattle.code_blocks.specs.Blocks.{routine_start}
use Rattle.code_ops.specs.Setups.{FunctionCode}
use Rattle.agree_relation.specs.Worlds.{World, world_classes, places_in}
use Rattle.agree_relation.specs.Words.{heap_of}
use Rattle.agree_relation.specs.Frames.{PlaceNumbers}
use Rattle.agree_relation.specs.Stands.{StateStands}

-- the address of a location: where its object starts, and its place there
pub record LiesAt (w : World) (g : Heap) (at : Location) (address : ℕ) : Type 0 where
  pub object : ℕ
  pub number : at.object ≡ object + 1
  pub class : slice_get g.classes object ≡ Some at.class
  pub is : address ≡ object_start g object + place_along_hops (world_classes w) (places_in w) at.class at.hops

-- the address lies in the object of this number, which is of class c; its leaves are read there
pub record IsDumpedAt (w : World) (g : Heap) (number : ℕ) (c : ClassId) (address : ℕ) : Type 0 where
  pub object : ℕ
  pub number_is : number ≡ object + 1
  pub class : slice_get g.classes object ≡ Some c
  pub inside : LieIn (places_in w) g object address 1

-- what the machine tells reads as what a run tells
abbrev pub ReadsAs : World → PlaceNumbers → Heap → RawOut → Out → Type 0
ReadsAs w at g (Number z) (NumberOut y) = z ≡ y
ReadsAs w at g (Address a) (PointerOut None) = a ≡ 0
ReadsAs w at g (Address a) (PointerOut (Some location)) = LiesAt w g location a
ReadsAs w at g (Class c) (TypeNameOut d) = c ≡ d.0
ReadsAs w at g (Dump a) (DumpOut number c leaves) = IsDumpedAt w g number c a
ReadsAs w at g (Call block this) (CallOut f location) = (block ≡ at (routine_start w.setup (FunctionCode f))) × LiesAt w g location this
ReadsAs w at g (Built c this) (BuiltOut d location) = (c ≡ d.0) × LiesAt w g location this
ReadsAs w at g (Ending c this) (EndingOut d location) = (c ≡ d.0) × LiesAt w g location this
ReadsAs w at g raw out = ⊥

-- item by item
abbrev pub ReadAs : World → PlaceNumbers → Heap → List RawOut → List Out → Type 0
ReadAs w at g [] [] = Unit {0}
ReadAs w at g [] (out ∷ outs) = ⊥
ReadAs w at g (raw ∷ told) [] = ⊥
ReadAs w at g (raw ∷ told) (out ∷ outs) = ReadsAs w at g raw out × ReadAs w at g told outs

-- what ops work on stands for a state
abbrev pub StandsNow : World → PlaceNumbers → ProgramState → Running → Type 0
StandsNow w at s new = StateStands w at s new.memory new.objects new.heap new.notes new.globals (new.opened ++ new.top ∷ new.below) new.calls

-- what a block leads to agrees with a move, where nothing was told before the block
abbrev pub Agrees : World → PlaceNumbers → Move → Running → MachineTurn → Type 0
Agrees w at (Moves s outs) new turn = StandsNow w at s new × ReadAs w at (heap_of s.objects.classes new.memory.regions) new.outs outs × (turn ≡ Went)
Agrees w at (IsRefused rule line) new turn = turn ≡ Refused (undefined_no rule) line
Agrees w at (IsLimited limit) new turn = turn ≡ Limit (limit_no limit)
Agrees w at IsOver new turn = turn ≡ Ended
Agrees w at IsWrong new turn = ⊥
