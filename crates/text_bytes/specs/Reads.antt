-- What has to be known of what a run tells, so that its text is read from memory.
use Rattle.std.specs.Prelude.{◌≡◌, ℕ, ◌+◌, Bool, false, Some, List, Contains, map, slice_get}
use Rattle.cxx_hierarchy.specs.declared.records.ClassId.{ClassId}
use Rattle.cxx_hierarchy.specs.declared.records.ValueType.{ValueType}
use Rattle.path_plan.specs.Phases.{Complete}
use Rattle.path_plan.specs.Views.{Settled}
use Rattle.path_plan.specs.Whole.{whole_part}
use Rattle.path_model.specs.declared.outs.DumpLeaf.{DumpLeaf}
use Rattle.path_model.specs.declared.outs.Out.{Out}
use Rattle.path_model.specs.declared.outs.Out.TheVariants.{Number, Pointer, TypeName, Dump, Call, Built, Ending}
use Rattle.path_model.specs.Values.{Leaf, Objects}
use Rattle.path_model.specs.Outs.{dump_leaf}
use Rattle.path_model.specs.Places.{leaves_of}
use Rattle.path_model.specs.TypedStates.{IsInBitField, IsLeafMade, IsValue, width_of_leaf}
use Rattle.code_ops.specs.Routines.{IsRoutine}
use Rattle.code_ops.specs.Setups.{FunctionCode}
use Rattle.agree_relation.specs.Worlds.{World, world_classes}
use Rattle.text_told.specs.OutTexts.{IsTold, outs_to_show}

-- leaves hold values of their types, and a bit-field what its bits can hold
pub record HasTypedLeaves (w : World) (s : Objects) : Type 0 where
  pub leaf : (a : Leaf) (t : ValueType ClassId) → IsLeafMade (world_classes w) s.classes a t → IsValue (world_classes w) s.classes (s.leaf a) t
  pub held : (a : Leaf) (t : ValueType ClassId) → IsLeafMade (world_classes w) s.classes a t → IsInBitField (width_of_leaf (world_classes w) a) (s.leaf a) t

-- a dump tells the leaves of an open and complete object, as they are
pub record DumpsObject (w : World) (s : Objects) (number : ℕ) (c : ClassId) (leaves : List DumpLeaf) : Type 0 where
  pub object : ℕ
  pub number_is : number ≡ object + 1
  pub class : slice_get s.classes object ≡ Some c
  pub is_open : s.is_closed object ≡ false
  pub complete : s.phases.phase (whole_part object c) ≡ Complete
  pub settled : Settled (world_classes w) object s.phases
  pub leaves_are : leaves ≡ map (dump_leaf s) (leaves_of (world_classes w) c (whole_part object c))

-- a dump is one of the state, and a called function has a body
abbrev pub IsToldBy : World → Objects → Out → Type 0
IsToldBy w s (Number z) = Unit {0}
IsToldBy w s (Pointer at) = Unit {0}
IsToldBy w s (TypeName c) = Unit {0}
IsToldBy w s (Dump number c leaves) = DumpsObject w s number c leaves
IsToldBy w s (Call f at) = IsRoutine w.setup (FunctionCode f)
IsToldBy w s (Built c at) = Unit {0}
IsToldBy w s (Ending c at) = Unit {0}

-- what is told names parts that are there, and is of the state
pub record IsToldOf (w : World) (s : Objects) (out : Out) : Type 0 where
  pub told : IsTold (world_classes w) out
  pub of : IsToldBy w s out

-- each that is shown, with or without a trace, is
abbrev pub AreShownOf : Bool → World → Objects → List Out → Type 0
AreShownOf trace w s outs = (out : Out) → Contains (outs_to_show trace outs) out → IsToldOf w s out
