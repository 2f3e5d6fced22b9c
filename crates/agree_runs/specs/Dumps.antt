-- When a dump tells the leaves of a heap object in a state.
use Rattle.std.specs.Prelude.{◌≡◌, ℕ, ◌+◌, false, Some, List, [], ◌∷◌, map, slice_get}
use Rattle.cxx_hierarchy.specs.declared.records.ClassId.{ClassId}
use Rattle.cxx_hierarchy.specs.Classes.{Classes}
use Rattle.path_plan.specs.Phases.{Complete}
use Rattle.path_plan.specs.Whole.{whole_part}
use Rattle.path_model.specs.declared.outs.DumpLeaf.{DumpLeaf}
use Rattle.path_model.specs.declared.outs.Out.{Out}
use Rattle.path_model.specs.declared.outs.Out.TheVariants.{Dump as DumpOut}
use Rattle.path_model.specs.Values.{Objects}
use Rattle.path_model.specs.Places.{leaves_of}
use Rattle.path_model.specs.Outs.{dump_leaf}

-- a dump of an open and complete object, with its leaves as they are in the state; nothing else is told in its step
pub record TellsDump (h : Classes) (s : Objects) (outs : List Out) (number : ℕ) (c : ClassId) (leaves : List DumpLeaf) : Type 0 where
  pub object : ℕ
  pub number_is : number ≡ object + 1
  pub class : slice_get s.classes object ≡ Some c
  pub leaves_are : leaves ≡ map (dump_leaf s) (leaves_of h c (whole_part object c))
  pub open_there : s.is_closed object ≡ false
  pub complete : s.phases.phase (whole_part object c) ≡ Complete
  pub alone : outs ≡ DumpOut number c leaves ∷ []
