-- What a run tells of leaves as a dump, and when runs by two layouts tell one text.
use Rattle.std.specs.Prelude.{◌≡◌, ◌<◌, ℕ, Some, Contains, length, map, slice_get}
use Rattle.cxx_hierarchy.specs.declared.records.ClassId.{ClassId}
use Rattle.cxx_hierarchy.specs.Classes.{Classes}
use Rattle.cxx_subobject.specs.Locations.{ObjectPart}
use Rattle.path_plan.specs.Whole.{whole_part}
use Rattle.path_model.specs.Values.{Leaf, Objects, Pointer}
use Rattle.path_model.specs.Outs.{dump_leaf, location_of}
use Rattle.path_model.specs.Places.{leaves_of}
use Rattle.text_told.specs.Fields.{NamesPart}
use Rattle.text_told.specs.Dumps.{AreDumpedLeaves}
use Rattle.cxx_hierarchy.specs.declared.stop.LimitNo.TheVariants.{L8}
use Rattle.cxx_program.specs.declared.program.TypedProgram.{TypedProgram}
use Rattle.path_model.specs.declared.outs.Out.{Out}
use Rattle.path_model.specs.Runs.{LimitMet, run_of}
use Rattle.abi_sound.specs.Places.{Places}
use Rattle.text_told.specs.OutTexts.{printed}
use Rattle.text_told.specs.Layouts.{TellsNoPlace}

-- the leaves of a heap object are those of its class, wherever the pointers that are set name class subobjects
abbrev pub LeavesAreDumped : Classes → Objects → Type 0
LeavesAreDumped h s = (k : ℕ) (c : ClassId) → c.0 < length h → slice_get s.classes k ≡ Some c →
    ((l : Leaf) (p : ObjectPart) → Contains (leaves_of h c (whole_part k c)) l → s.leaf l ≡ Pointer p → NamesPart h (location_of s p)) →
    AreDumpedLeaves h c (map (dump_leaf s) (leaves_of h c (whole_part k c)))

-- a run does not fill the heap
abbrev pub KeepsHeapRoom : Classes → Places → TypedProgram → ℕ → Type 0
KeepsHeapRoom h l program steps = (run_of h l.size program steps).ending ≡ LimitMet L8 → ⊥

-- all that a run prints are numbers and names of types
abbrev pub PrintsNoPlace : Classes → Places → TypedProgram → ℕ → Type 0
PrintsNoPlace h l program steps = (out : Out) → Contains (printed (run_of h l.size program steps).outs) out → TellsNoPlace out
