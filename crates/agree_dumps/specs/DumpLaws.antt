-- What a run tells as a dump.
use Rattle.std.specs.Prelude.{ℕ, List, Contains}
use Rattle.cxx_hierarchy.specs.declared.records.ClassId.{ClassId}
use Rattle.cxx_hierarchy.specs.Classes.{Classes}
use Rattle.cxx_program.specs.declared.program.TypedProgram.{TypedProgram}
use Rattle.path_model.specs.declared.outs.DumpLeaf.{DumpLeaf}
use Rattle.path_model.specs.declared.outs.Out.TheVariants.{Dump}
use Rattle.path_model.specs.Runs.{run_of}
use Rattle.abi_sound.specs.declared.class_layout.ClassLayout.{ClassLayout}
use Rattle.abi_sound.specs.Places.{places_of}
use Rattle.abi_sound.specs.Sound.{IsSoundLayout}
use Rattle.agree_runs.specs.Accepted.{IsAccepted}
use Rattle.text_told.specs.OutTexts.{out_text}
use Rattle.abi_inspect.specs.Faults.{IsDumpOf}
use Rattle.agree_dumps.specs.SeenDumps.{seen_of}

-- what a run of an accepted program tells as a dump, by the places of a sound layout, is the dump of what it shows
abbrev pub RunsTellDumps : Classes → List ClassLayout → TypedProgram → Type 0
RunsTellDumps h rows program = (steps n : ℕ) (c : ClassId) (leaves : List DumpLeaf) → IsAccepted h program → IsSoundLayout h rows →
    Contains (run_of h (places_of h rows).size program steps).outs (Dump n c leaves) →
    IsDumpOf h (places_of h rows) (seen_of h (places_of h rows) n c leaves) (out_text h (places_of h rows) (Dump n c leaves))
