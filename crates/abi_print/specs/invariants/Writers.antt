-- Where the parts of classes lie that lines are written of.
use Rattle.std.specs.Prelude.{ℕ, List}
use Rattle.cxx_hierarchy.specs.declared.records.ClassId.{ClassId}
use Rattle.cxx_subobject.specs.declared.Subobject.{Subobject}
use Rattle.abi_sound.specs.declared.class_layout.ClassLayout.{ClassLayout}
use Rattle.abi_sound.specs.Places.{places_of}
use Rattle.abi_print.specs.declared.writer.Writer.{Writer}

abbrev pub written_place : {L : Type 0} → (L → List ClassLayout) → Writer L → ClassId → Subobject → ℕ
written_place rows w = (places_of w.h.now (rows w.layout.now)).place
