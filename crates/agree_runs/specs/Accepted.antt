-- What the laws of runs rest on: a program that is typed and has a `main`, over classes that no condition refuses.
use Rattle.std.specs.Prelude.{◌≡◌, true}
use Rattle.cxx_hierarchy.specs.Classes.{Classes}
use Rattle.cxx_hierarchy.specs.Hierarchies.{IsHierarchy}
use Rattle.cxx_overrider.specs.Faults.{HasNoFault}
use Rattle.cxx_program.specs.declared.program.TypedProgram.{TypedProgram}
use Rattle.cxx_program.specs.Typed.{IsTypedProgram}
use Rattle.path_model.specs.States.{is_body}

-- the program is accepted
pub record IsAccepted (h : Classes) (program : TypedProgram) : Type 0 where
  pub hierarchy : IsHierarchy h
  pub faultless : HasNoFault h
  pub typed : IsTypedProgram h program
  pub main : is_body program.main ≡ true
