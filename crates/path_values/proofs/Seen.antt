-- What is seen fits its types.
use Rattle.cxx_hierarchy.specs.Classes.{Classes}
use Rattle.cxx_program.specs.Typed.{Scope}
use Rattle.path_model.specs.Values.{Sight}
use Rattle.path_model.proofs.TypedValues.{IsTypedSight}
use Rattle.path_values.specs.Given.{HasTypesOfScope}

pub sight_typed : (h : Classes) (e : Scope) (s : Sight) → HasTypesOfScope h e s → IsTypedSight h e s
sight_typed h e s a = record { globals = a.globals; locals = a.locals; this = a.this; leaves = a.leaves }
