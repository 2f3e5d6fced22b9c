-- What of a run no layout decides.
use Rattle.path_model.specs.declared.outs.Out.{Out}
use Rattle.path_model.specs.declared.outs.Out.TheVariants.{Number, Pointer, TypeName, Dump, Call, Built, Ending}

-- what is told has no place in its text: it is a number or the name of a type
abbrev pub TellsNoPlace : Out → Type 0
TellsNoPlace (Number z) = Unit {0}
TellsNoPlace (Pointer at) = ⊥
TellsNoPlace (TypeName c) = Unit {0}
TellsNoPlace (Dump number c leaves) = ⊥
TellsNoPlace (Call f at) = ⊥
TellsNoPlace (Built c at) = ⊥
TellsNoPlace (Ending c at) = ⊥
