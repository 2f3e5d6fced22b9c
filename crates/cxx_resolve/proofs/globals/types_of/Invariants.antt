use Rattle.std.proofs.Common.{◌≡◌, map, take}
use Rattle.cxx_expression.specs.declared.scene.Entry.{Entry}
use Rattle.cxx_resolve.proofs.globals.types_of.Given as goal

abbrev pub invariant-loop-entry : goal.invariant-loop-entry
invariant-loop-entry l = l.types ≡ map (λ (e : Entry). e.ty) (take l.entry-index l.entries)
