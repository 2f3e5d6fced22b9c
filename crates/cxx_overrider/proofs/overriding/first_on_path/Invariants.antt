use Rattle.cxx_overrider.specs.invariants.Finals.{DeclareNone}
use Rattle.cxx_overrider.proofs.overriding.first_on_path.Given as goal

-- the classes so far declare none
abbrev pub invariant-loop-place : goal.invariant-loop-place
invariant-loop-place l = DeclareNone l.rows l.path l.n l.place
