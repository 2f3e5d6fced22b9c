use Rattle.std.proofs.Common.{◌≡◌, drop}
use Rattle.cxx_expression.specs.invariants.Known.{Knows}
use Rattle.cxx_resolve.specs.Turns.{given_in_turn}
use Rattle.cxx_resolve.specs.Programs.{body_of}
use Rattle.cxx_resolve.proofs.bodies.bodies_of.Given as goal

-- what is left, behind those so far, leads where all lead
abbrev pub invariant-loop-body : goal.invariant-loop-body
invariant-loop-body l = record {
  bodies : given_in_turn (body_of l.h l.fn.setting.globals) l.typed (drop l.body-index l.bodies) ≡ given_in_turn (body_of l.h l.fn.setting.globals) l.fn.typed l.bodies;
  knows : Knows l.h l.known;
  globals : l.setting.globals ≡ l.fn.setting.globals;
}
