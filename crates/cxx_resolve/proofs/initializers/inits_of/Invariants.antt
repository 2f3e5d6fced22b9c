use Rattle.std.proofs.Common.{◌≡◌, [], drop}
use Rattle.cxx_resolve.specs.Turns.{given_in_turn}
use Rattle.cxx_resolve.specs.Initializers.{init_of}
use Rattle.cxx_resolve.proofs.initializers.inits_of.Given as goal

-- what is left, behind those so far, leads where all lead
abbrev pub invariant-loop-init : goal.invariant-loop-init
invariant-loop-init l = given_in_turn (init_of l.h l.c) l.typed (drop l.init-index l.inits) ≡ given_in_turn (init_of l.h l.c) [] l.inits
