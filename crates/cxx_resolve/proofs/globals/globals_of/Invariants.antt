use Rattle.std.proofs.Common.{◌≡◌, [], drop}
use Rattle.cxx_resolve.specs.Turns.{given_in_turn}
use Rattle.cxx_resolve.specs.Globals.{global_of}
use Rattle.cxx_resolve.proofs.globals.globals_of.Given as goal

-- what is left, behind those so far, leads where all lead
abbrev pub invariant-loop-global : goal.invariant-loop-global
invariant-loop-global l = given_in_turn (global_of l.h) l.entries (drop l.global-index l.globals) ≡ given_in_turn (global_of l.h) [] l.globals
