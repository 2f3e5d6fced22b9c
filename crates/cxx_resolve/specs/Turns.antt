-- The items of a list in turn.
use Rattle.std.specs.Prelude.{Result, Ok, List, [], ◌∷◌, ◌++◌}
use Rattle.cxx_hierarchy.specs.declared.stop.Stop.{Stop}
use Rattle.cxx_resolve.specs.Stops.{◌>>>◌}

-- what each item gives, by what those before it gave, behind what there is already; or the first stop
abbrev pub given_in_turn : {X Y : Type 0} → (List Y → X → Result Y Stop) → List Y → List X → Result (List Y) Stop
given_in_turn give done [] = Ok done
given_in_turn give done (x ∷ xs) = give done x >>> λ y. given_in_turn give (done ++ y ∷ []) xs
