-- Answers that are never want of memory.
use Rattle.std.proofs.Common.{◌≡◌, ℕ, ◌+◌, Option, Some, None, Result, Ok, Err, List, [], ◌∷◌, ◌++◌, map, ap, sym, ◌∙◌, refl, subst}
use Rattle.cxx_hierarchy.specs.declared.stop.Stop.{Stop}
use Rattle.cxx_hierarchy.specs.declared.stop.Stop.TheVariants as stop
use Rattle.cxx_resolve.specs.Stops.{◌>>>◌}
use Rattle.cxx_resolve.specs.Turns.{given_in_turn}

-- the answer is a value, a refusal or a limit
abbrev pub IsSure : {A : Type 0} → Result A Stop → Type 0
IsSure r = r ≡ Err stop.NoMemory → ⊥

pub sure_ok : {A : Type 0} (x : A) → IsSure (Ok x)
sure_ok x e = absurd (cc)

pub sure_then : {A B : Type 0} (r : Result A Stop) (go : A → Result B Stop) → IsSure r → ((x : A) → IsSure (go x)) → IsSure (r >>> go)
sure_then (Ok x) go h k = k x
sure_then (Err stop.NoMemory) go h k = λ e. h refl
sure_then (Err (stop.Limit l)) go h k = λ e. absurd (cc)
sure_then (Err (stop.Refused rule at)) go h k = λ e. absurd (cc)

pub sure_in_turn : {X Y : Type 0} (give : List Y → X → Result Y Stop) → ((done : List Y) (x : X) → IsSure (give done x)) → (done : List Y) (xs : List X) → IsSure (given_in_turn give done xs)
sure_in_turn give h done [] = sure_ok done
sure_in_turn give h done (x ∷ xs) = sure_then (give done x) _ (h done x) (λ y. sure_in_turn give h (done ++ y ∷ []) xs)
