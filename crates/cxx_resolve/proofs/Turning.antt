-- One item more in turn.
use Rattle.std.proofs.Common.{◌≡◌, ℕ, ◌+◌, ◌<◌, Result, Ok, Err, List, [], ◌∷◌, ◌++◌, drop, length, ap, sym, ◌∙◌, subst, get_or, arith}
use Rattle.std.proofs.lemmas.List.{drop_more}
use Rattle.cxx_hierarchy.specs.declared.stop.Stop.{Stop}
use Rattle.cxx_hierarchy.specs.declared.stop.Stop.TheVariants as stop
use Rattle.cxx_resolve.specs.Stops.{◌>>>◌, Fails}
use Rattle.cxx_resolve.specs.Turns.{given_in_turn}

pub fails_more : {A B : Type 0} (x : Stop) (r : Result A Stop) (go : A → Result B Stop) → Fails x r → Fails x (r >>> go)
fails_more {A = A} {B = B} stop.NoMemory r go h = tt
fails_more {A = A} {B = B} (stop.Limit l) r go h = ap (λ (v : Result A Stop). v >>> go) h
fails_more {A = A} {B = B} (stop.Refused rule at) r go h = ap (λ (v : Result A Stop). v >>> go) h

turn_on : {X Y : Type 0} (give : List Y → X → Result Y Stop) (done : List Y) (x : X) (xs : List X) (y : Y) → give done x ≡ Ok y →
    given_in_turn give (done ++ y ∷ []) xs ≡ given_in_turn give done (x ∷ xs)
turn_on {X = X} {Y = Y} give done x xs y h = sym (ap (λ (r : Result Y Stop). r >>> λ z. given_in_turn give (done ++ z ∷ []) xs) h)

pub turn_more : {X Y : Type 0} (give : List Y → X → Result Y Stop) (done new : List Y) (list : List X) (i : ℕ) (x : X) (y : Y) → i < length list → x ≡ get_or list i x →
    give done x ≡ Ok y → new ≡ done ++ y ∷ [] → given_in_turn give new (drop (i + 1) list) ≡ given_in_turn give done (drop i list)
turn_more {X = X} {Y = Y} give done new list i x y below is h n =
    ap (λ (d : List Y). given_in_turn give d (drop (i + 1) list)) n ∙ turn_on give done x (drop (i + 1) list) y h
    ∙ ap (given_in_turn give done) (ap (λ (z : X). z ∷ drop (i + 1) list) is ∙ sym (drop_more list i x below))

pub turn_stops : {X Y : Type 0} (give : List Y → X → Result Y Stop) (done : List Y) (list : List X) (i : ℕ) (x : X) (e : Stop) → i < length list → x ≡ get_or list i x →
    Fails e (give done x) → Fails e (given_in_turn give done (drop i list))
turn_stops {X = X} {Y = Y} give done list i x e below is h =
    subst (λ (xs : List X). Fails e (given_in_turn give done xs)) (ap (λ (z : X). z ∷ drop (i + 1) list) is ∙ sym (drop_more list i x below))
    (fails_more {A = Y} {B = List Y} e (give done x) (λ z. given_in_turn give (done ++ z ∷ []) (drop (i + 1) list)) h)
