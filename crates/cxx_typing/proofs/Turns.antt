-- What the items of a list give in turn.
use Rattle.std.proofs.Common.{◌≡◌, ℕ, zero, suc, Some, Result, Ok, List, [], ◌∷◌, ◌++◌, append_assoc, append-nil, refl, sym, ◌∙◌, ap, subst, slice_get}
use Rattle.cxx_hierarchy.specs.declared.stop.Stop.{Stop}
use Rattle.cxx_resolve.specs.Stops.{◌>>>◌}
use Rattle.cxx_resolve.specs.Turns.{given_in_turn}
use Rattle.cxx_typing.proofs.Drafts.{then_ok}

-- what each item keeps of those before it holds of all
pub turn_kept : {X Y : Type 0} (give : List Y → X → Result Y Stop) (P : List Y → Type 0) → ((done : List Y) (x : X) (y : Y) → P done → give done x ≡ Ok y → P (done ++ y ∷ [])) → (xs : List X) (done new : List Y) → P done →
    given_in_turn give done xs ≡ Ok new → P new
turn_kept give P step [] done new p w = let same : done ≡ new = cc in subst P same p
turn_kept {Y = Y} give P step (x ∷ xs) done new p w =
    let r = then_ok (give done x) (λ (y : Y). given_in_turn give (done ++ y ∷ []) xs) new w in
    turn_kept give P step xs (done ++ r.0 ∷ []) new (step done x r.0 p r.1) r.2

-- two lists, one after the other
pub turn_join : {X Y : Type 0} (give : List Y → X → Result Y Stop) (xs ys : List X) (done mid new : List Y) → given_in_turn give done xs ≡ Ok mid → given_in_turn give mid ys ≡ Ok new → given_in_turn give done (xs ++ ys) ≡ Ok new
turn_join {Y = Y} give [] ys done mid new a b = let same : done ≡ mid = cc in subst (λ (d : List Y). given_in_turn give d ys ≡ Ok new) (sym same) b
turn_join {Y = Y} give (x ∷ xs) ys done mid new a b =
    let r = then_ok (give done x) (λ (y : Y). given_in_turn give (done ++ y ∷ []) xs) mid a in
    ap (λ (q : Result Y Stop). q >>> λ y. given_in_turn give (done ++ y ∷ []) (xs ++ ys)) r.1 ∙ turn_join give xs ys (done ++ r.0 ∷ []) mid new r.2 b

-- item by item
abbrev pub AreEach : {X Y : Type 0} → (X → Y → Type 0) → List X → List Y → Type 0
AreEach R [] [] = Unit {0}
AreEach R [] (y ∷ ys) = ⊥
AreEach R (x ∷ xs) [] = ⊥
AreEach R (x ∷ xs) (y ∷ ys) = R x y × AreEach R xs ys

pub each_from : {X Y : Type 0} (R : X → Y → Type 0) (xs : List X) (ys : List Y) → AreEach R xs ys → (i : ℕ) (y : Y) → slice_get ys i ≡ Some y → (x : X) × (slice_get xs i ≡ Some x) × R x y
each_from R [] [] all i y is = absurd (cc)
each_from R [] (z ∷ ys) all i y is = absurd all
each_from R (x ∷ xs) [] all i y is = absurd all
each_from R (x ∷ xs) (z ∷ ys) all zero y is = let same : z ≡ y = cc in (x, refl, subst (R x) same all.0)
each_from R (x ∷ xs) (z ∷ ys) all (suc i) y is = each_from R xs ys all.1 i y is

pub each_to : {X Y : Type 0} (R : X → Y → Type 0) (xs : List X) (ys : List Y) → AreEach R xs ys → (i : ℕ) (x : X) → slice_get xs i ≡ Some x → (y : Y) × (slice_get ys i ≡ Some y) × R x y
each_to R [] [] all i x is = absurd (cc)
each_to R [] (y ∷ ys) all i x is = absurd all
each_to R (z ∷ xs) [] all i x is = absurd all
each_to {X = X} R (z ∷ xs) (y ∷ ys) all zero x is = let same : z ≡ x = cc in (y, refl, subst (λ (v : X). R v y) same all.0)
each_to R (z ∷ xs) (y ∷ ys) all (suc i) x is = each_to R xs ys all.1 i x is

-- what the items give by themselves, behind what there is already
pub record AreGiven {X Y : Type 0} (give : X → Result Y Stop) (xs : List X) (done new : List Y) : Type 0 where
  pub items : List Y
  pub behind : new ≡ done ++ items
  pub each : AreEach (λ x y. give x ≡ Ok y) xs items

pub turn_given : {X Y : Type 0} (give : X → Result Y Stop) (xs : List X) (done new : List Y) → given_in_turn (λ before x. give x) done xs ≡ Ok new → AreGiven give xs done new
turn_given give [] done new w = let same : done ≡ new = cc in record { items = []; behind = sym same ∙ sym (append-nil done); each = tt }
turn_given {Y = Y} give (x ∷ xs) done new w =
    let r = then_ok (give x) (λ (y : Y). given_in_turn (λ before z. give z) (done ++ y ∷ []) xs) new w in
    let rest = turn_given give xs (done ++ r.0 ∷ []) new r.2 in
    record { items = r.0 ∷ rest.items; behind = rest.behind ∙ append_assoc done (r.0 ∷ []) rest.items; each = (r.1, rest.each) }
