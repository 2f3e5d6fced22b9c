-- Pieces of a plan, one after another, whose parts have different names.
use Rattle.std.proofs.Common.{◌≡◌, ◌⊎◌, inl, inr, ⊎_elim, List, [], ◌∷◌, ◌++◌, refl, subst}
use Rattle.std.specs.List.{flat_map}
use Rattle.cxx_hierarchy.specs.Classes.{Classes}
use Rattle.foundation.proofs.Members.{Has}
use Rattle.path_plan.specs.Places.{ObjectPart}
use Rattle.path_plan.specs.Phases.{Phases, PartEvent}
use Rattle.path_plan.proofs.Names.{Token, IsRaw, apart, begins_child}
use Rattle.path_plan.proofs.Growth.{Inv, Went, went_none, went_then, went_wider, raw_stays, plays_append, events_append, Ran}

-- each item may come behind those before it, and no later one has its token
abbrev pub Follows : {X : Type 0} → (X → Token) → (List X → X → Type 0) → List X → List X → Type 0
Follows token Allowed done [] = Unit {0}
Follows {X} token Allowed done (x ∷ xs) = Allowed done x × ((y : X) → Has xs y → token x ≡ token y → ⊥) × Follows token Allowed (x ∷ done) xs

-- items, each with its events within the name t and its token; what holds around them, and what each gives
pub record Loop (X : Type 0) (h : Classes) (t : List Token) (p : ObjectPart) : Type 1 where
  pub token : X → Token
  pub events : X → List PartEvent
  pub Around : Phases → Type 0
  pub Gives : X → Phases → Type 0
  pub Allowed : List X → X → Type 0
  pub inv : (s : Phases) → Around s → Inv h p.object s
  pub around : (x : X) (s s' : Phases) → Went h (t ++ token x ∷ []) p s s' → Around s → Around s'
  pub keeps : (x y : X) (s s' : Phases) → Went h (t ++ token x ∷ []) p s s' → Gives y s → Gives y s'
  pub step : (done : List X) (x : X) (s : Phases) → Around s → Allowed done x → ((y : X) → Has done y → Gives y s) → IsRaw (t ++ token x ∷ []) s → Ran h (t ++ token x ∷ []) p s (events x) (Gives x)

pub loop : {X : Type 0} (h : Classes) (t : List Token) (p : ObjectPart) (l : Loop X h t p) (done xs : List X) (s : Phases) → l.Around s → Follows l.token l.Allowed done xs → ((y : X) → Has done y → l.Gives y s) → ((y : X) → Has xs y → IsRaw (t ++ l.token y ∷ []) s)
    → Ran h t p s (flat_map l.events xs) (λ s'. l.Around s' × ((y : X) → Has done y ⊎ Has xs y → l.Gives y s'))
loop h t p l done [] s around follows had raw = record { end = s; plays = refl; inside = tt; went = went_none h t p s (l.inv s around); did = (around, λ y has. ⊎_elim (λ d. had y d) (λ e. absurd e) has) }
loop {X} h t p l done (x ∷ xs) s around follows had raw =
    let one = l.step done x s around follows.0 had (raw x (inl refl)) in
    let rest = loop h t p l (x ∷ done) xs one.end (l.around x s one.end one.went around) follows.2
    (λ y has. ⊎_elim (λ same. subst (λ (z : X). l.Gives z one.end) same one.did) (λ d. l.keeps x y s one.end one.went (had y d)) has)
    (λ y has. raw_stays h (t ++ l.token x ∷ []) (t ++ l.token y ∷ []) p s one.end one.went (λ n a b. follows.1 y has (apart t (l.token x) (l.token y) n a b)) (raw y (inr has))) in
    record {
      end = rest.end;
      plays = plays_append h s one.end rest.end (l.events x) (flat_map l.events xs) one.plays rest.plays;
      inside = events_append h p (l.events x) (flat_map l.events xs) one.inside rest.inside;
      went = went_then h t p s one.end rest.end (went_wider h (t ++ l.token x ∷ []) t p p s one.end (begins_child t (l.token x)) (λ q i. i) refl one.went) rest.went;
      did = (rest.did.0, λ y has. rest.did.1 y (⊎_elim (λ d. inl (inr d)) (λ m. ⊎_elim (λ same. inl (inl same)) (λ more. inr more) m) has));
    }
