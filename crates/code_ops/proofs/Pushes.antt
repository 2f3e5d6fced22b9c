-- Items that are put behind a list one after the other.
use Rattle.std.proofs.Common.{◌≡◌, List, ◌∷◌, [], ◌++◌, ap, append_assoc, ◌∙◌}

pub pushed_two : {X : Type 0} (old mid new : List X) (a b : X) → mid ≡ old ++ a ∷ [] → new ≡ mid ++ b ∷ [] → new ≡ old ++ a ∷ b ∷ []
pushed_two old mid new a b e f = f ∙ ap (λ (l : List _). l ++ b ∷ []) e ∙ append_assoc old (a ∷ []) (b ∷ [])
