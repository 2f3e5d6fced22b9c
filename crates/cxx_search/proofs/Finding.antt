-- The first item that passes a test.
use Rattle.std.proofs.Common.{◌≡◌, ⊎_elim, Bool, true, Some, List, [], ◌∷◌, refl, ap, ◌∙◌}
use Rattle.std.specs.Prelude.{if◌then◌else◌}
use Rattle.std.specs.List.{find}
use Rattle.foundation.proofs.Truth.{split, not_both}
use Rattle.foundation.proofs.Members.{Has}

-- where one passes, one is found
pub finds_some : {X : Type 0} (p : X → Bool) (xs : List X) (x : X) → Has xs x → p x ≡ true → (y : X) × (find p xs ≡ Some y)
finds_some p [] x has e = absurd has
finds_some {X} p (z ∷ xs) x has e = split (p z) (λ b. p z ≡ b → (y : X) × ((if b then Some z else find p xs) ≡ Some y))
    (λ t same. (z, refl))
    (λ t same. ⊎_elim (λ k. absurd (not_both (ap p k ∙ e) same)) (λ rest. finds_some p xs x rest e) has) refl
