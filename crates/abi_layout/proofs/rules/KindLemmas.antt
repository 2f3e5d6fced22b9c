-- An empty class has empty bases alone, and one that is not has a member or a base that is not empty.
use Rattle.std.proofs.Common.{◌≡◌, inl, inr, ⊎_elim, Bool, false, List, [], ◌∷◌, refl}
use Rattle.std.specs.Prelude.{filter, ◌&&◌, cond}
use Rattle.std.specs.List.{list_all}
use Rattle.abi_layout.proofs.rules.Stages.{Has, split}
pub use Rattle.foundation.proofs.Members.{contains_from_has as contains_of, has_from_contains as has_of, from_map}
pub use Rattle.foundation.proofs.Chosen.{filter_has as in_filter, all_each}
pub use Rattle.std.proofs.lemmas.Bool.{and_parts as both_true}

pub from_filter : {X : Type 0} (p : X → Bool) (xs : List X) (x : X) → Has (filter p xs) x → Has xs x
from_filter p [] x h = absurd h
from_filter p (y ∷ xs) x h = split (p y) (λ b. Has (cond b (y ∷ filter p xs) (filter p xs)) x → Has (y ∷ xs) x) (λ t k. ⊎_elim (λ e. inl e) (λ r. inr (from_filter p xs x r)) k) (λ f k. inr (from_filter p xs x k)) h

pub one_fails : {X : Type 0} (p : X → Bool) (xs : List X) → list_all p xs ≡ false → (x : X) × Has xs x × (p x ≡ false)
one_fails p [] e = cc
one_fails {X} p (y ∷ xs) e = split (p y) (λ b. (b && list_all p xs) ≡ false → p y ≡ b → (x : X) × Has (y ∷ xs) x × (p x ≡ false)) (λ t k _. let r = one_fails p xs k in (r.0, inr r.1, r.2)) (λ f k g. (y, inl refl, g)) e refl
