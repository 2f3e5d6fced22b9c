-- What is asked of an index.
use Rattle.std.proofs.Common.{◌≡◌, ℕ, Bool, Option, Some, None, List, refl, ap, ◌∙◌}
use Rattle.std.specs.Prelude.{is_some, find}
use Rattle.cxx_program.specs.declared.program.TypedInit.{TypedInit}
use Rattle.cxx_program.specs.declared.program.TypedBody.{TypedBody}
use Rattle.path_model.specs.States.{is_body, is_init}
use Rattle.path_bodies.specs.declared.table.MemberKey.{MemberKey}
use Rattle.path_bodies.specs.Places.{first_place}
use Rattle.path_bodies.specs.invariants.Firsts.{item_at_place}
use Rattle.path_bodies.proofs.Firsts.{item_found, some_found}

pub body_some : (o : Option TypedBody) → is_some o ≡ is_body o
body_some None = refl
body_some (Some body) = refl

init_some : (o : Option TypedInit) → is_some o ≡ is_init o
init_some None = refl
init_some (Some init) = refl

-- what is found under a key, in a list whose first place the table has
found_place : {X : Type 0} (t : X → Bool) (xs : List X) (places : MemberKey → Option ℕ) (k l : MemberKey) (place : Option ℕ) → k ≡ l → places l ≡ first_place t xs → place ≡ places k → place ≡ first_place t xs
found_place t xs places k l place same at found = found ∙ (ap places same ∙ at)

pub item_told : {X : Type 0} (t : X → Bool) (xs slice : List X) (places : MemberKey → Option ℕ) (k l : MemberKey) (place : Option ℕ) (r : Option X) → slice ≡ xs → k ≡ l → places l ≡ first_place t xs → place ≡ places k → r ≡ item_at_place slice place → r ≡ find t xs
item_told t xs slice places k l place r whole same at found is = is ∙ (ap (λ ys. item_at_place ys place) whole ∙ (ap (item_at_place xs) (found_place t xs places k l place same at found) ∙ item_found t xs))

pub body_told : (t : TypedBody → Bool) (xs : List TypedBody) (places : MemberKey → Option ℕ) (k l : MemberKey) (place : Option ℕ) (b : Bool) → k ≡ l → places l ≡ first_place t xs → place ≡ places k → b ≡ is_some place → b ≡ is_body (find t xs)
body_told t xs places k l place b same at found is = is ∙ (ap is_some (found_place t xs places k l place same at found) ∙ (some_found t xs ∙ body_some (find t xs)))

pub init_told : (t : TypedInit → Bool) (xs : List TypedInit) (places : MemberKey → Option ℕ) (k l : MemberKey) (place : Option ℕ) (b : Bool) → k ≡ l → places l ≡ first_place t xs → place ≡ places k → b ≡ is_some place → b ≡ is_init (find t xs)
init_told t xs places k l place b same at found is = is ∙ (ap is_some (found_place t xs places k l place same at found) ∙ (some_found t xs ∙ init_some (find t xs)))
