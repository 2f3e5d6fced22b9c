-- The variables in scope are locals of the body.
use Rattle.std.proofs.Common.{◌≡◌, ◌⊎◌, ℕ, zero, suc, length, take, Some, List, [], ◌∷◌, ◌++◌, inl, inr, subst}
use Rattle.std.specs.Prelude.{Contains, slice_get}
use Rattle.std.specs.Str.{bytes_eq}
use mathlib.Core.List.{reverse}
use Rattle.std.proofs.lemmas.List.{reverse-append}
use Rattle.std.proofs.lemmas.List.Elements.{Contains-append_cases}
use Rattle.foundation.proofs.Places.{get_front, get_last}
use Rattle.foundation.proofs.Members.{Has, contains_from_has, has_cases, has_from_contains}
use Rattle.foundation.proofs.Chosen.{find_passes}
use Rattle.cxx_hierarchy.specs.declared.records.ClassId.{ClassId}
use Rattle.cxx_hierarchy.specs.declared.records.ValueType.{ValueType}
use Rattle.cxx_hierarchy.specs.NameTables.{Text}
use Rattle.cxx_program.specs.Typed.{Scope}
use Rattle.cxx_expression.specs.declared.scene.Entry.{Entry}
use Rattle.cxx_expression.specs.declared.scene.Scene.{Scene}
use Rattle.cxx_expression.specs.Scenes.{innermost_entry, with_variable, opened, closed}
use Rattle.cxx_typing.specs.Scopes.{IsScene}

later : {X : Type 0} (y : X) (ys : List X) (x : X) → (Has (reverse ys) x → Has ys x) → Has (reverse ys) x ⊎ Has (y ∷ []) x → Has (y ∷ ys) x
later y ys x go (inl a) = inr (go a)
later y ys x go (inr (inl b)) = inl b
later y ys x go (inr (inr b)) = absurd b

reversed : {X : Type 0} (xs : List X) (x : X) → Has (reverse xs) x → Has xs x
reversed [] x h = h
reversed {X = X} (y ∷ ys) x h = later y ys x (λ a. reversed ys x a) (has_cases (reverse ys) (y ∷ []) x (subst (λ (list : List X). Has list x) (reverse-append (y ∷ []) ys) h))

-- the variable that a name means is one of those in scope
pub named_entry : (entries : List Entry) (name : Text) (x : Entry) → innermost_entry entries name ≡ Some x → Contains entries x
named_entry entries name x e = contains_from_has entries x (reversed entries x (find_passes (λ (entry : Entry). bytes_eq entry.name name) (reverse entries) x e).0)

-- each item stands at the same number of the other list
abbrev pub IsFront : {X : Type 0} → List X → List X → Type 0
IsFront xs ys = (i : ℕ) (x : _) → slice_get xs i ≡ Some x → slice_get ys i ≡ Some x

-- each variable in scope is one of those declared so far, of its type
pub record IsOwnScene (s : Scene) : Type 0 where
  pub each : (x : Entry) → Contains s.entries x → slice_get s.types x.number ≡ Some x.ty

pub scene_in : (s : Scene) (k : Scope) → IsOwnScene s → IsFront s.types k.locals → IsScene s k
scene_in s k own front = record { locals = λ x h. front x.number x.ty (own.each x h) }

of_new : (s : Scene) (name : Text) (ty : ValueType ClassId) (x : Entry) → Has ((record { name = name; number = length s.types; ty = ty }) ∷ []) x → slice_get (s.types ++ ty ∷ []) x.number ≡ Some x.ty
of_new s name ty x (inl e) = subst (λ (y : Entry). slice_get (s.types ++ ty ∷ []) y.number ≡ Some y.ty) e (get_last s.types ty)
of_new s name ty x (inr e) = absurd e

declared_entry : (s : Scene) (name : Text) (ty : ValueType ClassId) → IsOwnScene s → (x : Entry) → Contains s.entries x ⊎ Contains ((record { name = name; number = length s.types; ty = ty }) ∷ []) x → slice_get (s.types ++ ty ∷ []) x.number ≡ Some x.ty
declared_entry s name ty own x (inl h) = get_front s.types (ty ∷ []) x.number x.ty (own.each x h)
declared_entry s name ty own x (inr h) = of_new s name ty x (has_from_contains ((record { name = name; number = length s.types; ty = ty }) ∷ []) x h)

pub declared_scene : (s : Scene) (name : Text) (ty : ValueType ClassId) → IsOwnScene s → IsOwnScene (with_variable s name ty)
declared_scene s name ty own = record { each = λ x h. declared_entry s name ty own x (Contains-append_cases s.entries ((record { name = name; number = length s.types; ty = ty }) ∷ []) x h) }

pub opened_scene : (s : Scene) → IsOwnScene s → IsOwnScene (opened s)
opened_scene s own = record { each = own.each }

has_front : {X : Type 0} (n : ℕ) (xs : List X) (x : X) → Has (take n xs) x → Has xs x
has_front zero xs x h = absurd h
has_front (suc n) [] x h = absurd h
has_front (suc n) (y ∷ ys) x (inl e) = inl e
has_front (suc n) (y ∷ ys) x (inr h) = inr (has_front n ys x h)

contains_front : {X : Type 0} (n : ℕ) (xs : List X) (x : X) → Contains (take n xs) x → Contains xs x
contains_front n xs x h = contains_from_has xs x (has_front n xs x (has_from_contains (take n xs) x h))

pub closed_scene : (before s : Scene) → IsOwnScene s → IsOwnScene (closed before s)
closed_scene before s own = record { each = λ x h. own.each x (contains_front (length before.entries) s.entries x h) }
