-- What is typed so far of a body stays typed as its locals grow.
use Rattle.std.proofs.Common.{◌≡◌, ℕ, ◌+◌, ◌≤◌, Some, Result, Ok, Err, List, [], ◌∷◌, ◌++◌, append_assoc, append-nil, ⊎_elim, length, refl, sym, ◌∙◌, ap, subst, subst₂, Contains, slice_get}
use Rattle.foundation.proofs.Places.{get_front, get_pushed, length_pushed}
use Rattle.cxx_hierarchy.specs.declared.records.ClassId.{ClassId}
use Rattle.cxx_hierarchy.specs.declared.records.ValueType.{ValueType}
use Rattle.cxx_hierarchy.specs.declared.stop.Stop.{Stop}
use Rattle.cxx_hierarchy.specs.Classes.{Classes}
use Rattle.cxx_program.specs.declared.statement.TypedKind.{TypedKind}
use Rattle.cxx_program.specs.declared.statement.TypedStatement.{TypedStatement}
use Rattle.cxx_program.specs.Typed.{Types, Scope, IsKnown, IsTyped, IsWithin, IsTypedStatement}
use Rattle.cxx_expression.specs.declared.scene.Scene.{Scene}
use Rattle.cxx_expression.specs.declared.scene.Setting.{Setting}
use Rattle.cxx_resolve.specs.declared.draft.Draft.{Draft}
use Rattle.cxx_resolve.specs.Stops.{◌>>>◌}
use Rattle.cxx_resolve.specs.Walks.{pushed, in_scene}
use Rattle.cxx_typing.specs.Scopes.{IsSetting}
use Rattle.cxx_typing.proofs.Scopes.{IsFront, IsOwnScene}

-- the first answer is a value, and the second that rests on it
pub then_ok : {A B : Type 0} (r : Result A Stop) (go : A → Result B Stop) (y : B) → (r >>> go) ≡ Ok y → (x : A) × (r ≡ Ok x) × (go x ≡ Ok y)
then_ok (Ok x) go y e = (x, refl, e)
then_ok (Err s) go y e = absurd (cc)

-- the first n statements of a body of `size` statements: they are typed in each body that has these locals and perhaps more
pub record IsGoodDraft (h : Classes) (e : Setting) (size n : ℕ) (d : Draft) : Type 0 where
  pub own : IsOwnScene d.scene
  pub known : (t : ValueType ClassId) → Contains d.scene.types t → IsKnown h t
  pub count : length d.statements ≡ n
  pub typed : (k : Scope) → IsSetting e k → IsFront d.scene.types k.locals → (i : ℕ) (x : TypedStatement) → slice_get d.statements i ≡ Some x → IsTypedStatement h k size i x

-- such a draft behind another, of which it keeps the locals
pub record IsLonger (h : Classes) (e : Setting) (size n : ℕ) (old new : Draft) : Type 0 where
  pub more : Types
  pub types : new.scene.types ≡ old.scene.types ++ more
  pub good : IsGoodDraft h e size n new

front_less : {X : Type 0} (xs more ys : List X) → IsFront (xs ++ more) ys → IsFront xs ys
front_less xs more ys front = λ i x is. front i x (get_front xs more i x is)

pub same_types : (a b : Types) → a ≡ b → a ≡ b ++ []
same_types a b e = e ∙ sym (append-nil b)

push_typed : (h : Classes) (k : Scope) (size n : ℕ) (xs : List TypedStatement) (y : TypedStatement) → length xs ≡ n → ((i : ℕ) (x : TypedStatement) → slice_get xs i ≡ Some x → IsTypedStatement h k size i x) →
    IsTypedStatement h k size n y → (i : ℕ) (x : TypedStatement) → slice_get (xs ++ y ∷ []) i ≡ Some x → IsTypedStatement h k size i x
push_typed h k size n xs y count each last i x is = ⊎_elim
    (λ a. each i x a)
    (λ b. subst₂ (λ (j : ℕ) (z : TypedStatement). IsTypedStatement h k size j z) (sym (b.0 ∙ count)) (sym b.1) last)
    (get_pushed xs y i x is)

-- one statement more
pub pushed_on : (h : Classes) (e : Setting) (size n line next : ℕ) (d : Draft) (s : Scene) (kind : TypedKind) (more : Types) → IsGoodDraft h e size n d → s.types ≡ d.scene.types ++ more → IsOwnScene s →
    ((t : ValueType ClassId) → Contains s.types t → IsKnown h t) → next ≤ size → IsWithin size n kind → ((k : Scope) → IsSetting e k → IsFront s.types k.locals → IsTyped h k kind) →
    IsLonger h e size (n + 1) d (pushed kind line next (in_scene s d))
pushed_on h e size n line next d s kind more good grown own known small within typed = record {
  more = more;
  types = grown;
  good = record {
    own = own;
    known = known;
    count = length_pushed d.statements (record { kind = kind; line = line; next = next }) ∙ ap (λ (m : ℕ). m + 1) good.count;
    typed = λ k f front.
        push_typed h k size n d.statements (record { kind = kind; line = line; next = next }) good.count
        (good.typed k f (front_less d.scene.types more k.locals (subst (λ (ts : Types). IsFront ts k.locals) grown front)))
        (record { typed = typed k f front; next = small; within = within });
  };
}

pub and_on : (h : Classes) (e : Setting) (size n m : ℕ) (a b c : Draft) → IsLonger h e size n a b → IsLonger h e size m b c → IsLonger h e size m a c
and_on h e size n m a b c f g = record {
  more = f.more ++ g.more;
  types = g.types ∙ ap (λ (ts : Types). ts ++ g.more) f.types ∙ append_assoc a.scene.types f.more g.more;
  good = g.good;
}

-- the number of statements in another form
pub counted_as : (h : Classes) (e : Setting) (size n m : ℕ) (a b : Draft) → n ≡ m → IsLonger h e size n a b → IsLonger h e size m a b
counted_as h e size n m a b same f = subst (λ (k : ℕ). IsLonger h e size k a b) same f
