-- The parts of a class record that have a body: which they are, and that none stands twice.
use Rattle.std.proofs.Common.{◌≡◌, ℕ, zero, suc, ◌≤◌, Bool, true, false, cond, if◌then◌else◌, Option, Some, None, List, [], ◌∷◌, map, length, refl, sym, ◌∙◌, ap, subst, arith, slice_get}
use Rattle.std.specs.List.{filter, filter_map, cons_option}
use Rattle.std.proofs.lemmas.List.{length-map}
use Rattle.std.proofs.lemmas.Option.{slice_get_within}
use Rattle.foundation.proofs.Truth.{split}
use Rattle.foundation.proofs.Members.{Has, EachOnce, has_at, index_of, has_map, first_of}
use Rattle.foundation.proofs.Chosen.{has_filter, filter_has, has_filter_map, from_filter_map, filter_first}
use Rattle.cxx_hierarchy.specs.declared.records.Function.{Function}
use Rattle.cxx_hierarchy.specs.declared.records.PartAt.{PartAt}
use Rattle.cxx_hierarchy.specs.declared.records.PartKind.{PartKind}
use Rattle.cxx_hierarchy.specs.declared.records.PartKind.TheVariants as kind
use Rattle.cxx_hierarchy.specs.ClassPass.{Record}
use Rattle.cxx_hierarchy.specs.NameTables.{Text}
use Rattle.cxx_hierarchy.specs.Declarations.{is_implicit}
use Rattle.cxx_hierarchy.specs.Orders.{parts_of_kind, is_function, is_constructor, is_destructor, NamesEach}
use Rattle.cxx_hierarchy.specs.Hierarchies.{HasOrder}
use Rattle.cxx_hierarchy.specs.Resolved.{ByName, resolved_function, resolved_class}
use Rattle.cxx_hierarchy.proofs.Orders.{numbered}
use Rattle.cxx_search.proofs.Once.{range_once, has_some_length}
use Rattle.cxx_syntax.specs.declared.source_text.BodyOwner.{BodyOwner}
use Rattle.cxx_syntax.specs.declared.source_text.BodyOwner.TheVariants as own
use Rattle.cxx_syntax.specs.Owners.{function_owner, kind_owner, owner_at, owners_of}

-- lists

once_behind : {X : Type 0} (p : X → Bool) (number : X → ℕ) (x : X) (xs : List X) → EachOnce (map number (filter p (x ∷ xs))) → EachOnce (map number (filter p xs))
once_behind {X} p number x xs = split (p x) (λ b. EachOnce (map number (cond b (x ∷ filter p xs) (filter p xs))) → EachOnce (map number (filter p xs))) (λ e once. once.1) (λ e once. once)

-- items that pass a test and have one number stand at one place
places_apart : {X : Type 0} (p : X → Bool) (number : X → ℕ) (xs : List X) → EachOnce (map number (filter p xs)) → (i j : ℕ) (x y : X) → slice_get xs i ≡ Some x → slice_get xs j ≡ Some y → p x ≡ true → p y ≡ true → number x ≡ number y → i ≡ j
places_apart p number [] once i j x y at_i at_j px py same = absurd (cc)
places_apart p number (z ∷ xs) once zero zero x y at_i at_j px py same = refl
places_apart {X} p number (z ∷ xs) once zero (suc j) x y at_i at_j px py same =
    let first : z ≡ x = cc in
    let all : EachOnce (number z ∷ map number (filter p xs)) = subst (λ (ys : List X). EachOnce (map number ys)) (filter_first p z xs (ap p first ∙ px)) once in
    absurd (all.0 (subst (λ (n : ℕ). Has (map number (filter p xs)) n) (sym same ∙ ap number (sym first)) (has_map number (filter p xs) y (filter_has p xs y (has_at xs j y at_j) py))))
places_apart {X} p number (z ∷ xs) once (suc i) zero x y at_i at_j px py same =
    let first : z ≡ y = cc in
    let all : EachOnce (number z ∷ map number (filter p xs)) = subst (λ (ys : List X). EachOnce (map number ys)) (filter_first p z xs (ap p first ∙ py)) once in
    absurd (all.0 (subst (λ (n : ℕ). Has (map number (filter p xs)) n) (same ∙ ap number (sym first)) (has_map number (filter p xs) x (filter_has p xs x (has_at xs i x at_i) px))))
places_apart p number (z ∷ xs) once (suc i) (suc j) x y at_i at_j px py same = ap suc (places_apart p number xs (once_behind p number z xs once) i j x y at_i at_j px py same)

few_once : {X : Type 0} (xs : List X) → length xs ≤ 1 → EachOnce {X = ℕ} (map (λ (x : X). 0) xs)
few_once [] few = tt
few_once (x ∷ []) few = (λ none. none, tt)
few_once (x ∷ y ∷ xs) few = absurd (omega arith)

-- what a partial function gives of places that are apart is given once
given_once : {X Y : Type 0} (f : X → Option Y) (xs : List X) → ((i j : ℕ) (x y : X) (o : Y) → slice_get xs i ≡ Some x → slice_get xs j ≡ Some y → f x ≡ Some o → f y ≡ Some o → i ≡ j) → EachOnce (filter_map f xs)
given_once f [] apart = tt
given_once {X} {Y} f (x ∷ xs) apart = by_option (f x) refl (given_once f xs (λ i j y z o at_i at_j fy fz. let next : suc i ≡ suc j = apart (suc i) (suc j) y z o at_i at_j fy fz in omega arith))
  where
    by_option : (o : Option Y) → f x ≡ o → EachOnce (filter_map f xs) → EachOnce (cons_option o (filter_map f xs))
    by_option None e rest = rest
    by_option (Some o) e rest = (
      λ has.
          let r = from_filter_map f xs o has in
          let place = index_of xs r.0 r.1 in
          let same : 0 ≡ suc place.0 = apart 0 (suc place.0) x r.0 o refl place.1 e r.2 in
          omega arith,
      rest,
    )

-- parts

-- the parts of a record stand in order
pub record IsOrdered (r : Record) : Type 0 where
  pub functions : NamesEach is_function r.order (length r.functions)
  pub constructors : length (parts_of_kind is_constructor r.order) ≡ (if r.has_constructor then 1 else 0)
  pub destructors : length (parts_of_kind is_destructor r.order) ≡ (if is_implicit r.destructor then 0 else 1)

pub record_ordered : (by : ByName) (r : Record) → HasOrder (resolved_class by r) → IsOrdered r
record_ordered by r order = record {
  functions = subst (NamesEach is_function r.order) (length-map r.functions (resolved_function by)) order.functions;
  constructors = order.constructors;
  destructors = order.destructors;
}

-- a function that is not pure
pub record IsOwnFunction (fs : List (Function Text)) (n : ℕ) : Type 0 where
  pub function : Function Text
  pub there : slice_get fs n ≡ Some function
  pub pure : function.is_pure ≡ false

-- a part that has a body
abbrev Owns : List (Function Text) → PartKind → ℕ → BodyOwner → Type 0
Owns fs k m (own.Function n) = (is_function k ≡ true) × (m ≡ n) × IsOwnFunction fs n
Owns fs k m own.Constructor = is_constructor k ≡ true
Owns fs k m own.Destructor = is_destructor k ≡ true

function_by : (fs : List (Function Text)) (n : ℕ) (f : Function Text) → slice_get fs n ≡ Some f → (t : Bool) → f.is_pure ≡ t → (o : BodyOwner) → (if t then None else Some (own.Function n)) ≡ Some o → Owns fs kind.Function n o
function_by fs n f there true pure o e = absurd (cc)
function_by fs n f there false pure o e = let same : own.Function n ≡ o = cc in subst (Owns fs kind.Function n) same (refl, refl, record { function = f; there = there; pure = pure })

function_owns : (fs : List (Function Text)) (n : ℕ) (f : Option (Function Text)) → slice_get fs n ≡ f → (o : BodyOwner) → function_owner n f ≡ Some o → Owns fs kind.Function n o
function_owns fs n None there o e = absurd (cc)
function_owns fs n (Some f) there o e = function_by fs n f there f.is_pure refl o e

owns_by : (fs : List (Function Text)) (k : PartKind) (n : ℕ) (o : BodyOwner) → kind_owner fs n k ≡ Some o → Owns fs k n o
owns_by fs kind.Member n o e = absurd (cc)
owns_by fs kind.Function n o e = function_owns fs n (slice_get fs n) refl o e
owns_by fs kind.Constructor n o e = let same : own.Constructor ≡ o = cc in subst (Owns fs kind.Constructor n) same refl
owns_by fs kind.Destructor n o e = let same : own.Destructor ≡ o = cc in subst (Owns fs kind.Destructor n) same refl

function_kind : (k : PartKind) → is_function k ≡ true → k ≡ kind.Function
function_kind kind.Member e = absurd (cc)
function_kind kind.Function e = refl
function_kind kind.Constructor e = absurd (cc)
function_kind kind.Destructor e = absurd (cc)

constructor_kind : (k : PartKind) → is_constructor k ≡ true → k ≡ kind.Constructor
constructor_kind kind.Member e = absurd (cc)
constructor_kind kind.Function e = absurd (cc)
constructor_kind kind.Constructor e = refl
constructor_kind kind.Destructor e = absurd (cc)

destructor_kind : (k : PartKind) → is_destructor k ≡ true → k ≡ kind.Destructor
destructor_kind kind.Member e = absurd (cc)
destructor_kind kind.Function e = absurd (cc)
destructor_kind kind.Constructor e = absurd (cc)
destructor_kind kind.Destructor e = refl

-- each once

at_most : (n : ℕ) (t : Bool) → n ≡ (if t then 1 else 0) → n ≤ 1
at_most n true e = omega arith
at_most n false e = omega arith

at_most_but : (n : ℕ) (t : Bool) → n ≡ (if t then 0 else 1) → n ≤ 1
at_most_but n true e = omega arith
at_most_but n false e = omega arith

one_place : (r : Record) → IsOrdered r → (i j : ℕ) (x y : PartAt) → slice_get r.order i ≡ Some x → slice_get r.order j ≡ Some y → (o : BodyOwner) → Owns r.functions x.kind x.number o → Owns r.functions y.kind y.number o → i ≡ j
one_place r order i j x y at_i at_j (own.Function n) a b =
    places_apart (λ (p : PartAt). is_function p.kind) (λ (p : PartAt). p.number) r.order (subst EachOnce (sym order.functions) (range_once 0 (length r.functions))) i j x y at_i at_j a.0 b.0 (a.1 ∙ sym b.1)
one_place r order i j x y at_i at_j own.Constructor a b =
    places_apart (λ (p : PartAt). is_constructor p.kind) (λ (p : PartAt). 0) r.order (few_once (parts_of_kind is_constructor r.order) (at_most _ r.has_constructor order.constructors)) i j x y at_i at_j a b refl
one_place r order i j x y at_i at_j own.Destructor a b =
    places_apart (λ (p : PartAt). is_destructor p.kind) (λ (p : PartAt). 0) r.order (few_once (parts_of_kind is_destructor r.order) (at_most_but _ (is_implicit r.destructor) order.destructors)) i j x y at_i at_j a b refl

pub owners_once : (r : Record) → IsOrdered r → EachOnce (owners_of r)
owners_once r order = given_once (owner_at r.functions) r.order (λ i j x y o at_i at_j ex ey. one_place r order i j x y at_i at_j o (owns_by r.functions x.kind x.number o ex) (owns_by r.functions y.kind y.number o ey))

-- which

-- the record declares a body of this owner
abbrev pub IsOwn : Record → BodyOwner → Type 0
IsOwn r (own.Function n) = IsOwnFunction r.functions n
IsOwn r own.Constructor = r.has_constructor ≡ true
IsOwn r own.Destructor = is_implicit r.destructor ≡ false

some_then : (n : ℕ) (t : Bool) → n ≡ (if t then 1 else 0) → 1 ≤ n → t ≡ true
some_then n true e some = refl
some_then n false e some = absurd (omega arith)

some_else : (n : ℕ) (t : Bool) → n ≡ (if t then 0 else 1) → 1 ≤ n → t ≡ false
some_else n true e some = absurd (omega arith)
some_else n false e some = refl

own_of_part : (r : Record) → IsOrdered r → (p : PartAt) → Has r.order p → (o : BodyOwner) → Owns r.functions p.kind p.number o → IsOwn r o
own_of_part r order p has (own.Function n) is = is.2
own_of_part r order p has own.Constructor is = some_then _ r.has_constructor order.constructors (has_some_length (parts_of_kind is_constructor r.order) p (filter_has (λ (x : PartAt). is_constructor x.kind) r.order p has is))
own_of_part r order p has own.Destructor is = some_else _ (is_implicit r.destructor) order.destructors (has_some_length (parts_of_kind is_destructor r.order) p (filter_has (λ (x : PartAt). is_destructor x.kind) r.order p has is))

pub has_own : (r : Record) → IsOrdered r → (o : BodyOwner) → Has (owners_of r) o → IsOwn r o
has_own r order o has =
    let p = from_filter_map (owner_at r.functions) r.order o has in
    own_of_part r order p.0 p.1 o (owns_by r.functions p.0.kind p.0.number o p.2)

pub own_has : (r : Record) → IsOrdered r → (o : BodyOwner) → IsOwn r o → Has (owners_of r) o
own_has r order (own.Function n) is =
    let p = numbered is_function r.order (length r.functions) order.functions n (slice_get_within r.functions n is.function is.there) in
    has_filter_map (owner_at r.functions) r.order p.part (own.Function n) (has_at r.order p.place p.part p.listed)
    (ap (kind_owner r.functions p.part.number) (function_kind p.part.kind p.passes)
    ∙ ap (λ (m : ℕ). function_owner m (slice_get r.functions m)) p.number
    ∙ ap (function_owner n) is.there
    ∙ ap (λ (t : Bool). if t then None else Some (own.Function n)) is.pure)
own_has r order own.Constructor is =
    let one = first_of (parts_of_kind is_constructor r.order) (order.constructors ∙ ap (λ (t : Bool). if t then 1 else 0) is) in
    let f = has_filter (λ (x : PartAt). is_constructor x.kind) r.order one.0 one.1 in
    has_filter_map (owner_at r.functions) r.order one.0 own.Constructor f.0 (ap (kind_owner r.functions one.0.number) (constructor_kind one.0.kind f.1))
own_has r order own.Destructor is =
    let one = first_of (parts_of_kind is_destructor r.order) (order.destructors ∙ ap (λ (t : Bool). if t then 0 else 1) is) in
    let f = has_filter (λ (x : PartAt). is_destructor x.kind) r.order one.0 one.1 in
    has_filter_map (owner_at r.functions) r.order one.0 own.Destructor f.0 (ap (kind_owner r.functions one.0.number) (destructor_kind one.0.kind f.1))
