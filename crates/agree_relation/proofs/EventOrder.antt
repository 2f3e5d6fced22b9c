-- The order of events in a list, and what holds of a plan if it holds of its events and of the plans of parts in it.
use Rattle.std.proofs.Common.{◌≡◌, ℕ, ⊎_elim, inl, inr, Bool, true, false, Option, Some, None, List, [], ◌∷◌, ◌++◌, length, refl}
use Rattle.std.specs.Prelude.{◌⊎◌, if◌then◌else◌, Contains, slice_get}
use Rattle.std.specs.List.{flat_map}
use Rattle.foundation.proofs.Truth.{split}
use Rattle.foundation.proofs.Members.{Has, has_left, has_right, contains_from_has}
use Rattle.cxx_hierarchy.specs.declared.records.Base.{Base}
use Rattle.cxx_hierarchy.specs.declared.records.ClassId.{ClassId}
use Rattle.cxx_hierarchy.specs.declared.records.Member.{Member}
use Rattle.cxx_hierarchy.specs.declared.records.FieldType.{FieldType}
use Rattle.cxx_hierarchy.specs.declared.records.FieldType.TheVariants.{Value, Object}
use Rattle.cxx_hierarchy.specs.Classes.{Classes, bases_of, members_of}
use Rattle.cxx_hierarchy.specs.Declarations.{elements_of}
use Rattle.cxx_subobject.specs.Locations.{ObjectPart}
use Rattle.path_plan.specs.Places.{base_part, shared_part, element}
use Rattle.path_plan.specs.Phases.{PartEvent, Begin, Ready, Init, Body, Done, Ending, Bases, End}
use Rattle.path_plan.specs.declared.form.Form.{Form}
use Rattle.path_plan.specs.declared.form.Form.TheVariants.{InFull, AsBase}
use Rattle.path_plan.specs.Plans.{Bodies, Inner, virtual_order, upto, backwards, shared_events, base_events, init_events, typed_events, body_events, member_events, built_by, typed_ending, member_ending, ended_by}

-- up to the first a of a list there is no b
abbrev pub Before : PartEvent → PartEvent → List PartEvent → Type 0
Before a b [] = Unit {0}
Before a b (e ∷ es) = (e ≡ b → ⊥) × ((e ≡ a) ⊎ Before a b es)

-- behind each a of a list there is a b
abbrev pub Behind : PartEvent → PartEvent → List PartEvent → Type 0
Behind a b [] = Unit {0}
Behind a b (e ∷ es) = (e ≡ a → Has es b) × Behind a b es

-- there is no a
abbrev pub Lacks : PartEvent → List PartEvent → Type 0
Lacks a [] = Unit {0}
Lacks a (e ∷ es) = (e ≡ a → ⊥) × Lacks a es

-- what is used of them

pub front_has : (a b : PartEvent) (xs ys : List PartEvent) → Before a b (xs ++ ys) → Has xs b → Has xs a
front_has a b [] ys order has = absurd has
front_has a b (e ∷ xs) ys order has = ⊎_elim (λ same. absurd (order.0 same)) (λ more. ⊎_elim (λ first. inl first) (λ rest. inr (front_has a b xs ys rest more)) order.1) has

end_all : (a b : PartEvent) (ys : List PartEvent) → Behind a b ys → Has ys a → Has ys b
end_all a b [] order has = absurd has
end_all a b (e ∷ ys) order has = ⊎_elim (λ same. inr (order.0 same)) (λ more. inr (end_all a b ys order.1 more)) has

pub end_has : (a b : PartEvent) (xs ys : List PartEvent) → Behind a b (xs ++ ys) → Has ys a → Has ys b
end_has a b [] ys order has = end_all a b ys order has
end_has a b (e ∷ xs) ys order has = end_has a b xs ys order.1 has

pub lacks_front : (a : PartEvent) (xs ys : List PartEvent) → Lacks a (xs ++ ys) → Has xs a → ⊥
lacks_front a [] ys lacks has = has
lacks_front a (e ∷ xs) ys lacks has = ⊎_elim (λ same. lacks.0 same) (λ more. lacks_front a xs ys lacks.1 more) has

-- where b is last
pub ends_behind : (a b : PartEvent) (xs : List PartEvent) → (b ≡ a → ⊥) → Behind a b (xs ++ b ∷ [])
ends_behind a b [] differ = (λ same. absurd (differ same), tt)
ends_behind a b (e ∷ xs) differ = (λ _. has_right xs (b ∷ []) b (inl refl), ends_behind a b xs differ)

-- lists of which something holds, put together
pub record IsClosed (B : List PartEvent → Type 0) : Type 0 where
  pub none : B []
  pub joined : (xs ys : List PartEvent) → B xs → B ys → B (xs ++ ys)

before_joined : (a b : PartEvent) (xs ys : List PartEvent) → Before a b xs → Before a b ys → Before a b (xs ++ ys)
before_joined a b [] ys s t = t
before_joined a b (e ∷ xs) ys s t = (s.0, ⊎_elim (λ first. inl first) (λ rest. inr (before_joined a b xs ys rest t)) s.1)

pub before_closed : (a b : PartEvent) → IsClosed (Before a b)
before_closed a b = record { none = tt; joined = before_joined a b }

behind_joined : (a b : PartEvent) (xs ys : List PartEvent) → Behind a b xs → Behind a b ys → Behind a b (xs ++ ys)
behind_joined a b [] ys s t = t
behind_joined a b (e ∷ xs) ys s t = (λ same. has_left xs ys b (s.0 same), behind_joined a b xs ys s.1 t)

pub behind_closed : (a b : PartEvent) → IsClosed (Behind a b)
behind_closed a b = record { none = tt; joined = behind_joined a b }

lacks_joined : (a : PartEvent) (xs ys : List PartEvent) → Lacks a xs → Lacks a ys → Lacks a (xs ++ ys)
lacks_joined a [] ys s t = t
lacks_joined a (e ∷ xs) ys s t = (s.0, lacks_joined a xs ys s.1 t)

pub lacks_closed : (a : PartEvent) → IsClosed (Lacks a)
lacks_closed a = record { none = tt; joined = lacks_joined a }

module _ (B : List PartEvent → Type 0) (closed : IsClosed B) where
  flat_has : {X : Type 0} (f : X → List PartEvent) (xs : List X) → ((x : X) → Has xs x → B (f x)) → B (flat_map f xs)
  flat_has f [] each = closed.none
  flat_has f (x ∷ xs) each = closed.joined (f x) (flat_map f xs) (each x (inl refl)) (flat_has f xs (λ y more. each y (inr more)))

  module _ (h : Classes) (inner : Inner) (c : ClassId) (p : ObjectPart) (base : (b : Base ClassId) → Contains (bases_of h c) b → b.is_virtual ≡ false → B (inner AsBase b.class (base_part p b))) (shared : (v : ClassId) → B (inner AsBase v (shared_part p v))) (held : (m i : ℕ) (d : ClassId) (member : Member ClassId) → slice_get (members_of h c) m ≡ Some member → member.ty ≡ Object d → B (inner InFull d (element p m i d))) where
    shared_has : (form : Form) (order : List ClassId) → B (shared_events inner form p order)
    shared_has AsBase order = closed.none
    shared_has InFull order = flat_has (λ v. inner AsBase v (shared_part p v)) order (λ v _. shared v)

    base_has : (b : Base ClassId) → Contains (bases_of h c) b → B (base_events inner p b)
    base_has b listed = split b.is_virtual (λ way. b.is_virtual ≡ way → B (if way then [] else inner AsBase b.class (base_part p b))) (λ _ _. closed.none) (λ plain _. base b listed plain) refl

    typed_has : (bodies : Bodies) (m : ℕ) (indices : List ℕ) (member : Member ClassId) (type : FieldType ClassId) → slice_get (members_of h c) m ≡ Some member → member.ty ≡ type → ((b : Bool) → B (init_events b p m)) → B (typed_events inner bodies c p m indices type)
    typed_has bodies m indices member (Value type) there is init = init (bodies.initializer c m)
    typed_has bodies m indices member (Object d) there is init = flat_has (λ i. inner InFull d (element p m i d)) indices (λ i _. held m i d member there is)

    member_has : (bodies : Bodies) (m : ℕ) (o : Option (Member ClassId)) → slice_get (members_of h c) m ≡ o → ((b : Bool) → B (init_events b p m)) → B (member_events inner bodies c p m o)
    member_has bodies m None there init = closed.none
    member_has bodies m (Some member) there init = typed_has bodies m (upto (elements_of member.count)) member member.ty there refl init

    typed_ends : (m : ℕ) (indices : List ℕ) (member : Member ClassId) (type : FieldType ClassId) → slice_get (members_of h c) m ≡ Some member → member.ty ≡ type → B (typed_ending inner p m indices type)
    typed_ends m indices member (Value type) there is = closed.none
    typed_ends m indices member (Object d) there is = flat_has (λ i. inner InFull d (element p m i d)) indices (λ i _. held m i d member there is)

    member_ends : (m : ℕ) (o : Option (Member ClassId)) → slice_get (members_of h c) m ≡ o → B (member_ending inner p m o)
    member_ends m None there = closed.none
    member_ends m (Some member) there = typed_ends m (backwards (upto (elements_of member.count))) member member.ty there refl

    -- a construction
    pub built_has : (bodies : Bodies) (form : Form) → B (Begin p ∷ []) → B (Ready p ∷ []) → ((m : ℕ) → B (Init p m ∷ [])) → B (Body p ∷ []) → B (Done p ∷ []) → B (built_by h bodies inner form c p)
    built_has bodies form begins ready sets runs ends =
        let members = flat_map (λ m. member_events inner bodies c p m (slice_get (members_of h c) m)) (upto (length (members_of h c))) in
        let bases = flat_map (base_events inner p) (bases_of h c) in
        let body = body_events (bodies.constructor c) p in
        let shares = shared_events inner form p (virtual_order h c) in
        let last = body ++ Done p ∷ [] in
        let behind = Ready p ∷ (members ++ last) in
        let b_last : B last = closed.joined body (Done p ∷ []) (body_has (bodies.constructor c)) ends in
        let b_members : B members = flat_has (λ m. member_events inner bodies c p m (slice_get (members_of h c) m)) (upto (length (members_of h c))) (λ m _. member_has bodies m (slice_get (members_of h c) m) refl (init_has m)) in
        let b_behind : B behind = closed.joined (Ready p ∷ []) (members ++ last) ready (closed.joined members last b_members b_last) in
        let b_bases : B bases = flat_has (base_events inner p) (bases_of h c) (λ b has. base_has b (contains_from_has (bases_of h c) b has)) in
        closed.joined (Begin p ∷ []) (shares ++ (bases ++ behind)) begins (closed.joined shares (bases ++ behind) (shared_has form (virtual_order h c)) (closed.joined bases behind b_bases b_behind))
      where
        body_has : (b : Bool) → B (body_events b p)
        body_has true = runs
        body_has false = closed.none

        init_has : (m : ℕ) (b : Bool) → B (init_events b p m)
        init_has m true = sets m
        init_has m false = closed.none

    -- a destruction, but for its last event
    pub ended_has : (bodies : Bodies) (form : Form) → ((b : Base ClassId) → Has (backwards (bases_of h c)) b → Contains (bases_of h c) b) → B (Ending p ∷ []) → B (Body p ∷ []) → B (Bases p ∷ []) → B (End p ∷ []) → B (ended_by h bodies inner form c p)
    ended_has bodies form turned begins runs goes ends =
        let members = flat_map (λ m. member_ending inner p m (slice_get (members_of h c) m)) (backwards (upto (length (members_of h c)))) in
        let bases = flat_map (base_events inner p) (backwards (bases_of h c)) in
        let body = body_events (bodies.destructor c) p in
        let shares = shared_events inner form p (backwards (virtual_order h c)) in
        let last = shares ++ End p ∷ [] in
        let behind = Bases p ∷ (bases ++ last) in
        let b_last : B last = closed.joined shares (End p ∷ []) (shared_has form (backwards (virtual_order h c))) ends in
        let b_bases : B bases = flat_has (base_events inner p) (backwards (bases_of h c)) (λ b has. base_has b (turned b has)) in
        let b_behind : B behind = closed.joined (Bases p ∷ []) (bases ++ last) goes (closed.joined bases last b_bases b_last) in
        let b_members : B members = flat_has (λ m. member_ending inner p m (slice_get (members_of h c) m)) (backwards (upto (length (members_of h c)))) (λ m _. member_ends m (slice_get (members_of h c) m) refl) in
        closed.joined (Ending p ∷ []) (body ++ (members ++ behind)) begins (closed.joined body (members ++ behind) (body_has (bodies.destructor c)) (closed.joined members behind b_members b_behind))
      where
        body_has : (b : Bool) → B (body_events b p)
        body_has true = runs
        body_has false = closed.none
