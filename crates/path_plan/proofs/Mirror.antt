-- Destruction is construction backwards: the law on the lists.
use Rattle.std.proofs.Common.{◌≡◌, ℕ, zero, suc, Bool, true, false, Option, Some, None, List, [], ◌∷◌, ◌++◌, length, refl, ap, sym, ◌∙◌, append_assoc, append-nil}
use Rattle.std.specs.Prelude.{slice_get, if◌then◌else◌}
use Rattle.std.specs.List.{flat_map}
use Rattle.std.proofs.lemmas.List.Concat.{flat_map-append}
use Rattle.cxx_hierarchy.specs.declared.records.ClassId.{ClassId}
use Rattle.cxx_hierarchy.specs.declared.records.Base.{Base}
use Rattle.cxx_hierarchy.specs.declared.records.Member.{Member}
use Rattle.cxx_hierarchy.specs.declared.records.FieldType.{FieldType}
use Rattle.cxx_hierarchy.specs.declared.records.FieldType.TheVariants.{Value, Object}
use Rattle.cxx_hierarchy.specs.Classes.{Classes, bases_of, members_of}
use Rattle.cxx_hierarchy.specs.Declarations.{elements_of}
use Rattle.foundation.proofs.Truth.{split}
use Rattle.path_plan.specs.Places.{ObjectPart, base_part, shared_part, element}
use Rattle.path_plan.specs.Phases.{PartEvent, Begin, Ready, Done, Ending, Bases, End}
use Rattle.path_plan.specs.declared.form.Form.{Form}
use Rattle.path_plan.specs.declared.form.Form.TheVariants.{InFull, AsBase}
use Rattle.path_plan.specs.Plans.{Bodies, Inner, backwards, upto, virtual_order, shared_events, base_events, typed_events, member_events, body_events, built_by, build, typed_ending, member_ending, ended_by, unbuild}
use Rattle.path_plan.specs.Mirrors.{mirrored_event, mirrored, exchanged}

abbrev pub turned : Inner → Inner
turned inner form c p = mirrored (inner form c p)

mirrored_append : (xs ys : List PartEvent) → mirrored (xs ++ ys) ≡ mirrored ys ++ mirrored xs
mirrored_append [] ys = sym (append-nil (mirrored ys))
mirrored_append (x ∷ xs) ys = ap (λ t. t ++ mirrored_event x ∷ []) (mirrored_append xs ys) ∙ append_assoc (mirrored ys) (mirrored xs) (mirrored_event x ∷ [])

mirrored_map : {X : Type 0} (f : X → List PartEvent) (xs : List X) → mirrored (flat_map f xs) ≡ flat_map (λ x. mirrored (f x)) (backwards xs)
mirrored_map f [] = refl
mirrored_map {X} f (x ∷ xs) =
    let g : X → List PartEvent = λ y. mirrored (f y) in
    mirrored_append (f x) (flat_map f xs) ∙ (ap (λ t. t ++ mirrored (f x)) (mirrored_map f xs)
    ∙ sym (flat_map-append g (backwards xs) (x ∷ []) ∙ ap (λ t. flat_map g (backwards xs) ++ t) (append-nil (g x))))

mirrored_each : {X : Type 0} (f g : X → List PartEvent) (xs : List X) → ((x : X) → mirrored (f x) ≡ g x) → mirrored (flat_map f xs) ≡ flat_map g (backwards xs)
mirrored_each {X} f g xs e = mirrored_map f xs ∙ (λ i. flat_map (λ (x : X). e x i) (backwards xs))

shared_mirrored : (inner : Inner) (form : Form) (p : ObjectPart) (order : List ClassId) → mirrored (shared_events inner form p order) ≡ shared_events (turned inner) form p (backwards order)
shared_mirrored inner AsBase p order = refl
shared_mirrored inner InFull p order = mirrored_map (λ v. inner AsBase v (shared_part p v)) order

base_mirrored : (inner : Inner) (p : ObjectPart) (b : Base ClassId) → mirrored (base_events inner p b) ≡ base_events (turned inner) p b
base_mirrored inner p b = split b.is_virtual (λ t. mirrored (if t then [] else inner AsBase b.class (base_part p b)) ≡ (if t then [] else turned inner AsBase b.class (base_part p b))) (λ e. refl) (λ e. refl)

body_mirrored : (declared : Bool) (p : ObjectPart) → mirrored (body_events declared p) ≡ body_events declared p
body_mirrored true p = refl
body_mirrored false p = refl

typed_mirrored : (inner : Inner) (bodies : Bodies) (c : ClassId) (p : ObjectPart) (m : ℕ) (indices : List ℕ) (ty : FieldType ClassId) → mirrored (typed_events inner (exchanged bodies) c p m indices ty) ≡ typed_ending (turned inner) p m (backwards indices) ty
typed_mirrored inner bodies c p m indices (Value type) = refl
typed_mirrored inner bodies c p m indices (Object d) = mirrored_map (λ i. inner InFull d (element p m i d)) indices

member_mirrored : (inner : Inner) (bodies : Bodies) (c : ClassId) (p : ObjectPart) (m : ℕ) (o : Option (Member ClassId)) → mirrored (member_events inner (exchanged bodies) c p m o) ≡ member_ending (turned inner) p m o
member_mirrored inner bodies c p m None = refl
member_mirrored inner bodies c p m (Some member) = typed_mirrored inner bodies c p m (upto (elements_of member.count)) member.ty

-- seven points, backwards
points : (s b m y : List PartEvent) (begin ready done : PartEvent) → mirrored (begin ∷ (s ++ (b ++ (ready ∷ (m ++ (y ++ done ∷ []))))))
    ≡ mirrored_event done ∷ (mirrored y ++ (mirrored m ++ (mirrored_event ready ∷ (mirrored b ++ (mirrored s ++ mirrored_event begin ∷ [])))))
points s b m y begin ready done =
    rw (mirrored_append s (b ++ (ready ∷ (m ++ (y ++ done ∷ [])))), mirrored_append b (ready ∷ (m ++ (y ++ done ∷ []))), mirrored_append m (y ++ done ∷ []), mirrored_append y (done ∷ []))
    (simp append_assoc)

pub law_step : (h : Classes) (bodies : Bodies) (inner : Inner) (form : Form) (c : ClassId) (p : ObjectPart) → mirrored (built_by h (exchanged bodies) inner form c p) ≡ ended_by h bodies (turned inner) form c p
law_step h bodies inner form c p =
    points (shared_events inner form p (virtual_order h c)) (flat_map (base_events inner p) (bases_of h c)) (flat_map (λ m. member_events inner (exchanged bodies) c p m (slice_get (members_of h c) m)) (upto (length (members_of h c)))) (body_events (bodies.destructor c) p) (Begin p) (Ready p) (Done p)
    ∙ λ i. Ending p ∷ (body_mirrored (bodies.destructor c) p i
    ++ (mirrored_each (λ m. member_events inner (exchanged bodies) c p m (slice_get (members_of h c) m)) (λ m. member_ending (turned inner) p m (slice_get (members_of h c) m)) (upto (length (members_of h c))) (λ m. member_mirrored inner bodies c p m (slice_get (members_of h c) m)) i
    ++ (Bases p ∷ (mirrored_each (base_events inner p) (base_events (turned inner) p) (bases_of h c) (base_mirrored inner p) i
    ++ (shared_mirrored inner form p (virtual_order h c) i ++ End p ∷ [])))))

pub mirror_law : (h : Classes) (bodies : Bodies) (n : ℕ) (form : Form) (c : ClassId) (p : ObjectPart) → mirrored (build h (exchanged bodies) n form c p) ≡ unbuild h bodies n form c p
unfolding build unbuild
mirror_law h bodies zero form c p = refl
mirror_law h bodies (suc n) form c p = law_step h bodies (build h (exchanged bodies) n) form c p ∙ (λ i. ended_by h bodies (λ f d q. mirror_law h bodies n f d q i) form c p)
