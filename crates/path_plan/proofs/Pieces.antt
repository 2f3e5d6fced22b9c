-- Frames of pieces and the flat list: one step of the one is one of the other, with no induction over plans.
use Rattle.std.proofs.Common.{◌≡◌, ℕ, Bool, true, false, Option, Some, None, List, [], ◌∷◌, ◌++◌, map, length, refl, ap, sym, ◌∙◌, append_assoc, append-nil}
use Rattle.std.specs.Prelude.{slice_get, if◌then◌else◌}
use Rattle.std.specs.List.{flat_map}
use Rattle.std.proofs.lemmas.List.Concat.{flat_map-append}
use Rattle.cxx_hierarchy.specs.declared.records.ClassId.{ClassId}
use Rattle.cxx_hierarchy.specs.declared.records.Base.{Base}
use Rattle.cxx_hierarchy.specs.declared.records.Member.{Member}
use Rattle.cxx_hierarchy.specs.declared.records.FieldType.{FieldType}
use Rattle.cxx_hierarchy.specs.declared.records.FieldType.TheVariants.{Value, Object}
use Rattle.cxx_hierarchy.specs.Classes.{Classes, bases_of, members_of}
use Rattle.cxx_hierarchy.specs.Hierarchies.{IsHierarchy}
use Rattle.cxx_hierarchy.specs.Declarations.{elements_of}
use Rattle.foundation.proofs.Truth.{split}
use Rattle.path_plan.specs.Places.{ObjectPart, base_part, shared_part, element}
use Rattle.path_plan.specs.Phases.{PartEvent, Begin, Ready, Done, Ending, Bases, End}
use Rattle.path_plan.specs.declared.form.Form.{Form}
use Rattle.path_plan.specs.declared.form.Form.TheVariants.{InFull, AsBase}
use Rattle.path_plan.specs.Plans.{Bodies, Inner, upto, backwards, virtual_order, shared_events, base_events, init_events, typed_events, member_events, body_events, built_by, typed_ending, member_ending, ended_by, plan, unplan}
use Rattle.path_plan.specs.Pieces.{Piece, Own, Sub, expand, shared_pieces, base_pieces, init_pieces, body_pieces, typed_pieces, member_pieces, built_pieces, ended_pieces, Pending, pending, rest_of_plan, opened_pieces}
use Rattle.path_plan.proofs.Steps.{plan_is, unplan_is}

expand_map : {X : Type 0} (inner : Inner) (f : X → Piece) (xs : List X) → flat_map (expand inner) (map f xs) ≡ flat_map (λ x. expand inner (f x)) xs
expand_map inner f [] = refl
expand_map inner f (x ∷ xs) = ap (λ t. expand inner (f x) ++ t) (expand_map inner f xs)

expand_flat : {X : Type 0} (inner : Inner) (f : X → List Piece) (g : X → List PartEvent) (xs : List X) → ((x : X) → flat_map (expand inner) (f x) ≡ g x) → flat_map (expand inner) (flat_map f xs) ≡ flat_map g xs
expand_flat inner f g [] e = refl
expand_flat inner f g (x ∷ xs) e = flat_map-append (expand inner) (f x) (flat_map f xs) ∙ (ap (λ t. t ++ flat_map (expand inner) (flat_map f xs)) (e x) ∙ ap (λ t. g x ++ t) (expand_flat inner f g xs e))

shared_expand : (inner : Inner) (form : Form) (p : ObjectPart) (order : List ClassId) → flat_map (expand inner) (shared_pieces form p order) ≡ shared_events inner form p order
shared_expand inner AsBase p order = refl
shared_expand inner InFull p order = expand_map inner (λ v. Sub AsBase v (shared_part p v)) order

base_expand : (inner : Inner) (p : ObjectPart) (b : Base ClassId) → flat_map (expand inner) (base_pieces p b) ≡ base_events inner p b
base_expand inner p b = split b.is_virtual (λ t. flat_map (expand inner) (if t then [] else Sub AsBase b.class (base_part p b) ∷ []) ≡ (if t then [] else inner AsBase b.class (base_part p b))) (λ e. refl) (λ e. append-nil (inner AsBase b.class (base_part p b)))

init_expand : (inner : Inner) (b : Bool) (p : ObjectPart) (m : ℕ) → flat_map (expand inner) (init_pieces b p m) ≡ init_events b p m
init_expand inner true p m = refl
init_expand inner false p m = refl

body_expand : (inner : Inner) (b : Bool) (p : ObjectPart) → flat_map (expand inner) (body_pieces b p) ≡ body_events b p
body_expand inner true p = refl
body_expand inner false p = refl

member_expand : (inner : Inner) (bodies : Bodies) (c : ClassId) (p : ObjectPart) (m : ℕ) (o : Option (Member ClassId)) → flat_map (expand inner) (member_pieces (bodies.initializer c m) (λ is. is) p m o) ≡ member_events inner bodies c p m o
member_expand inner bodies c p m None = refl
member_expand inner bodies c p m (Some member) = typed member.ty
  where
    typed : (ty : FieldType ClassId) → flat_map (expand inner) (typed_pieces (bodies.initializer c m) p m (upto (elements_of member.count)) ty) ≡ typed_events inner bodies c p m (upto (elements_of member.count)) ty
    typed (Value type) = init_expand inner (bodies.initializer c m) p m
    typed (Object d) = expand_map inner (λ i. Sub InFull d (element p m i d)) (upto (elements_of member.count))

ending_expand : (inner : Inner) (p : ObjectPart) (m : ℕ) (o : Option (Member ClassId)) → flat_map (expand inner) (member_pieces false backwards p m o) ≡ member_ending inner p m o
ending_expand inner p m None = refl
ending_expand inner p m (Some member) = typed member.ty
  where
    typed : (ty : FieldType ClassId) → flat_map (expand inner) (typed_pieces false p m (backwards (upto (elements_of member.count))) ty) ≡ typed_ending inner p m (backwards (upto (elements_of member.count))) ty
    typed (Value type) = refl
    typed (Object d) = expand_map inner (λ i. Sub InFull d (element p m i d)) (backwards (upto (elements_of member.count)))

more : (inner : Inner) (xs ys : List Piece) (us vs : List PartEvent) → flat_map (expand inner) xs ≡ us → flat_map (expand inner) ys ≡ vs → flat_map (expand inner) (xs ++ ys) ≡ us ++ vs
more inner xs ys us vs a b = flat_map-append (expand inner) xs ys ∙ (ap (λ t. t ++ flat_map (expand inner) ys) a ∙ ap (λ t. us ++ t) b)

built_expand : (h : Classes) (bodies : Bodies) (inner : Inner) (form : Form) (c : ClassId) (p : ObjectPart) → flat_map (expand inner) (built_pieces h bodies form c p) ≡ built_by h bodies inner form c p
built_expand h bodies inner form c p =
    ap (λ t. Begin p ∷ t)
    (more inner (shared_pieces form p (virtual_order h c)) _ (shared_events inner form p (virtual_order h c)) _ (shared_expand inner form p (virtual_order h c))
    (more inner (flat_map (base_pieces p) (bases_of h c)) _ (flat_map (base_events inner p) (bases_of h c)) _ (expand_flat inner (base_pieces p) (base_events inner p) (bases_of h c) (base_expand inner p))
    (ap (λ t. Ready p ∷ t)
    (more inner (flat_map (λ m. member_pieces (bodies.initializer c m) (λ is. is) p m (slice_get (members_of h c) m)) (upto (length (members_of h c)))) _ (flat_map (λ m. member_events inner bodies c p m (slice_get (members_of h c) m)) (upto (length (members_of h c)))) _
    (expand_flat inner (λ m. member_pieces (bodies.initializer c m) (λ is. is) p m (slice_get (members_of h c) m)) (λ m. member_events inner bodies c p m (slice_get (members_of h c) m)) (upto (length (members_of h c))) (λ m. member_expand inner bodies c p m (slice_get (members_of h c) m)))
    (more inner (body_pieces (bodies.constructor c) p) (Own (Done p) ∷ []) (body_events (bodies.constructor c) p) (Done p ∷ []) (body_expand inner (bodies.constructor c) p) refl)))))

ended_expand : (h : Classes) (bodies : Bodies) (inner : Inner) (form : Form) (c : ClassId) (p : ObjectPart) → flat_map (expand inner) (ended_pieces h bodies form c p) ≡ ended_by h bodies inner form c p
ended_expand h bodies inner form c p =
    ap (λ t. Ending p ∷ t)
    (more inner (body_pieces (bodies.destructor c) p) _ (body_events (bodies.destructor c) p) _ (body_expand inner (bodies.destructor c) p)
    (more inner (flat_map (λ m. member_pieces false backwards p m (slice_get (members_of h c) m)) (backwards (upto (length (members_of h c))))) _ (flat_map (λ m. member_ending inner p m (slice_get (members_of h c) m)) (backwards (upto (length (members_of h c))))) _
    (expand_flat inner (λ m. member_pieces false backwards p m (slice_get (members_of h c) m)) (λ m. member_ending inner p m (slice_get (members_of h c) m)) (backwards (upto (length (members_of h c)))) (λ m. ending_expand inner p m (slice_get (members_of h c) m)))
    (ap (λ t. Bases p ∷ t)
    (more inner (flat_map (base_pieces p) (backwards (bases_of h c))) _ (flat_map (base_events inner p) (backwards (bases_of h c))) _ (expand_flat inner (base_pieces p) (base_events inner p) (backwards (bases_of h c)) (base_expand inner p))
    (more inner (shared_pieces form p (backwards (virtual_order h c))) (Own (End p) ∷ []) (shared_events inner form p (backwards (virtual_order h c))) (End p ∷ []) (shared_expand inner form p (backwards (virtual_order h c))) refl)))))

-- the plan of a part is what its pieces say
pub plan_pieces : (h : Classes) → IsHierarchy h → (bodies : Bodies) (form : Form) (c : ClassId) (p : ObjectPart) → flat_map (expand (plan h bodies)) (built_pieces h bodies form c p) ≡ plan h bodies form c p
plan_pieces h keeps bodies form c p = built_expand h bodies (plan h bodies) form c p ∙ sym (plan_is h keeps bodies form c p)

pub unplan_pieces : (h : Classes) → IsHierarchy h → (bodies : Bodies) (form : Form) (c : ClassId) (p : ObjectPart) → flat_map (expand (unplan h bodies)) (ended_pieces h bodies form c p) ≡ unplan h bodies form c p
unplan_pieces h keeps bodies form c p = ended_expand h bodies (unplan h bodies) form c p ∙ sym (unplan_is h keeps bodies form c p)

-- opening parts leaves the plan as it is
pub opened_rest : (inner : Inner) (pieces : Form → ClassId → ObjectPart → List Piece) → ((form : Form) (c : ClassId) (p : ObjectPart) → flat_map (expand inner) (pieces form c p) ≡ inner form c p)
    → (p : ObjectPart) (left : List Piece) (below : List Pending) → rest_of_plan inner (opened_pieces pieces p left below) ≡ flat_map (expand inner) left ++ rest_of_plan inner below
opened_rest inner pieces law p [] below = refl
opened_rest inner pieces law p (Own e ∷ left) below = refl
opened_rest inner pieces law p (Sub form c q ∷ left) below =
    ap (λ t. t ++ rest_of_plan inner (opened_pieces pieces p left below)) (law form c q)
    ∙ (ap (λ t. inner form c q ++ t) (opened_rest inner pieces law p left below) ∙ sym (append_assoc (inner form c q) (flat_map (expand inner) left) (rest_of_plan inner below)))

-- an own event of the top frame is the next event of the plan
pub own_step : (inner : Inner) (pieces : Form → ClassId → ObjectPart → List Piece) → ((form : Form) (c : ClassId) (p : ObjectPart) → flat_map (expand inner) (pieces form c p) ≡ inner form c p)
    → (p : ObjectPart) (e : PartEvent) (left : List Piece) (below : List Pending) → rest_of_plan inner (pending p (Own e ∷ left) ∷ below) ≡ e ∷ rest_of_plan inner (opened_pieces pieces p left below)
own_step inner pieces law p e left below = ap (λ t. e ∷ t) (sym (opened_rest inner pieces law p left below))

-- the first frame of a part gives its plan
pub first_rest : (inner : Inner) (pieces : Form → ClassId → ObjectPart → List Piece) → ((form : Form) (c : ClassId) (p : ObjectPart) → flat_map (expand inner) (pieces form c p) ≡ inner form c p)
    → (form : Form) (c : ClassId) (p : ObjectPart) (below : List Pending) → rest_of_plan inner (pending p (pieces form c p) ∷ below) ≡ inner form c p ++ rest_of_plan inner below
first_rest inner pieces law form c p below = ap (λ t. t ++ rest_of_plan inner below) (law form c p)
