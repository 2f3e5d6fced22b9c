-- What is left of a plan is its next event, and what is left behind it.
use Rattle.std.proofs.Common.{◌≡◌, ℕ, Bool, true, false, Option, Some, None, List, [], ◌∷◌, ◌++◌, map, length, append_assoc, append-nil, refl, ap, sym, ◌∙◌}
use Rattle.std.specs.Prelude.{slice_get, if◌then◌else◌}
use Rattle.std.specs.List.{flat_map}
use Rattle.std.proofs.lemmas.List.Concat.{flat_map-append}
use Rattle.cxx_hierarchy.specs.declared.records.ClassId.{ClassId}
use Rattle.cxx_hierarchy.specs.declared.records.Base.{Base}
use Rattle.cxx_hierarchy.specs.declared.records.Member.{Member}
use Rattle.cxx_hierarchy.specs.declared.records.FieldType.{FieldType}
use Rattle.cxx_hierarchy.specs.declared.records.FieldType.TheVariants.{Value, Object}
use Rattle.cxx_hierarchy.specs.Classes.{Classes, bases_of, members_of}
use Rattle.cxx_hierarchy.specs.Declarations.{elements_of}
use Rattle.cxx_hierarchy.specs.Hierarchies.{IsHierarchy}
use Rattle.cxx_subobject.specs.Locations.{ObjectPart}
use Rattle.foundation.proofs.Truth.{split}
use Rattle.path_plan.specs.Places.{base_part, shared_part, element}
use Rattle.path_plan.specs.Phases.{PartEvent, Begin, Ready, Done, Ending, Bases, End}
use Rattle.path_plan.specs.declared.form.Form.{Form}
use Rattle.path_plan.specs.declared.form.Form.TheVariants.{InFull, AsBase}
use Rattle.path_plan.specs.Plans.{Bodies, Inner, upto, backwards, virtual_order}
use Rattle.path_plan.specs.Pieces.{Piece, Own, Sub, expand, shared_pieces, base_pieces, init_pieces, body_pieces, typed_pieces, member_pieces, built_pieces, ended_pieces}
use Rattle.path_plan.specs.Whole.{whole_part, construction, destruction}
use Rattle.path_plan.proofs.Pieces.{plan_pieces, unplan_pieces}
use Rattle.path_model.specs.States.{plan_bodies}
use Rattle.code_blocks.specs.Blocks.{base_course}
use Rattle.code_blocks.specs.Items.{Item, Does, Shares, Inherits, Holds, indices, pieces_of, event_of, shared_base_items, base_items, init_items, body_items, typed_items, member_items, built_items, ended_items}
use Rattle.code_blocks.specs.declared.items.Kind.{Kind}
use Rattle.code_blocks.specs.declared.items.Kind.TheVariants.{AtDone, AtEnd}
use Rattle.code_blocks.specs.declared.items.Way.TheVariants.{Forwards, Backwards}
use Rattle.code_ops.specs.declared.routines.Course.{Course}
use Rattle.code_ops.specs.declared.routines.Course.TheVariants.{Constructs, Destroys, Deletes}
use Rattle.agree_relation.specs.Worlds.{World, world_classes}
use Rattle.agree_relation.specs.Goings.{Going, going, at_left, element_going, opened_goings, course_events, events_of, events_left}

-- the pieces of items are those of the plan
flat_same : {X : Type 0} (p : ObjectPart) (f : X → List Item) (g : X → List Piece) (xs : List X) → ((x : X) → flat_map (pieces_of p) (f x) ≡ g x) → flat_map (pieces_of p) (flat_map f xs) ≡ flat_map g xs
flat_same p f g [] e = refl
flat_same p f g (x ∷ xs) e = flat_map-append (pieces_of p) (f x) (flat_map f xs) ∙ (ap (λ t. t ++ flat_map (pieces_of p) (flat_map f xs)) (e x) ∙ ap (λ t. g x ++ t) (flat_same p f g xs e))

shared_same : (p : ObjectPart) (form : Form) (order : List ClassId) → flat_map (pieces_of p) (shared_base_items form order) ≡ shared_pieces form p order
shared_same p AsBase order = refl
shared_same p InFull order = go order
  where
    go : (order : List ClassId) → flat_map (pieces_of p) (map Shares order) ≡ map (λ v. Sub AsBase v (shared_part p v)) order
    go [] = refl
    go (v ∷ order) = ap (λ t. Sub AsBase v (shared_part p v) ∷ t) (go order)

base_same : (p : ObjectPart) (b : Base ClassId) → flat_map (pieces_of p) (base_items b) ≡ base_pieces p b
base_same p b = split b.is_virtual (λ t. flat_map (pieces_of p) (if t then [] else Inherits b ∷ []) ≡ (if t then [] else Sub AsBase b.class (base_part p b) ∷ [])) (λ e. refl) (λ e. refl)

init_same : (p : ObjectPart) (b : Bool) (m : ℕ) → flat_map (pieces_of p) (init_items b m) ≡ init_pieces b p m
init_same p true m = refl
init_same p false m = refl

body_same : (p : ObjectPart) (b : Bool) → flat_map (pieces_of p) (body_items b) ≡ body_pieces b p
body_same p true = refl
body_same p false = refl

typed_same : (p : ObjectPart) (b : Bool) (m n : ℕ) (ty : FieldType ClassId) → (flat_map (pieces_of p) (typed_items b Forwards m n ty) ≡ typed_pieces b p m (upto n) ty) × (flat_map (pieces_of p) (typed_items b Backwards m n ty) ≡ typed_pieces b p m (backwards (upto n)) ty)
typed_same p b m n (Value type) = (init_same p b m, init_same p b m)
typed_same p b m n (Object d) = (append-nil (map (λ i. Sub InFull d (element p m i d)) (upto n)), append-nil (map (λ i. Sub InFull d (element p m i d)) (backwards (upto n))))

built_member : (p : ObjectPart) (b : Bool) (m : ℕ) (o : Option (Member ClassId)) → flat_map (pieces_of p) (member_items b Forwards m o) ≡ member_pieces b (λ is. is) p m o
built_member p b m None = refl
built_member p b m (Some member) = (typed_same p b m (elements_of member.count) member.ty).0

ended_member : (p : ObjectPart) (m : ℕ) (o : Option (Member ClassId)) → flat_map (pieces_of p) (member_items false Backwards m o) ≡ member_pieces false backwards p m o
ended_member p m None = refl
ended_member p m (Some member) = (typed_same p false m (elements_of member.count) member.ty).1

more : (p : ObjectPart) (xs ys : List Item) (us vs : List Piece) → flat_map (pieces_of p) xs ≡ us → flat_map (pieces_of p) ys ≡ vs → flat_map (pieces_of p) (xs ++ ys) ≡ us ++ vs
more p xs ys us vs a b = flat_map-append (pieces_of p) xs ys ∙ (ap (λ t. t ++ flat_map (pieces_of p) ys) a ∙ ap (λ t. us ++ t) b)

pub built_same : (h : Classes) (bodies : Bodies) (form : Form) (c : ClassId) (p : ObjectPart) → flat_map (pieces_of p) (built_items h bodies form c) ≡ built_pieces h bodies form c p
built_same h bodies form c p = ap (λ t. Own (Begin p) ∷ t)
    (more p (shared_base_items form (virtual_order h c)) _ (shared_pieces form p (virtual_order h c)) _ (shared_same p form (virtual_order h c))
    (more p (flat_map base_items (bases_of h c)) _ (flat_map (base_pieces p) (bases_of h c)) _ (flat_same p base_items (base_pieces p) (bases_of h c) (base_same p))
    (ap (λ t. Own (Ready p) ∷ t)
    (more p (flat_map (λ m. member_items (bodies.initializer c m) Forwards m (slice_get (members_of h c) m)) (upto (length (members_of h c)))) _ (flat_map (λ m. member_pieces (bodies.initializer c m) (λ is. is) p m (slice_get (members_of h c) m)) (upto (length (members_of h c)))) _
    (flat_same p (λ m. member_items (bodies.initializer c m) Forwards m (slice_get (members_of h c) m)) (λ m. member_pieces (bodies.initializer c m) (λ is. is) p m (slice_get (members_of h c) m)) (upto (length (members_of h c))) (λ m. built_member p (bodies.initializer c m) m (slice_get (members_of h c) m)))
    (more p (body_items (bodies.constructor c)) (Does AtDone ∷ []) (body_pieces (bodies.constructor c) p) (Own (Done p) ∷ []) (body_same p (bodies.constructor c)) refl)))))

pub ended_same : (h : Classes) (bodies : Bodies) (form : Form) (c : ClassId) (p : ObjectPart) → flat_map (pieces_of p) (ended_items h bodies form c) ≡ ended_pieces h bodies form c p
ended_same h bodies form c p = ap (λ t. Own (Ending p) ∷ t)
    (more p (body_items (bodies.destructor c)) _ (body_pieces (bodies.destructor c) p) _ (body_same p (bodies.destructor c))
    (more p (flat_map (λ m. member_items false Backwards m (slice_get (members_of h c) m)) (backwards (upto (length (members_of h c))))) _ (flat_map (λ m. member_pieces false backwards p m (slice_get (members_of h c) m)) (backwards (upto (length (members_of h c))))) _
    (flat_same p (λ m. member_items false Backwards m (slice_get (members_of h c) m)) (λ m. member_pieces false backwards p m (slice_get (members_of h c) m)) (backwards (upto (length (members_of h c)))) (λ m. ended_member p m (slice_get (members_of h c) m)))
    (ap (λ t. Own (Bases p) ∷ t)
    (more p (flat_map base_items (backwards (bases_of h c))) _ (flat_map (base_pieces p) (backwards (bases_of h c))) _ (flat_same p base_items (base_pieces p) (backwards (bases_of h c)) (base_same p))
    (more p (shared_base_items form (backwards (virtual_order h c))) (Does AtEnd ∷ []) (shared_pieces form p (backwards (virtual_order h c))) (Own (End p) ∷ []) (shared_same p form (backwards (virtual_order h c))) refl)))))

-- the events of a part at the start of its plan are its plan
pub plan_events : (w : World) → IsHierarchy (world_classes w) → (course : Course) (form : Form) (c : ClassId) (p : ObjectPart) → events_of w (going w course form c p) ≡ course_events w course form c p
plan_events w keeps Constructs form c p = ap (λ t. flat_map (expand (course_events w Constructs)) t) (built_same (world_classes w) (plan_bodies w.setup.program) form c p) ∙ plan_pieces (world_classes w) keeps (plan_bodies w.setup.program) form c p
plan_events w keeps Destroys form c p = ap (λ t. flat_map (expand (course_events w Destroys)) t) (ended_same (world_classes w) (plan_bodies w.setup.program) form c p) ∙ unplan_pieces (world_classes w) keeps (plan_bodies w.setup.program) form c p
plan_events w keeps Deletes form c p = ap (λ t. flat_map (expand (course_events w Deletes)) t) (ended_same (world_classes w) (plan_bodies w.setup.program) form c p) ∙ unplan_pieces (world_classes w) keeps (plan_bodies w.setup.program) form c p

inner_base : (w : World) (course : Course) → course_events w (base_course course) ≡ course_events w course
inner_base w Constructs = refl
inner_base w Destroys = refl
inner_base w Deletes = refl

sub_events : (w : World) → IsHierarchy (world_classes w) → (course : Course) (form : Form) (c : ClassId) (p : ObjectPart) → events_of w (going w (base_course course) form c p) ≡ course_events w course form c p
sub_events w keeps course form c p = plan_events w keeps (base_course course) form c p ∙ ap (λ (inner : Inner). inner form c p) (inner_base w course)

-- opening parts leaves the events as they are

abbrev pieces_left : World → Going → List Item → List PartEvent
pieces_left w f left = flat_map (expand (course_events w f.course)) (flat_map (pieces_of f.part) left)

elements_events : (w : World) → IsHierarchy (world_classes w) → (f : Going) (m : ℕ) (d : ClassId) (is : List ℕ) (gs : List Going) → events_left w (map (element_going w f m d) is ++ gs) ≡ flat_map (expand (course_events w f.course)) (map (λ i. Sub InFull d (element f.part m i d)) is) ++ events_left w gs
elements_events w keeps f m d [] gs = refl
elements_events w keeps f m d (i ∷ is) gs =
    (λ t. sub_events w keeps f.course InFull d (element f.part m i d) t ++ elements_events w keeps f m d is gs t)
    ∙ sym (append_assoc (course_events w f.course InFull d (element f.part m i d)) (flat_map (expand (course_events w f.course)) (map (λ i. Sub InFull d (element f.part m i d)) is)) (events_left w gs))

one_opened : (w : World) → IsHierarchy (world_classes w) → (f : Going) (form : Form) (c : ClassId) (q : ObjectPart) (left : List Item) (gs below : List Going) → events_left w gs ≡ pieces_left w f left ++ events_left w below
    → events_left w (going w (base_course f.course) form c q ∷ gs) ≡ (course_events w f.course form c q ++ pieces_left w f left) ++ events_left w below
one_opened w keeps f form c q left gs below e = (λ t. sub_events w keeps f.course form c q t ++ e t) ∙ sym (append_assoc (course_events w f.course form c q) (pieces_left w f left) (events_left w below))

pub opened_events : (w : World) → IsHierarchy (world_classes w) → (f : Going) (left : List Item) (below : List Going) → events_left w (opened_goings w f left below) ≡ pieces_left w f left ++ events_left w below
opened_events w keeps f [] below = refl
opened_events w keeps f (Does k ∷ left) below = refl
opened_events w keeps f (Shares v ∷ left) below = one_opened w keeps f AsBase v (shared_part f.part v) left (opened_goings w f left below) below (opened_events w keeps f left below)
opened_events w keeps f (Inherits b ∷ left) below = one_opened w keeps f AsBase b.class (base_part f.part b) left (opened_goings w f left below) below (opened_events w keeps f left below)
opened_events w keeps f (Holds way m d n ∷ left) below =
    let subs = map (λ i. Sub InFull d (element f.part m i d)) (indices way n) in
    elements_events w keeps f m d (indices way n) (opened_goings w f left below)
    ∙ (ap (λ t. flat_map (expand (course_events w f.course)) subs ++ t) (opened_events w keeps f left below)
    ∙ (sym (append_assoc (flat_map (expand (course_events w f.course)) subs) (pieces_left w f left) (events_left w below))
    ∙ ap (λ t. t ++ events_left w below) (sym (flat_map-append (expand (course_events w f.course)) subs (flat_map (pieces_of f.part) left)))))

-- the next event is the top frame's own
pub next_event : (w : World) → IsHierarchy (world_classes w) → (f : Going) (k : Kind) (left : List Item) (below : List Going) → events_left w (at_left f (Does k ∷ left) ∷ below) ≡ event_of k f.part ∷ events_left w (opened_goings w f left below)
next_event w keeps f k left below = ap (λ t. event_of k f.part ∷ t) (sym (opened_events w keeps f left below))

-- of a new object and of one that is deleted
pub construction_events : (w : World) → IsHierarchy (world_classes w) → (k : ℕ) (c : ClassId) (fs : List Going) → events_left w (going w Constructs InFull c (whole_part k c) ∷ fs) ≡ construction (world_classes w) (plan_bodies w.setup.program) k c ++ events_left w fs
construction_events w keeps k c fs = ap (λ t. t ++ events_left w fs) (plan_events w keeps Constructs InFull c (whole_part k c))

pub destruction_events : (w : World) → IsHierarchy (world_classes w) → (k : ℕ) (c : ClassId) (fs : List Going) → events_left w (going w Deletes InFull c (whole_part k c) ∷ fs) ≡ destruction (world_classes w) (plan_bodies w.setup.program) k c ++ events_left w fs
destruction_events w keeps k c fs = ap (λ t. t ++ events_left w fs) (plan_events w keeps Deletes InFull c (whole_part k c))
