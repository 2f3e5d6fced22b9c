-- The frames that run are the stack of their complete object, step by step.
use Rattle.std.proofs.Common.{◌≡◌, ℕ, Bool, true, false, Option, Some, None, List, [], ◌∷◌, ◌++◌, map, length, refl, ap, subst, sym, ◌∙◌}
use Rattle.std.specs.Prelude.{slice_get, if◌then◌else◌, not}
use Rattle.std.specs.List.{flat_map}
use Rattle.cxx_hierarchy.specs.declared.records.ClassId.{ClassId}
use Rattle.cxx_hierarchy.specs.declared.records.Base.{Base}
use Rattle.cxx_hierarchy.specs.declared.records.Member.{Member}
use Rattle.cxx_hierarchy.specs.declared.records.FieldType.{FieldType}
use Rattle.cxx_hierarchy.specs.declared.records.FieldType.TheVariants.{Value, Object}
use Rattle.cxx_hierarchy.specs.Classes.{Classes, bases_of, members_of}
use Rattle.cxx_subobject.specs.declared.Subobject.{Subobject}
use Rattle.cxx_hierarchy.specs.Declarations.{elements_of}
use Rattle.foundation.proofs.Truth.{split}
use Rattle.path_plan.specs.Places.{Step, ObjectPart, base_part, shared_part, element, same_complete_object}
use Rattle.path_plan.specs.Phases.{Phases, PartEvent, Begin, Ready, Init, Body, Done, Ending, Bases, End, part_of, popped, rest_of, phases_after}
use Rattle.path_plan.specs.declared.form.Form.{Form}
use Rattle.path_plan.specs.declared.form.Form.TheVariants.{InFull, AsBase}
use Rattle.path_plan.specs.Plans.{Bodies, upto, backwards, virtual_order}
use Rattle.path_plan.specs.Pieces.{Piece, Own, Sub, shared_pieces, base_pieces, body_pieces, typed_pieces, member_pieces, built_pieces, ended_pieces, Pending, pending, opened_pieces, begins_part, ends, is_begun, stack_of, Choice, IsTail, IsWaiting, AreWaiting, IsStackOf}

-- a part's pieces begin with its first event
pub record AreGood (pieces : Form → ClassId → ObjectPart → List Piece) : Type 0 where
  pub frame : (form : Form) (c : ClassId) (p : ObjectPart) → IsWaiting p (pieces form c p)
  pub waits : (form : Form) (c : ClassId) (p : ObjectPart) → is_begun (pieces form c p) ≡ false

pub opened_frames : (pieces : Form → ClassId → ObjectPart → List Piece) → AreGood pieces → (p : ObjectPart) (left : List Piece) (below : List Pending) → IsTail p left → AreWaiting below → AreWaiting (opened_pieces pieces p left below)
opened_frames pieces good p [] below tail frames = absurd tail
opened_frames pieces good p (Own e ∷ left) below tail frames = ((tail.0, tail.2), frames)
opened_frames pieces good p (Sub form c q ∷ left) below tail frames = (good.frame form c q, opened_frames pieces good p left below tail frames)

-- what is left behind an own event of the top frame, opened over those below
after_event : (pieces : Form → ClassId → ObjectPart → List Piece) → AreGood pieces → (p : ObjectPart) (e : PartEvent) (left : List Piece) (below : List Pending) → Choice (ends e) (left ≡ []) (IsTail p left) → AreWaiting below → AreWaiting (opened_pieces pieces p left below)
after_event pieces good p e left below tail frames = split (ends e) (λ b. Choice b (left ≡ []) (IsTail p left) → AreWaiting (opened_pieces pieces p left below))
    (λ _ t. subst (λ (xs : List Piece). AreWaiting (opened_pieces pieces p xs below)) (sym t) frames)
    (λ _ t. opened_frames pieces good p left below t frames) tail

-- frames stay frames when the top one takes its own event
pub waiting_step : (pieces : Form → ClassId → ObjectPart → List Piece) → AreGood pieces → (p : ObjectPart) (e : PartEvent) (left : List Piece) (below : List Pending) → AreWaiting (pending p (Own e ∷ left) ∷ below) → AreWaiting (opened_pieces pieces p left below)
waiting_step pieces good p e left below waiting = after_event pieces good p e left below waiting.0.1 waiting.1

-- the pieces of a part are a frame
pub first_waits : (pieces : Form → ClassId → ObjectPart → List Piece) → AreGood pieces → (form : Form) (c : ClassId) (p : ObjectPart) (below : List Pending) → AreWaiting below → AreWaiting (pending p (pieces form c p) ∷ below)
first_waits pieces good form c p below waiting = (good.frame form c p, waiting)

-- and do not run yet
pub first_idle : (pieces : Form → ClassId → ObjectPart → List Piece) → AreGood pieces → (form : Form) (c : ClassId) (p : ObjectPart) (below : List Pending) (s : Phases) → IsStackOf below s → IsStackOf (pending p (pieces form c p) ∷ below) s
first_idle pieces good form c p below s are = λ k o. rw (good.waits form c p) (are k o)

begun_is : (e : PartEvent) (left : List Piece) → is_begun (Own e ∷ left) ≡ not (begins_part e)
begun_is (Begin p) left = refl
begun_is (Ready p) left = refl
begun_is (Init p m) left = refl
begun_is (Body p) left = refl
begun_is (Done p) left = refl
begun_is (Ending p) left = refl
begun_is (Bases p) left = refl
begun_is (End p) left = refl

-- the frame of p, begun, over those below
abbrev over : ObjectPart → List Pending → ℕ → List Step → List Subobject
over p below k o = if same_complete_object p.object p.owner k o then p.at ∷ stack_of below k o else stack_of below k o

stack_opened : (pieces : Form → ClassId → ObjectPart → List Piece) → AreGood pieces → (p : ObjectPart) (left : List Piece) (below : List Pending) → IsTail p left → (k : ℕ) (o : List Step) → stack_of (opened_pieces pieces p left below) k o ≡ over p below k o
stack_opened pieces good p [] below tail k o = absurd tail
stack_opened pieces good p (Own e ∷ left) below tail k o = rw (begun_is e left, tail.1) refl
stack_opened pieces good p (Sub form c q ∷ left) below tail k o = rw (good.waits form c q) (stack_opened pieces good p left below tail k o)

popped_over : (p : ObjectPart) (below : List Pending) (r : ℕ → List Step → List Subobject) (k : ℕ) (o : List Step) → r k o ≡ over p below k o → popped r p k o ≡ stack_of below k o
popped_over p below r k o e = split (same_complete_object p.object p.owner k o)
    (λ b. r k o ≡ (if b then p.at ∷ stack_of below k o else stack_of below k o) → (if b then rest_of (r k o) else r k o) ≡ stack_of below k o)
    (λ t f. ap rest_of f) (λ t f. f) e

own_stack : (pieces : Form → ClassId → ObjectPart → List Piece) → AreGood pieces → (s : Phases) (e : PartEvent) (left : List Piece) (below : List Pending) → Choice (ends e) (left ≡ []) (IsTail (part_of e) left)
    → IsStackOf (pending (part_of e) (Own e ∷ left) ∷ below) s → (k : ℕ) (o : List Step) → (phases_after s e).running k o ≡ stack_of (opened_pieces pieces (part_of e) left below) k o
own_stack pieces good s (Begin p) left below tail are k o = (λ i. if same_complete_object p.object p.owner k o then p.at ∷ are k o i else are k o i) ∙ sym (stack_opened pieces good p left below tail k o)
own_stack pieces good s (Ready p) left below tail are k o = are k o ∙ sym (stack_opened pieces good p left below tail k o)
own_stack pieces good s (Init p m) left below tail are k o = are k o ∙ sym (stack_opened pieces good p left below tail k o)
own_stack pieces good s (Body p) left below tail are k o = are k o ∙ sym (stack_opened pieces good p left below tail k o)
own_stack pieces good s (Done p) left below tail are k o = popped_over p below s.running k o (are k o) ∙ ap (λ (xs : List Piece). stack_of (opened_pieces pieces p xs below) k o) (sym tail)
own_stack pieces good s (Ending p) left below tail are k o = (λ i. if same_complete_object p.object p.owner k o then p.at ∷ are k o i else are k o i) ∙ sym (stack_opened pieces good p left below tail k o)
own_stack pieces good s (Bases p) left below tail are k o = are k o ∙ sym (stack_opened pieces good p left below tail k o)
own_stack pieces good s (End p) left below tail are k o = popped_over p below s.running k o (are k o) ∙ ap (λ (xs : List Piece). stack_of (opened_pieces pieces p xs below) k o) (sym tail)

-- after an own event of the top frame the stacks are those of the frames that are left
pub stack_step : (pieces : Form → ClassId → ObjectPart → List Piece) → AreGood pieces → (p : ObjectPart) (e : PartEvent) (left : List Piece) (below : List Pending) (s : Phases) → AreWaiting (pending p (Own e ∷ left) ∷ below)
    → IsStackOf (pending p (Own e ∷ left) ∷ below) s → IsStackOf (opened_pieces pieces p left below) (phases_after s e)
stack_step pieces good p e left below s waiting are = subst
    (λ (x : ObjectPart). Choice (ends e) (left ≡ []) (IsTail x left) → IsStackOf (pending x (Own e ∷ left) ∷ below) s → IsStackOf (opened_pieces pieces x left below) (phases_after s e))
    waiting.0.0 (λ tail stack. own_stack pieces good s e left below tail stack) waiting.0.1 are

-- the pieces of construction and destruction are good
abbrev Quiet : ObjectPart → List Piece → Type 0
Quiet p [] = Unit {0}
Quiet p (Sub form c q ∷ left) = Quiet p left
Quiet p (Own e ∷ left) = (part_of e ≡ p) × (begins_part e ≡ false) × (ends e ≡ false) × Quiet p left

tail_append : (p : ObjectPart) (xs ys : List Piece) → Quiet p xs → IsTail p ys → IsTail p (xs ++ ys)
tail_append p [] ys q t = t
tail_append p (Sub form c r ∷ xs) ys q t = tail_append p xs ys q t
tail_append p (Own e ∷ xs) ys q t = (q.0, q.1, subst (λ b. Choice b (xs ++ ys ≡ []) (IsTail p (xs ++ ys))) (sym q.2) (tail_append p xs ys q.3 t))

quiet_append : (p : ObjectPart) (xs ys : List Piece) → Quiet p xs → Quiet p ys → Quiet p (xs ++ ys)
quiet_append p [] ys a b = b
quiet_append p (Sub form c r ∷ xs) ys a b = quiet_append p xs ys a b
quiet_append p (Own e ∷ xs) ys a b = (a.0, a.1, a.2, quiet_append p xs ys a.3 b)

quiet_map : {X : Type 0} (p : ObjectPart) (form : Form) (class : X → ClassId) (place : X → ObjectPart) (xs : List X) → Quiet p (map (λ x. Sub form (class x) (place x)) xs)
quiet_map p form class place [] = tt
quiet_map p form class place (x ∷ xs) = quiet_map p form class place xs

quiet_flat : {X : Type 0} (p : ObjectPart) (f : X → List Piece) (xs : List X) → ((x : X) → Quiet p (f x)) → Quiet p (flat_map f xs)
quiet_flat p f [] each = tt
quiet_flat p f (x ∷ xs) each = quiet_append p (f x) (flat_map f xs) (each x) (quiet_flat p f xs each)

quiet_shared : (form : Form) (p : ObjectPart) (order : List ClassId) → Quiet p (shared_pieces form p order)
quiet_shared AsBase p order = tt
quiet_shared InFull p order = quiet_map p AsBase (λ v. v) (λ v. shared_part p v) order

quiet_base : (p : ObjectPart) (b : Base ClassId) → Quiet p (base_pieces p b)
quiet_base p b = split b.is_virtual (λ t. Quiet p (if t then [] else Sub AsBase b.class (base_part p b) ∷ [])) (λ e. tt) (λ e. tt)

quiet_body : (b : Bool) (p : ObjectPart) → Quiet p (body_pieces b p)
quiet_body true p = (refl, refl, refl, tt)
quiet_body false p = tt

quiet_typed : (b : Bool) (p : ObjectPart) (m : ℕ) (indices : List ℕ) (ty : FieldType ClassId) → Quiet p (typed_pieces b p m indices ty)
quiet_typed true p m indices (Value type) = (refl, refl, refl, tt)
quiet_typed false p m indices (Value type) = tt
quiet_typed b p m indices (Object d) = quiet_map p InFull (λ i. d) (λ i. element p m i d) indices

quiet_member : (b : Bool) (turn : List ℕ → List ℕ) (p : ObjectPart) (m : ℕ) (o : Option (Member ClassId)) → Quiet p (member_pieces b turn p m o)
quiet_member b turn p m None = tt
quiet_member b turn p m (Some member) = quiet_typed b p m (turn (upto (elements_of member.count))) member.ty

pub built_good : (h : Classes) (bodies : Bodies) → AreGood (built_pieces h bodies)
built_good h bodies = record {
  frame = λ form c p. (
    refl,
    tail_append p (shared_pieces form p (virtual_order h c)) _ (quiet_shared form p (virtual_order h c))
        (tail_append p (flat_map (base_pieces p) (bases_of h c)) _ (quiet_flat p (base_pieces p) (bases_of h c) (quiet_base p)) (
          refl,
          refl,
          tail_append p (flat_map (λ m. member_pieces (bodies.initializer c m) (λ is. is) p m (slice_get (members_of h c) m)) (upto (length (members_of h c)))) _
              (quiet_flat p (λ m. member_pieces (bodies.initializer c m) (λ is. is) p m (slice_get (members_of h c) m)) (upto (length (members_of h c))) (λ m. quiet_member (bodies.initializer c m) (λ is. is) p m (slice_get (members_of h c) m)))
              (tail_append p (body_pieces (bodies.constructor c) p) (Own (Done p) ∷ []) (quiet_body (bodies.constructor c) p) (refl, refl, refl)),
        )),
  );
  waits = λ form c p. refl;
}

pub ended_good : (h : Classes) (bodies : Bodies) → AreGood (ended_pieces h bodies)
ended_good h bodies = record {
  frame = λ form c p. (
    refl,
    tail_append p (body_pieces (bodies.destructor c) p) _ (quiet_body (bodies.destructor c) p)
        (tail_append p (flat_map (λ m. member_pieces false backwards p m (slice_get (members_of h c) m)) (backwards (upto (length (members_of h c))))) _
        (quiet_flat p (λ m. member_pieces false backwards p m (slice_get (members_of h c) m)) (backwards (upto (length (members_of h c)))) (λ m. quiet_member false backwards p m (slice_get (members_of h c) m))) (
          refl,
          refl,
          tail_append p (flat_map (base_pieces p) (backwards (bases_of h c))) _ (quiet_flat p (base_pieces p) (backwards (bases_of h c)) (quiet_base p))
              (tail_append p (shared_pieces form p (backwards (virtual_order h c))) (Own (End p) ∷ []) (quiet_shared form p (backwards (virtual_order h c))) (refl, refl, refl)),
        )),
  );
  waits = λ form c p. refl;
}
