-- What is left of a destruction, from each stage to the next.
use Rattle.std.proofs.Common.{◌≡◌, ℕ, ◌+◌, ◌<◌, ◌≤◌, true, false, Option, Some, None, List, [], ◌∷◌, ◌++◌, map, length, refl, ap, sym, ◌∙◌, arith, append_assoc, take}
use Rattle.std.specs.Prelude.{slice_get, ◌-◌, if◌then◌else◌}
use Rattle.std.specs.List.{flat_map}
use Rattle.std.proofs.lemmas.List.{take_all}
use Rattle.foundation.proofs.Places.{get_none}
use Rattle.cxx_hierarchy.specs.declared.records.ClassId.{ClassId}
use Rattle.cxx_hierarchy.specs.declared.records.Base.{Base}
use Rattle.cxx_hierarchy.specs.declared.records.Member.{Member}
use Rattle.cxx_hierarchy.specs.declared.records.ValueType.{ValueType}
use Rattle.cxx_hierarchy.specs.declared.records.FieldType.{FieldType}
use Rattle.cxx_hierarchy.specs.declared.records.FieldType.TheVariants.{Value, Object}
use Rattle.cxx_hierarchy.specs.Declarations.{elements_of}
use Rattle.cxx_hierarchy.specs.Classes.{Classes, bases_of, members_of}
use Rattle.path_plan.specs.Places.{ObjectPart, base_part, shared_part, element}
use Rattle.path_plan.specs.Phases.{Ending, Body, Bases, End}
use Rattle.path_plan.specs.declared.form.Form.{Form}
use Rattle.path_plan.specs.declared.form.Form.TheVariants.{InFull, AsBase}
use Rattle.path_plan.specs.Plans.{Bodies, upto, backwards, virtual_order}
use Rattle.path_plan.specs.Pieces.{Piece, Own, Sub, shared_pieces, base_pieces, body_pieces, typed_pieces, member_pieces, ended_pieces}
use Rattle.path_events.specs.Frames.{ended_shared, ended_bases, ended_members, left_of}
use Rattle.path_events.specs.declared.frame.Stage.TheVariants.{Body as BodyStage}
use Rattle.path_events.specs.invariants.Steps.{elements_in, elements_at}
use Rattle.path_events.proofs.Lists.{take_back, upto_length, upto_at, upto_back}

-- virtual bases
pub shared_none : (h : Classes) (c : ClassId) (p : ObjectPart) (j : ℕ) → take j (virtual_order h c) ≡ [] → ended_shared h InFull c p j ≡ Own (End p) ∷ []
shared_none h c p j e = ap (λ t. map (λ v. Sub AsBase v (shared_part p v)) (backwards t) ++ Own (End p) ∷ []) e

pub shared_one : (h : Classes) (c : ClassId) (p : ObjectPart) (j place : ℕ) (v : ClassId) → take j (virtual_order h c) ≡ take (place + 1) (virtual_order h c) → slice_get (virtual_order h c) place ≡ Some v
    → ended_shared h InFull c p j ≡ Sub AsBase v (shared_part p v) ∷ ended_shared h InFull c p place
shared_one h c p j place v same at =
    ap (λ t. map (λ v. Sub AsBase v (shared_part p v)) (backwards t) ++ Own (End p) ∷ []) same
    ∙ ap (λ t. map (λ v. Sub AsBase v (shared_part p v)) t ++ Own (End p) ∷ []) (take_back (virtual_order h c) place v at)

-- direct bases
abbrev behind_bases : Classes → Form → ClassId → ObjectPart → List Piece
behind_bases h form c p = ended_shared h form c p (length (virtual_order h c))

pub base_one : (h : Classes) (form : Form) (c : ClassId) (p : ObjectPart) (i : ℕ) (b : Base ClassId) → slice_get (bases_of h c) i ≡ Some b → b.is_virtual ≡ false
    → ended_bases h form c p (i + 1) ≡ Sub AsBase b.class (base_part p b) ∷ ended_bases h form c p i
base_one h form c p i b at direct =
    ap (λ t. flat_map (base_pieces p) t ++ behind_bases h form c p) (take_back (bases_of h c) i b at)
    ∙ ap (λ t. ((if t then [] else Sub AsBase b.class (base_part p b) ∷ []) ++ flat_map (base_pieces p) (backwards (take i (bases_of h c)))) ++ behind_bases h form c p) direct

pub base_over : (h : Classes) (form : Form) (c : ClassId) (p : ObjectPart) (i : ℕ) (b : Base ClassId) → slice_get (bases_of h c) i ≡ Some b → b.is_virtual ≡ true → ended_bases h form c p (i + 1) ≡ ended_bases h form c p i
base_over h form c p i b at virtual =
    ap (λ t. flat_map (base_pieces p) t ++ behind_bases h form c p) (take_back (bases_of h c) i b at)
    ∙ ap (λ t. ((if t then [] else Sub AsBase b.class (base_part p b) ∷ []) ++ flat_map (base_pieces p) (backwards (take i (bases_of h c)))) ++ behind_bases h form c p) virtual

pub base_none : (h : Classes) (form : Form) (c : ClassId) (p : ObjectPart) (i : ℕ) → slice_get (bases_of h c) i ≡ None → ended_bases h form c p (i + 1) ≡ ended_bases h form c p i
base_none h form c p i e =
    let past = get_none (bases_of h c) i e in let more : length (bases_of h c) ≤ i + 1 = omega arith in
    ap (λ t. flat_map (base_pieces p) (backwards t) ++ behind_bases h form c p) (take_all (i + 1) (bases_of h c) more ∙ sym (take_all i (bases_of h c) past))

-- members
abbrev each_member : Classes → ClassId → ObjectPart → ℕ → List Piece
each_member h c p k = member_pieces false backwards p k (slice_get (members_of h c) k)

abbrev behind_members : Classes → Form → ClassId → ObjectPart → List Piece
behind_members h form c p = Own (Bases p) ∷ ended_bases h form c p (length (bases_of h c))

abbrev before_member : Classes → Form → ClassId → ObjectPart → ℕ → List Piece
before_member h form c p m = flat_map (each_member h c p) (backwards (upto m)) ++ behind_members h form c p

pieces_at : (h : Classes) (c : ClassId) (p : ObjectPart) (m i : ℕ) (member : Member ClassId) (t : FieldType ClassId) → slice_get (members_of h c) m ≡ Some member → member.ty ≡ t
    → member_pieces false (λ is. backwards (take i is)) p m (slice_get (members_of h c) m) ≡ typed_pieces false p m (backwards (take i (upto (elements_of member.count)))) t
pieces_at h c p m i member t at type = ap (λ o. member_pieces false (λ is. backwards (take i is)) p m o) at ∙ ap (λ t. typed_pieces false p m (backwards (take i (upto (elements_of member.count)))) t) type

none_at_zero : (h : Classes) (form : Form) (c : ClassId) (p : ObjectPart) (m : ℕ) → ended_members h form c p m 0 ≡ before_member h form c p m
none_at_zero h form c p m = ap (λ t. t ++ before_member h form c p m) (nothing (slice_get (members_of h c) m))
  where
    typed : (ty : FieldType ClassId) → typed_pieces false p m [] ty ≡ []
    typed (Value type) = refl
    typed (Object d) = refl

    nothing : (o : Option (Member ClassId)) → member_pieces false (λ is. backwards (take 0 is)) p m o ≡ []
    nothing None = refl
    nothing (Some member) = typed member.ty

pub member_none : (h : Classes) (form : Form) (c : ClassId) (p : ObjectPart) (m i : ℕ) → slice_get (members_of h c) m ≡ None → ended_members h form c p m i ≡ ended_members h form c p m 0
member_none h form c p m i e = ap (λ o. member_pieces false (λ is. backwards (take i is)) p m o ++ before_member h form c p m) e ∙ sym (none_at_zero h form c p m)

pub value_none : (h : Classes) (form : Form) (c : ClassId) (p : ObjectPart) (m i : ℕ) (member : Member ClassId) (t : ValueType ClassId) → slice_get (members_of h c) m ≡ Some member → member.ty ≡ Value t → ended_members h form c p m i ≡ ended_members h form c p m 0
value_none h form c p m i member t at type = ap (λ t. t ++ before_member h form c p m) (pieces_at h c p m i member (Value t) at type) ∙ sym (none_at_zero h form c p m)

pub object_none : (h : Classes) (form : Form) (c : ClassId) (p : ObjectPart) (m i : ℕ) (member : Member ClassId) (d : ClassId) → slice_get (members_of h c) m ≡ Some member → member.ty ≡ Object d → take i (upto (elements_of member.count)) ≡ []
    → ended_members h form c p m i ≡ ended_members h form c p m 0
object_none h form c p m i member d at type none =
    ap (λ t. t ++ before_member h form c p m) (pieces_at h c p m i member (Object d) at type ∙ ap (λ t. map (λ i. Sub InFull d (element p m i d)) (backwards t)) none) ∙ sym (none_at_zero h form c p m)

pub object_one : (h : Classes) (form : Form) (c : ClassId) (p : ObjectPart) (m i place : ℕ) (member : Member ClassId) (d : ClassId) → slice_get (members_of h c) m ≡ Some member → member.ty ≡ Object d → place < elements_of member.count
    → take i (upto (elements_of member.count)) ≡ take (place + 1) (upto (elements_of member.count))
    → ended_members h form c p m i ≡ Sub InFull d (element p m place d) ∷ ended_members h form c p m place
object_one h form c p m i place member d at type lt same =
    ap (λ t. t ++ before_member h form c p m)
    (pieces_at h c p m i member (Object d) at type ∙ (ap (λ t. map (λ i. Sub InFull d (element p m i d)) (backwards t)) same
    ∙ (ap (map (λ i. Sub InFull d (element p m i d))) (take_back (upto (elements_of member.count)) place place (upto_at (elements_of member.count) place lt))
    ∙ ap (λ t. Sub InFull d (element p m place d) ∷ t) (sym (pieces_at h c p m place member (Object d) at type)))))

-- from one member to the one before it, with all its elements
all_elements : (p : ObjectPart) (m : ℕ) (o : Option (Member ClassId)) → member_pieces false (λ is. backwards (take (elements_in o) is)) p m o ≡ member_pieces false backwards p m o
all_elements p m None = refl
all_elements p m (Some member) = ap (λ t. typed_pieces false p m (backwards t) member.ty) (take_all (elements_of member.count) (upto (elements_of member.count)) (let e = upto_length (elements_of member.count) in omega arith))

pub member_before : (h : Classes) (form : Form) (c : ClassId) (p : ObjectPart) (m : ℕ) → ended_members h form c p (m + 1) 0 ≡ ended_members h form c p m (elements_at h c m)
member_before h form c p m =
    none_at_zero h form c p (m + 1) ∙ (ap (λ t. flat_map (each_member h c p) t ++ behind_members h form c p) (upto_back m)
    ∙ (append_assoc (each_member h c p m) (flat_map (each_member h c p) (backwards (upto m))) (behind_members h form c p)
    ∙ ap (λ t. t ++ before_member h form c p m) (sym (all_elements p m (slice_get (members_of h c) m)))))

pub before_left : (h : Classes) (form : Form) (c : ClassId) (p : ObjectPart) (left elements : ℕ) → 0 < left → elements ≡ elements_at h c (left - 1) → ended_members h form c p left 0 ≡ ended_members h form c p (left - 1) elements
before_left h form c p left elements some is =
    ap (λ n. ended_members h form c p n 0) (let e : left ≡ left - 1 + 1 = omega arith in e) ∙ (member_before h form c p (left - 1) ∙ ap (λ n. ended_members h form c p (left - 1) n) (sym is))

pub members_done : (h : Classes) (form : Form) (c : ClassId) (p : ObjectPart) → ended_members h form c p 0 0 ≡ Own (Bases p) ∷ ended_bases h form c p (length (bases_of h c))
members_done h form c p = none_at_zero h form c p 0

-- the body
pub body_on : (h : Classes) (bodies : Bodies) (form : Form) (c : ClassId) (p : ObjectPart) → bodies.destructor c ≡ true → left_of h bodies false form c p BodyStage ≡ Own (Body p) ∷ ended_members h form c p (length (members_of h c)) 0
body_on h bodies form c p on = ap (λ b. body_pieces b p ++ ended_members h form c p (length (members_of h c)) 0) on

pub body_off : (h : Classes) (bodies : Bodies) (form : Form) (c : ClassId) (p : ObjectPart) → bodies.destructor c ≡ false → left_of h bodies false form c p BodyStage ≡ ended_members h form c p (length (members_of h c)) 0
body_off h bodies form c p off = ap (λ b. body_pieces b p ++ ended_members h form c p (length (members_of h c)) 0) off

-- the whole of it
pub ended_first : (h : Classes) (bodies : Bodies) (form : Form) (c : ClassId) (p : ObjectPart) → ended_pieces h bodies form c p ≡ Own (Ending p) ∷ left_of h bodies false form c p BodyStage
ended_first h bodies form c p =
    ap (λ t. Own (Ending p) ∷ (body_pieces (bodies.destructor c) p ++ t))
    (ap (λ t. flat_map (each_member h c p) (backwards (upto (length (members_of h c)))) ++ Own (Bases p) ∷ t)
    (ap (λ t. flat_map (base_pieces p) (backwards t) ++ (shared_pieces form p (backwards (virtual_order h c)) ++ Own (End p) ∷ [])) (sym (take_all (length (bases_of h c)) (bases_of h c) (omega arith)))
    ∙ ap (λ t. flat_map (base_pieces p) (backwards (take (length (bases_of h c)) (bases_of h c))) ++ (shared_pieces form p (backwards t) ++ Own (End p) ∷ [])) (sym (take_all (length (virtual_order h c)) (virtual_order h c) (omega arith))))
    ∙ sym (none_at_zero h form c p (length (members_of h c))))
