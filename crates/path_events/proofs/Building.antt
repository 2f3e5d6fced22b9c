-- What is left of a construction, from each stage to the next.
use Rattle.std.proofs.Common.{◌≡◌, ℕ, ◌+◌, ◌<◌, ◌≤◌, ⊎_elim, Bool, true, false, Some, None, List, [], ◌∷◌, ◌++◌, map, length, ap, subst, sym, ◌∙◌, arith, append_assoc}
use Rattle.std.specs.Prelude.{slice_get, if◌then◌else◌}
use Rattle.std.specs.List.{flat_map}
use Rattle.std.proofs.Math.ListN.{drop}
use Rattle.std.proofs.lemmas.Option.{slice_get_past, slice_get_cases}
use Rattle.std.proofs.lemmas.List.{drop_all}
use Rattle.foundation.proofs.Places.{get_none}
use Rattle.cxx_hierarchy.specs.declared.records.ClassId.{ClassId}
use Rattle.cxx_hierarchy.specs.declared.records.Base.{Base}
use Rattle.cxx_hierarchy.specs.declared.records.Member.{Member}
use Rattle.cxx_hierarchy.specs.declared.records.ValueType.{ValueType}
use Rattle.cxx_hierarchy.specs.declared.records.FieldType.{FieldType}
use Rattle.cxx_hierarchy.specs.declared.records.FieldType.TheVariants.{Value, Object}
use Rattle.cxx_hierarchy.specs.Declarations.{elements_of}
use Rattle.cxx_hierarchy.specs.Classes.{Classes, bases_of, members_of}
use Rattle.path_plan.specs.Places.{ObjectPart, base_part, shared_part, element}
use Rattle.path_plan.specs.Phases.{Begin, Ready, Init, Body, Done}
use Rattle.path_plan.specs.declared.form.Form.{Form}
use Rattle.path_plan.specs.declared.form.Form.TheVariants.{InFull, AsBase}
use Rattle.path_plan.specs.Plans.{Bodies, upto, virtual_order}
use Rattle.path_plan.specs.Pieces.{Piece, Own, Sub, shared_pieces, base_pieces, init_pieces, body_pieces, typed_pieces, member_pieces, built_pieces}
use Rattle.path_events.specs.Frames.{built_body, built_members, built_bases, left_of}
use Rattle.path_events.specs.declared.frame.Stage.TheVariants.{Shared as SharedStage, Bases as BasesStage}
use Rattle.path_events.proofs.Lists.{drop_at, upto_length, upto_at}

-- a virtual base
pub shared_one : (h : Classes) (bodies : Bodies) (c : ClassId) (p : ObjectPart) (j : ℕ) (v : ClassId) → slice_get (virtual_order h c) j ≡ Some v
    → left_of h bodies true InFull c p (SharedStage j) ≡ Sub AsBase v (shared_part p v) ∷ left_of h bodies true InFull c p (SharedStage (j + 1))
shared_one h bodies c p j v at = ap (λ t. map (λ v. Sub AsBase v (shared_part p v)) t ++ built_bases h bodies c p 0) (drop_at (virtual_order h c) j v at)

none_left : {X : Type 0} (xs : List X) (i : ℕ) → slice_get xs i ≡ None → drop i xs ≡ []
none_left xs i e = drop_all i xs (⊎_elim (λ some. absurd (let f = some.2 in cc)) (λ past. past.0) (slice_get_cases xs i).1)

pub shared_none : (h : Classes) (bodies : Bodies) (c : ClassId) (p : ObjectPart) (j : ℕ) → slice_get (virtual_order h c) j ≡ None
    → left_of h bodies true InFull c p (SharedStage j) ≡ left_of h bodies true InFull c p (BasesStage 0)
shared_none h bodies c p j e = ap (λ t. map (λ v. Sub AsBase v (shared_part p v)) t ++ built_bases h bodies c p 0) (none_left (virtual_order h c) j e)

-- a direct base
pub base_one : (h : Classes) (bodies : Bodies) (c : ClassId) (p : ObjectPart) (i : ℕ) (b : Base ClassId) → slice_get (bases_of h c) i ≡ Some b → b.is_virtual ≡ false
    → built_bases h bodies c p i ≡ Sub AsBase b.class (base_part p b) ∷ built_bases h bodies c p (i + 1)
base_one h bodies c p i b at direct =
    ap (λ t. flat_map (base_pieces p) t ++ Own (Ready p) ∷ built_members h bodies c p 0 0) (drop_at (bases_of h c) i b at)
    ∙ ap (λ t. ((if t then [] else Sub AsBase b.class (base_part p b) ∷ []) ++ flat_map (base_pieces p) (drop (i + 1) (bases_of h c))) ++ Own (Ready p) ∷ built_members h bodies c p 0 0) direct

pub base_over : (h : Classes) (bodies : Bodies) (c : ClassId) (p : ObjectPart) (i : ℕ) (b : Base ClassId) → slice_get (bases_of h c) i ≡ Some b → b.is_virtual ≡ true → built_bases h bodies c p i ≡ built_bases h bodies c p (i + 1)
base_over h bodies c p i b at virtual =
    ap (λ t. flat_map (base_pieces p) t ++ Own (Ready p) ∷ built_members h bodies c p 0 0) (drop_at (bases_of h c) i b at)
    ∙ ap (λ t. ((if t then [] else Sub AsBase b.class (base_part p b) ∷ []) ++ flat_map (base_pieces p) (drop (i + 1) (bases_of h c))) ++ Own (Ready p) ∷ built_members h bodies c p 0 0) virtual

past_more : (n i : ℕ) → n ≤ i → n ≤ i + 1
past_more n i le = omega arith

pub base_past : (h : Classes) (bodies : Bodies) (c : ClassId) (p : ObjectPart) (i : ℕ) → length (bases_of h c) ≤ i → built_bases h bodies c p i ≡ Own (Ready p) ∷ built_members h bodies c p 0 0
base_past h bodies c p i past = ap (λ t. flat_map (base_pieces p) t ++ Own (Ready p) ∷ built_members h bodies c p 0 0) (drop_all i (bases_of h c) past)

pub base_none : (h : Classes) (bodies : Bodies) (c : ClassId) (p : ObjectPart) (i : ℕ) → slice_get (bases_of h c) i ≡ None → built_bases h bodies c p i ≡ built_bases h bodies c p (i + 1)
base_none h bodies c p i e = let past = get_none (bases_of h c) i e in base_past h bodies c p i past ∙ sym (base_past h bodies c p (i + 1) (past_more (length (bases_of h c)) i past))

-- the members, each in full
abbrev each_member : Classes → Bodies → ClassId → ObjectPart → ℕ → List Piece
each_member h bodies c p k = member_pieces (bodies.initializer c k) (λ is. is) p k (slice_get (members_of h c) k)

-- those from m on are number m and those behind it
from_member : (h : Classes) (bodies : Bodies) (c : ClassId) (p : ObjectPart) (m : ℕ)
    → flat_map (each_member h bodies c p) (drop m (upto (length (members_of h c)))) ≡ each_member h bodies c p m ++ flat_map (each_member h bodies c p) (drop (m + 1) (upto (length (members_of h c))))
from_member h bodies c p m = ⊎_elim
    (λ some. ap (flat_map (each_member h bodies c p)) (drop_at (upto (length (members_of h c))) m m (upto_at (length (members_of h c)) m some.1)))
    (λ past.
    let n = upto_length (length (members_of h c)) in let le = past.0 in
    let a : length (upto (length (members_of h c))) ≤ m = omega arith in
    let b : length (upto (length (members_of h c))) ≤ m + 1 = omega arith in
    ap (flat_map (each_member h bodies c p)) (drop_all m (upto (length (members_of h c))) a)
    ∙ sym (ap (λ o. member_pieces (bodies.initializer c m) (λ is. is) p m o ++ flat_map (each_member h bodies c p) (drop (m + 1) (upto (length (members_of h c))))) past.1
    ∙ ap (flat_map (each_member h bodies c p)) (drop_all (m + 1) (upto (length (members_of h c))) b)))
    (slice_get_cases (members_of h c) m).1

pub behind_member : (h : Classes) (bodies : Bodies) (c : ClassId) (p : ObjectPart) (m : ℕ) → flat_map (each_member h bodies c p) (drop m (upto (length (members_of h c)))) ++ built_body bodies c p ≡ built_members h bodies c p m 0
behind_member h bodies c p m = ap (λ t. t ++ built_body bodies c p) (from_member h bodies c p m) ∙ append_assoc (each_member h bodies c p m) (flat_map (each_member h bodies c p) (drop (m + 1) (upto (length (members_of h c))))) (built_body bodies c p)

-- a member that gives nothing more
member_over : (h : Classes) (bodies : Bodies) (c : ClassId) (p : ObjectPart) (m i : ℕ) → member_pieces (bodies.initializer c m) (drop i) p m (slice_get (members_of h c) m) ≡ [] → built_members h bodies c p m i ≡ built_members h bodies c p (m + 1) 0
member_over h bodies c p m i none = ap (λ t. t ++ (flat_map (each_member h bodies c p) (drop (m + 1) (upto (length (members_of h c)))) ++ built_body bodies c p)) none ∙ behind_member h bodies c p (m + 1)

pub member_none : (h : Classes) (bodies : Bodies) (c : ClassId) (p : ObjectPart) (m i : ℕ) → slice_get (members_of h c) m ≡ None → built_members h bodies c p m i ≡ built_members h bodies c p (m + 1) 0
member_none h bodies c p m i e = member_over h bodies c p m i (ap (λ o. member_pieces (bodies.initializer c m) (drop i) p m o) e)

pieces_at : (h : Classes) (b : Bool) (c : ClassId) (p : ObjectPart) (m i : ℕ) (member : Member ClassId) (t : FieldType ClassId) → slice_get (members_of h c) m ≡ Some member → member.ty ≡ t
    → member_pieces b (drop i) p m (slice_get (members_of h c) m) ≡ typed_pieces b p m (drop i (upto (elements_of member.count))) t
pieces_at h b c p m i member t at type = ap (λ o. member_pieces b (drop i) p m o) at ∙ ap (λ t. typed_pieces b p m (drop i (upto (elements_of member.count))) t) type

pub value_none : (h : Classes) (bodies : Bodies) (c : ClassId) (p : ObjectPart) (m i : ℕ) (member : Member ClassId) (t : ValueType ClassId) → slice_get (members_of h c) m ≡ Some member → member.ty ≡ Value t → bodies.initializer c m ≡ false
    → built_members h bodies c p m i ≡ built_members h bodies c p (m + 1) 0
value_none h bodies c p m i member t at type off = member_over h bodies c p m i (pieces_at h (bodies.initializer c m) c p m i member (Value t) at type ∙ ap (λ b. init_pieces b p m) off)

pub value_set : (h : Classes) (bodies : Bodies) (c : ClassId) (p : ObjectPart) (m i : ℕ) (member : Member ClassId) (t : ValueType ClassId) → slice_get (members_of h c) m ≡ Some member → member.ty ≡ Value t → bodies.initializer c m ≡ true
    → built_members h bodies c p m i ≡ Own (Init p m) ∷ built_members h bodies c p (m + 1) 0
value_set h bodies c p m i member t at type on =
    ap (λ t. t ++ (flat_map (each_member h bodies c p) (drop (m + 1) (upto (length (members_of h c)))) ++ built_body bodies c p)) (pieces_at h (bodies.initializer c m) c p m i member (Value t) at type ∙ ap (λ b. init_pieces b p m) on)
    ∙ ap (λ t. Own (Init p m) ∷ t) (behind_member h bodies c p (m + 1))

pub object_one : (h : Classes) (bodies : Bodies) (c : ClassId) (p : ObjectPart) (m i : ℕ) (member : Member ClassId) (d : ClassId) → slice_get (members_of h c) m ≡ Some member → member.ty ≡ Object d → i < elements_of member.count
    → built_members h bodies c p m i ≡ Sub InFull d (element p m i d) ∷ built_members h bodies c p m (i + 1)
object_one h bodies c p m i member d at type lt =
    ap (λ t. t ++ (flat_map (each_member h bodies c p) (drop (m + 1) (upto (length (members_of h c)))) ++ built_body bodies c p))
    (pieces_at h (bodies.initializer c m) c p m i member (Object d) at type ∙ (ap (map (λ i. Sub InFull d (element p m i d))) (drop_at (upto (elements_of member.count)) i i (upto_at (elements_of member.count) i lt))
    ∙ ap (λ t. Sub InFull d (element p m i d) ∷ t) (sym (pieces_at h (bodies.initializer c m) c p m (i + 1) member (Object d) at type))))

pub object_none : (h : Classes) (bodies : Bodies) (c : ClassId) (p : ObjectPart) (m i : ℕ) (member : Member ClassId) (d : ClassId) → slice_get (members_of h c) m ≡ Some member → member.ty ≡ Object d → elements_of member.count ≤ i
    → built_members h bodies c p m i ≡ built_members h bodies c p (m + 1) 0
object_none h bodies c p m i member d at type past = member_over h bodies c p m i
    (pieces_at h (bodies.initializer c m) c p m i member (Object d) at type ∙ ap (map (λ i. Sub InFull d (element p m i d))) (drop_all i (upto (elements_of member.count)) (subst (λ n. n ≤ i) (sym (upto_length (elements_of member.count))) past)))

pub members_past : (h : Classes) (bodies : Bodies) (c : ClassId) (p : ObjectPart) (m i : ℕ) → length (members_of h c) ≤ m → built_members h bodies c p m i ≡ built_body bodies c p
members_past h bodies c p m i past =
    let n = upto_length (length (members_of h c)) in let b : length (upto (length (members_of h c))) ≤ m + 1 = omega arith in
    ap (λ o. member_pieces (bodies.initializer c m) (drop i) p m o ++ (flat_map (each_member h bodies c p) (drop (m + 1) (upto (length (members_of h c)))) ++ built_body bodies c p)) (slice_get_past (members_of h c) m past)
    ∙ ap (λ t. flat_map (each_member h bodies c p) t ++ built_body bodies c p) (drop_all (m + 1) (upto (length (members_of h c))) b)

-- the body
pub body_on : (bodies : Bodies) (c : ClassId) (p : ObjectPart) → bodies.constructor c ≡ true → built_body bodies c p ≡ Own (Body p) ∷ (Own (Done p) ∷ [])
body_on bodies c p on = ap (λ b. body_pieces b p ++ Own (Done p) ∷ []) on

pub body_off : (bodies : Bodies) (c : ClassId) (p : ObjectPart) → bodies.constructor c ≡ false → built_body bodies c p ≡ Own (Done p) ∷ []
body_off bodies c p off = ap (λ b. body_pieces b p ++ Own (Done p) ∷ []) off

-- the whole of it
pub built_first : (h : Classes) (bodies : Bodies) (form : Form) (c : ClassId) (p : ObjectPart) → built_pieces h bodies form c p ≡ Own (Begin p) ∷ left_of h bodies true form c p (SharedStage 0)
built_first h bodies form c p = ap (λ t. Own (Begin p) ∷ (shared_pieces form p (virtual_order h c) ++ (flat_map (base_pieces p) (bases_of h c) ++ Own (Ready p) ∷ t))) (behind_member h bodies c p 0)
