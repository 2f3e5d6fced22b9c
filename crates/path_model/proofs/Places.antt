-- What is asked of a place is enough: the members behind a virtual base are ready, and a member that is ready is its own view.
use Rattle.std.proofs.Common.{arith, ◌≡◌, ◌≤◌, Bool, true, false, Some, List, [], ◌∷◌, ◌++◌, refl, ap, sym, ◌∙◌, append-nil}
use Rattle.cxx_hierarchy.specs.declared.records.ClassId.{ClassId}
use Rattle.cxx_hierarchy.specs.Classes.{Classes}
use Rattle.cxx_hierarchy.specs.Hierarchies.{IsHierarchy}
use Rattle.cxx_subobject.specs.declared.Subobject.{Subobject}
use Rattle.cxx_subobject.specs.Subobjects.{class_of}
use Rattle.foundation.proofs.Truth.{split}
use Rattle.path_plan.specs.Places.{ObjectPart}
use Rattle.path_plan.specs.Phases.{is_complete, is_ready}
use Rattle.path_plan.specs.Views.{Settled}
use Rattle.path_plan.proofs.Uses.{complete_ready}
use Rattle.std.specs.Prelude.{if◌then◌else◌, min}
use Rattle.cxx_program.specs.declared.statement.PassedMember.{PassedMember}
use Rattle.cxx_program.specs.declared.statement.TypedPlace.{TypedPlace}
use Rattle.path_model.specs.Values.{Value, Unset, Number, Null, Pointer, Objects}
use Rattle.path_model.specs.Places.{passed_part}
use Rattle.path_model.specs.Uses.{StatementUse, of_part, Reads, Follows, Guards, Passes, is_shared, uses_of_view, arrow, path_uses}
use Rattle.path_model.specs.Rules.{is_unready}
use Rattle.path_model.specs.Typed.{AllSettled, IsOf, IsPassed, IsPath}
use Rattle.path_model.specs.Order.{asked_members, first_name_base, asked_place}
use Rattle.path_model.proofs.Ranks.{rank, rank_append, rank_full}
use Rattle.path_model.proofs.Single.{none_rank, guard_rank, pass_rank, pass_late, view_late, views_none}
use Rattle.path_model.proofs.Facts.{IsWhole, whole_class, whole_seen, passed_whole, base_done, shared_proper, passed_done, member_done, not_unready, ready_of}

-- the uses of a place, by the value of its pointer
abbrev pub way_uses : Value → TypedPlace → List StatementUse
way_uses v place = arrow v ++ of_part (λ p. path_uses p place.passed place.base) v

pub passes_late : (h : Classes) (s : Objects) (p : ObjectPart) (xs : List PassedMember) (last : Subobject) → 2 ≤ rank h s (path_uses p xs last)
passes_late h s p [] last = let r = view_late h s (is_shared last) (Pointer p) in omega (arith, r)
passes_late h s p (x ∷ rest) last =
    let e = passed_part p x in
    let a = rank_append h s (uses_of_view (is_shared x.base) (Pointer p)) (Passes e ∷ path_uses e rest last) in
    let b = rank_append h s (Passes e ∷ []) (path_uses e rest last) in
    let c = view_late h s (is_shared x.base) (Pointer p) in
    let d = pass_late h s e in
    let f = passes_late h s e rest last in
    omega (arith, a, b, c, d, f)

pub asked_late : (h : Classes) (s : Objects) (p : ObjectPart) (xs : List PassedMember) → 2 ≤ rank h s (asked_members p xs)
asked_late h s p [] = let r = none_rank h s in omega (arith, r)
asked_late h s p (x ∷ rest) = split (is_shared x.base) (λ b. 2 ≤ rank h s (if b then [] else Passes (passed_part p x) ∷ asked_members (passed_part p x) rest))
    (λ _. let r = none_rank h s in omega (arith, r))
    (λ _. let a = rank_append h s (Passes (passed_part p x) ∷ []) (asked_members (passed_part p x) rest) in
    let b = pass_late h s (passed_part p x) in
    let c = asked_late h s (passed_part p x) rest in
    omega (arith, a, b, c))

-- in what is complete nothing breaks
pub complete_path : (h : Classes) → IsHierarchy h → (s : Objects) (e : ObjectPart) (d : ClassId) (xs : List PassedMember) (last : Subobject) → IsWhole h s e d → is_complete (s.phases.phase e) ≡ true → IsPath h d xs last → rank h s (path_uses e xs last) ≡ 12
complete_path h keeps s e d [] last a full path = views_none h s (is_shared last) (Pointer e) (whole_seen h keeps s e d a (complete_ready (s.phases.phase e) full))
complete_path h keeps s e d (x ∷ rest) last a full path =
    let class = whole_class h s e d a in
    let e' = passed_part e x in
    let done = member_done h s e d x class a.settled path.0 full in
    let r = rank_append h s (uses_of_view (is_shared x.base) (Pointer e)) (Passes e' ∷ path_uses e' rest last) in
    let t = rank_append h s (Passes e' ∷ []) (path_uses e' rest last) in
    let u = views_none h s (is_shared x.base) (Pointer e) (whole_seen h keeps s e d a (complete_ready (s.phases.phase e) full)) in
    let v = pass_rank h s e' false (not_unready s e' done) in
    let z = complete_path h keeps s e' x.class rest last (passed_whole h s e d x class a.settled path.0) done path.1 in
    omega (arith, r, t, u, v, z)

-- one step of a path from what is ready
path_step : (h : Classes) → IsHierarchy h → (s : Objects) (p : ObjectPart) (c : ClassId) (x : PassedMember) (rest : List PassedMember) (last : Subobject) → class_of p.at ≡ Some c → Settled h p.object s.phases → is_ready (s.phases.phase p) ≡ true → IsPassed h c x → IsPath h x.class rest last
    → (is_ready (s.phases.phase (passed_part p x)) ≡ true → rank h s (path_uses (passed_part p x) rest last) ≡ rank h s (asked_members (passed_part p x) rest))
    → rank h s (Passes (passed_part p x) ∷ path_uses (passed_part p x) rest last) ≡ rank h s (asked_members p (x ∷ rest))
path_step h keeps s p c x rest last class settled ready a path more =
    split (is_shared x.base) (λ b. is_shared x.base ≡ b → rank h s (Passes e ∷ path_uses e rest last) ≡ rank h s (if b then [] else Passes e ∷ asked_members e rest)) (λ e _. behind e) (λ _ _. before) refl
  where
    e : ObjectPart
    e = passed_part p x

    t : rank h s (Passes e ∷ path_uses e rest last) ≡ min (rank h s (Passes e ∷ [])) (rank h s (path_uses e rest last))
    t = rank_append h s (Passes e ∷ []) (path_uses e rest last)

    behind : is_shared x.base ≡ true → rank h s (Passes e ∷ path_uses e rest last) ≡ rank h s []
    behind e' =
        let done = passed_done h s p c x class settled a (base_done h s p c x.base class settled a.valid (shared_proper c x.base e') ready) in
        let v = pass_rank h s e false (not_unready s e done) in
        let z = complete_path h keeps s e x.class rest last (passed_whole h s p c x class settled a) done path in
        let n = none_rank h s in
        omega (arith, t, v, z, n)

    u : rank h s (Passes e ∷ asked_members e rest) ≡ min (rank h s (Passes e ∷ [])) (rank h s (asked_members e rest))
    u = rank_append h s (Passes e ∷ []) (asked_members e rest)

    before : rank h s (Passes e ∷ path_uses e rest last) ≡ rank h s (Passes e ∷ asked_members e rest)
    before = split (is_unready s e) (λ b. is_unready s e ≡ b → rank h s (Passes e ∷ path_uses e rest last) ≡ rank h s (Passes e ∷ asked_members e rest))
        (λ f _. let v = pass_rank h s e true f in let k = passes_late h s e rest last in let l = asked_late h s e rest in omega (arith, t, u, v, k, l))
        (λ f _. let m = more (ready_of s e f) in omega (arith, t, u, m)) refl

-- from a member that is ready
pub member_path : (h : Classes) → IsHierarchy h → (s : Objects) (e : ObjectPart) (d : ClassId) (xs : List PassedMember) (last : Subobject) → IsWhole h s e d → is_ready (s.phases.phase e) ≡ true → IsPath h d xs last → rank h s (path_uses e xs last) ≡ rank h s (asked_members e xs)
member_path h keeps s e d [] last a ready path = views_none h s (is_shared last) (Pointer e) (whole_seen h keeps s e d a ready) ∙ sym (none_rank h s)
member_path h keeps s e d (x ∷ rest) last a ready path =
    let class = whole_class h s e d a in
    let e' = passed_part e x in
    let r = rank_append h s (uses_of_view (is_shared x.base) (Pointer e)) (Passes e' ∷ path_uses e' rest last) in
    let u = views_none h s (is_shared x.base) (Pointer e) (whole_seen h keeps s e d a ready) in
    let z = path_step h keeps s e d x rest last class a.settled ready path.0 path.1 (λ f. member_path h keeps s e' x.class rest last (passed_whole h s e d x class a.settled path.0) f path.1) in
    let full = rank_full h s (asked_members e (x ∷ rest)) in
    omega (arith, r, u, z, full)

-- from a pointer whose subobject is ready
pub ready_path : (h : Classes) → IsHierarchy h → (s : Objects) (p : ObjectPart) (c : ClassId) (xs : List PassedMember) (last : Subobject) → class_of p.at ≡ Some c → Settled h p.object s.phases → is_ready (s.phases.phase p) ≡ true → IsPath h c xs last
    → rank h s (path_uses p xs last) ≡ rank h s (uses_of_view (is_shared (first_name_base xs last)) (Pointer p) ++ asked_members p xs)
ready_path h keeps s p c [] last class settled ready path = ap (λ us. rank h s us) (sym (append-nil (uses_of_view (is_shared last) (Pointer p))))
ready_path h keeps s p c (x ∷ rest) last class settled ready path =
    let e = passed_part p x in
    let r = rank_append h s (uses_of_view (is_shared x.base) (Pointer p)) (Passes e ∷ path_uses e rest last) in
    let t = rank_append h s (uses_of_view (is_shared x.base) (Pointer p)) (asked_members p (x ∷ rest)) in
    let z = path_step h keeps s p c x rest last class settled ready path.0 path.1 (λ f. member_path h keeps s e x.class rest last (passed_whole h s p c x class settled path.0) f path.1) in
    r ∙ ap (λ n. min (rank h s (uses_of_view (is_shared x.base) (Pointer p))) n) z ∙ sym t

pub arrow_unready : (h : Classes) (s : Objects) (p : ObjectPart) → is_unready s p ≡ true → rank h s (arrow (Pointer p)) ≤ 2
arrow_unready h s p e = let r = rank_append h s (Reads (Pointer p) ∷ Follows (Pointer p) ∷ []) (Guards (Pointer p) ∷ []) in let g = guard_rank h s (Pointer p) true e in omega (arith, r, g)

no_part : (h : Classes) (s : Objects) (v : Value) (b : Bool) → rank h s (uses_of_view b v) ≡ 12 → rank h s (arrow v ++ []) ≡ rank h s (arrow v ++ (uses_of_view b v ++ []))
no_part h s v b e =
    let r = rank_append h s (arrow v) [] in
    let t = rank_append h s (arrow v) (uses_of_view b v ++ []) in
    let u = rank_append h s (uses_of_view b v) [] in
    let n = none_rank h s in
    omega (arith, r, t, u, n, e)

-- THE PLACE: what is asked of it breaks as what it uses
pub place_rank : (h : Classes) → IsHierarchy h → (s : Objects) → AllSettled h s → (v : Value) (c : ClassId) (place : TypedPlace) → IsOf s v c → IsPath h c place.passed place.base → rank h s (way_uses v place) ≡ rank h s (asked_place v place)
place_rank h keeps s all Unset c place a path = no_part h s Unset (is_shared (first_name_base place.passed place.base)) (views_none h s (is_shared (first_name_base place.passed place.base)) Unset refl)
place_rank h keeps s all (Number z) c place a path = no_part h s (Number z) (is_shared (first_name_base place.passed place.base)) (views_none h s (is_shared (first_name_base place.passed place.base)) (Number z) refl)
place_rank h keeps s all Null c place a path = no_part h s Null (is_shared (first_name_base place.passed place.base)) (views_none h s (is_shared (first_name_base place.passed place.base)) Null refl)
place_rank h keeps s all (Pointer p) c place a path =
    let b = is_shared (first_name_base place.passed place.base) in
    let kept = uses_of_view b (Pointer p) ++ asked_members p place.passed in
    let r = rank_append h s (arrow (Pointer p)) (path_uses p place.passed place.base) in
    let t = rank_append h s (arrow (Pointer p)) kept in
    split (is_unready s p) (λ b. is_unready s p ≡ b → rank h s (way_uses (Pointer p) place) ≡ rank h s (asked_place (Pointer p) place))
    (λ e _.
    let l = arrow_unready h s p e in
    let u = rank_append h s (uses_of_view b (Pointer p)) (asked_members p place.passed) in
    let k = passes_late h s p place.passed place.base in
    let m = asked_late h s p place.passed in
    let n = view_late h s b (Pointer p) in
    omega (arith, r, t, l, u, k, m, n))
    (λ e _. r ∙ ap (λ n. min (rank h s (arrow (Pointer p))) n) (ready_path h keeps s p c place.passed place.base a.0 (all p.object a.1.0 a.1.1) (ready_of s p e) path) ∙ sym t) refl
