-- The right sides: the order of their tests answers the refusal.
use Rattle.std.proofs.Common.{arith, ◌≡◌, ◌<◌, ◌≤◌, true, false, not, ◌||◌, Option, Some, None, List, [], ◌∷◌, ◌++◌, refl, ap, subst, sym, ◌∙◌, append-nil}
use Rattle.cxx_hierarchy.specs.declared.records.ClassId.{ClassId}
use Rattle.cxx_hierarchy.specs.Classes.{Classes}
use Rattle.cxx_hierarchy.specs.Hierarchies.{IsHierarchy}
use Rattle.cxx_subobject.specs.declared.Subobject.{Subobject}
use Rattle.cxx_subobject.specs.Subobjects.{class_of, whole_of}
use Rattle.foundation.proofs.Truth.{split}
use Rattle.path_plan.specs.Places.{ObjectPart}
use Rattle.path_plan.specs.Phases.{is_complete}
use Rattle.path_plan.specs.Views.{Settled}
use Rattle.path_plan.proofs.Uses.{complete_ready}
use Rattle.cxx_search.specs.Searches.{is_within, cast_in}
use Rattle.path_model.specs.Rules.{is_clear}
use Rattle.std.specs.Option.{option_or}
use Rattle.std.specs.Prelude.{if◌then◌else◌, min, not, is_none}
use Rattle.cxx_program.specs.declared.operand.Conversion.{Conversion}
use Rattle.cxx_program.specs.declared.operand.Conversion.TheVariants.{Base as ToBase}
use Rattle.cxx_program.specs.declared.statement.PassedMember.{PassedMember}
use Rattle.cxx_program.specs.declared.statement.TypedPlace.{TypedPlace}
use Rattle.cxx_program.specs.declared.statement.TypedCast.TheVariants.{Same as SameClass, Up, Down, Dynamic}
use Rattle.cxx_program.specs.declared.statement.TypedCast.{TypedCast}
use Rattle.path_rules.specs.declared.Undefined.TheVariants.{Dangling, Unset as UnsetUse}
use Rattle.path_model.specs.Values.{Value, Unset, Number, Null, Pointer, Objects, to_base}
use Rattle.path_model.specs.Places.{passed_part, end_part, last_passed, address_value}
use Rattle.path_model.specs.Uses.{StatementUse, Reads, Follows, Guards, Passes, Views, Downs, is_shared, uses_of_view, convert, derived_of, value_or, view_cast, down_value, dynamic_value, cast_value, cast_uses, leaf_uses, view_of}
use Rattle.path_model.specs.Rules.{names, is_unready, is_outside, is_outside_of, refused}
use Rattle.path_model.specs.Typed.{AllSettled, IsOf, IsPath, IsCastFrom}
use Rattle.path_model.specs.Order.{Asked, first_broken, sorted, asked_members, first_name_base, asked_place, leaf_order}
use Rattle.path_model.proofs.Ranks.{first_place, rank, rank_append, rank_full}
use Rattle.path_model.proofs.Sorted.{Answers, by_sort, broken_append, Outcome, none, broken, outcome, by_rank, by_then}
use Rattle.path_model.proofs.Single.{none_rank, guard_rank, pass_rank, view_rank}
use Rattle.path_model.proofs.Facts.{IsWhole, whole_class, whole_seen, passed_whole, base_done, shared_proper, passed_done, member_done, not_unready, ready_of}
use Rattle.path_model.proofs.Places.{way_uses, place_rank}
use Rattle.path_model.proofs.Conversions.{is_pointer, convert_late, convert_steady, convert_clear, convert_off, convert_then, read_then, base_steady}

-- a leaf is asked whether it is set, then where it leads
read_leaf : (h : Classes) (s : Objects) (v : Value) → Answers h s (Reads v ∷ []) (record { rule = UnsetUse; of = Reads v } ∷ record { rule = Dangling; of = Reads v } ∷ [])
unfolding refused
read_leaf h s Unset = record { same = refl }
read_leaf h s (Number z) = record { same = refl }
read_leaf h s Null = record { same = refl }
read_leaf h s (Pointer p) = record { same = split (s.is_closed p.object) (λ b. (if (b || false) then Some Dangling else None) ≡ (if b then Some Dangling else None)) (λ e. refl) (λ e. refl) }

leaf_answers : (h : Classes) (s : Objects) (v : Value) (c : Conversion) → Answers h s (Reads v ∷ convert v c) (leaf_order v c)
leaf_answers h s v c = by_then h s (Reads v ∷ []) (convert v c) (record { rule = UnsetUse; of = Reads v } ∷ record { rule = Dangling; of = Reads v } ∷ []) (sorted (convert v c)) (read_leaf h s v) (by_sort h s (convert v c))
    (read_then h s v [] (convert v c) (convert_off h s v c) (convert_late h s v c) (λ less. let n = none_rank h s in omega (arith, n, less)))

-- what is listed only where the uses in front are clear can be asked behind them
pub by_clear : (h : Classes) (s : Objects) (a : List StatementUse) (x : List Asked) (v : Value) (c : Conversion) → Answers h s a x → Answers h s (a ++ leaf_uses (is_clear h s a) v c) (x ++ leaf_order v c)
by_clear h s a x v c p = cases (outcome h s a)
  where
    cases : Outcome h s a → Answers h s (a ++ leaf_uses (is_clear h s a) v c) (x ++ leaf_order v c)
    cases (none e full) = subst (λ b. Answers h s (a ++ leaf_uses b v c) (x ++ leaf_order v c)) (sym (ap is_none e))
        (by_then h s a (Reads v ∷ convert v c) x (leaf_order v c) p (leaf_answers h s v c) (λ less. absurd (omega (arith, full, less))))
    cases (broken r e less) = subst (λ b. Answers h s (a ++ leaf_uses b v c) (x ++ leaf_order v c)) (sym (ap is_none e))
        (record { same = ap (λ us. refused h s us) (append-nil a) ∙ (e ∙ (ap (λ o. option_or o (first_broken h s (leaf_order v c))) (sym e ∙ p.same) ∙ sym (broken_append h s x (leaf_order v c)))) })

pub read_answers : (h : Classes) → IsHierarchy h → (s : Objects) → AllSettled h s → (v lv : Value) (d : ClassId) (place : TypedPlace) (c : Conversion) → IsOf s v d → IsPath h d place.passed place.base
    → Answers h s (way_uses v place ++ leaf_uses (is_clear h s (way_uses v place)) lv c) (sorted (asked_place v place) ++ leaf_order lv c)
read_answers h keeps s all v lv d place c a path = by_clear h s (way_uses v place) (sorted (asked_place v place)) lv c
    (by_rank h s (way_uses v place) (asked_place v place) (sorted (asked_place v place)) (place_rank h keeps s all v d place a path) (by_sort h s (asked_place v place)))

-- casts

unset_off : (h : Classes) (s : Objects) (v : Value) (c : Conversion) → v ≡ Unset → rank h s (convert v c) ≡ 12
unset_off h s v c e = convert_off h s v c (ap is_pointer e)

outside_unset : (h : Classes) (s : Objects) (target : ClassId) (p : ObjectPart) → is_outside h s p ≡ true → dynamic_value h s target (Pointer p) ≡ Unset
outside_unset h s target p e = by_view (view_of h s p) e
  where
    by_view : (view : Option Subobject) → is_outside_of h view p.at ≡ true → view_cast h target p view ≡ Unset
    by_view None e = refl
    by_view (Some x) e = split (is_within h x p.at) (λ b. not b ≡ true → (if b then value_or p Null (cast_in h target x p.at) else Unset) ≡ Unset) (λ _ f. absurd (cc)) (λ _ _. refl) e

pub cast_off : (h : Classes) (s : Objects) (cast : TypedCast) (v : Value) → is_pointer v ≡ false → is_pointer (cast_value h s cast v) ≡ false
cast_off h s SameClass v e = e
cast_off h s (Up i) Unset e = refl
cast_off h s (Up i) (Number z) e = refl
cast_off h s (Up i) Null e = refl
cast_off h s (Up i) (Pointer p) e = absurd (cc)
cast_off h s (Down target i) Unset e = refl
cast_off h s (Down target i) (Number z) e = refl
cast_off h s (Down target i) Null e = refl
cast_off h s (Down target i) (Pointer p) e = absurd (cc)
cast_off h s (Dynamic target) Unset e = refl
cast_off h s (Dynamic target) (Number z) e = refl
cast_off h s (Dynamic target) Null e = refl
cast_off h s (Dynamic target) (Pointer p) e = absurd (cc)

guards_two : (h : Classes) (s : Objects) (v : Value) → rank h s (Guards v ∷ []) < 12 → rank h s (Guards v ∷ []) ≤ 2
guards_two h s v less = split (names (is_unready s) v) (λ b. rank h s (Guards v ∷ []) ≤ 2) (λ e. let r = guard_rank h s v true e in omega (arith, r)) (λ e. let r = guard_rank h s v false e in omega (arith, r, less))

down_rank : (h : Classes) (s : Objects) (p : ObjectPart) (target : ClassId) (i : Subobject) → is_none (derived_of h s target i p) ≡ false → rank h s (Downs (Pointer p) target i ∷ []) ≡ 12
unfolding rank first_place
down_rank h s p target i e = rw e refl

none_value : (p : ObjectPart) (o : Option Subobject) → is_none o ≡ true → value_or p Unset o ≡ Unset
none_value p None e = refl
none_value p (Some t) e = absurd (cc)

-- what a pointer's cast asks beside the reading comes before its result's conversion
cast_then : (h : Classes) (s : Objects) → AllSettled h s → (cast : TypedCast) (p : ObjectPart) (d : ClassId) (c : Conversion) → IsOf s (Pointer p) d → IsCastFrom h d cast
    → rank h s (cast_uses cast (Pointer p)) < 12 → rank h s (cast_uses cast (Pointer p)) ≤ rank h s (convert (cast_value h s cast (Pointer p)) c)
cast_then h s all SameClass p d c a typed = read_then h s (Pointer p) (Guards (Pointer p) ∷ []) (convert (Pointer p) c) (λ f. absurd (cc)) (convert_late h s (Pointer p) c)
    (λ less. let g = guards_two h s (Pointer p) less in let l = convert_late h s (Pointer p) c in omega (arith, g, l))
cast_then h s all (Up i) p d c a typed = read_then h s (Pointer p) (convert (Pointer p) (ToBase i)) (convert (to_base i (Pointer p)) c) (λ f. absurd (cc)) (convert_late h s (to_base i (Pointer p)) c)
    (convert_then h s (Pointer p) (ToBase i) (convert (to_base i (Pointer p)) c) (convert_late h s (to_base i (Pointer p)) c) (λ f. convert_steady h s (to_base i (Pointer p)) c (base_steady h s all (Pointer p) d typed.0 i a typed.1 f)))
cast_then h s all (Down target i) p d c a typed =
    let v' = down_value h s target i (Pointer p) in
    read_then h s (Pointer p) (Guards (Pointer p) ∷ Downs (Pointer p) target i ∷ []) (convert v' c) (λ f. absurd (cc)) (convert_late h s v' c)
    (λ less.
    let r = rank_append h s (Guards (Pointer p) ∷ []) (Downs (Pointer p) target i ∷ []) in
    let l = convert_late h s v' c in
    split (is_none (derived_of h s target i p)) (λ b. rank h s (Guards (Pointer p) ∷ Downs (Pointer p) target i ∷ []) ≤ rank h s (convert v' c))
    (λ f. let o = unset_off h s v' c (none_value p (derived_of h s target i p) f) in let k = rank_full h s (Guards (Pointer p) ∷ Downs (Pointer p) target i ∷ []) in omega (arith, o, k))
    (λ f. let k = down_rank h s p target i f in let g : rank h s (Guards (Pointer p) ∷ []) ≤ 2 = guards_two h s (Pointer p) (omega (arith, r, k, less)) in omega (arith, r, k, g, l)))
cast_then h s all (Dynamic target) p d c a typed =
    let v' = dynamic_value h s target (Pointer p) in
    read_then h s (Pointer p) (Guards (Pointer p) ∷ Views (Pointer p) ∷ []) (convert v' c) (λ f. absurd (cc)) (convert_late h s v' c)
    (λ less.
    let r = rank_append h s (Guards (Pointer p) ∷ []) (Views (Pointer p) ∷ []) in
    let l = convert_late h s v' c in
    split (is_outside h s p) (λ b. rank h s (Guards (Pointer p) ∷ Views (Pointer p) ∷ []) ≤ rank h s (convert v' c))
    (λ f. let o = unset_off h s v' c (outside_unset h s target p f) in let k = rank_full h s (Guards (Pointer p) ∷ Views (Pointer p) ∷ []) in omega (arith, o, k))
    (λ f. let k = view_rank h s (Pointer p) false f in let g : rank h s (Guards (Pointer p) ∷ []) ≤ 2 = guards_two h s (Pointer p) (omega (arith, r, k, less)) in omega (arith, r, k, g, l)))

cast_ranks : (h : Classes) (s : Objects) → AllSettled h s → (cast : TypedCast) (v : Value) (d : ClassId) (c : Conversion) → IsOf s v d → IsCastFrom h d cast
    → rank h s (cast_uses cast v) < 12 → rank h s (cast_uses cast v) ≤ rank h s (convert (cast_value h s cast v) c)
cast_ranks h s all cast Unset d c a typed less = let o = convert_off h s (cast_value h s cast Unset) c (cast_off h s cast Unset refl) in let k = rank_full h s (cast_uses cast Unset) in omega (arith, o, k)
cast_ranks h s all cast (Number z) d c a typed less = let o = convert_off h s (cast_value h s cast (Number z)) c (cast_off h s cast (Number z) refl) in let k = rank_full h s (cast_uses cast (Number z)) in omega (arith, o, k)
cast_ranks h s all cast Null d c a typed less = let o = convert_off h s (cast_value h s cast Null) c (cast_off h s cast Null refl) in let k = rank_full h s (cast_uses cast Null) in omega (arith, o, k)
cast_ranks h s all cast (Pointer p) d c a typed less = cast_then h s all cast p d c a typed less

pub cast_answers : (h : Classes) (s : Objects) → AllSettled h s → (cast : TypedCast) (v : Value) (d : ClassId) (c : Conversion) → IsOf s v d → IsCastFrom h d cast
    → Answers h s (cast_uses cast v ++ convert (cast_value h s cast v) c) (sorted (cast_uses cast v) ++ sorted (convert (cast_value h s cast v) c))
cast_answers h s all cast v d c a typed = by_then h s (cast_uses cast v) (convert (cast_value h s cast v) c) (sorted (cast_uses cast v)) (sorted (convert (cast_value h s cast v) c)) (by_sort h s (cast_uses cast v)) (by_sort h s (convert (cast_value h s cast v) c))
    (cast_ranks h s all cast v d c a typed)

-- addresses

-- a member whose object is complete, with all in it
record EndsWell (h : Classes) (s : Objects) (e : ObjectPart) : Type 0 where
  class : ClassId
  whole : IsWhole h s e class
  full : is_complete (s.phases.phase e) ≡ true

end_whole : (h : Classes) (s : Objects) (e : ObjectPart) (d : ClassId) (xs : List PassedMember) (last : Subobject) → IsWhole h s e d → is_complete (s.phases.phase e) ≡ true → IsPath h d xs last → EndsWell h s (end_part e xs)
end_whole h s e d [] last a full path = record { class = d; whole = a; full = full }
end_whole h s e d (x ∷ rest) last a full path =
    let class = whole_class h s e d a in
    end_whole h s (passed_part e x) x.class rest last (passed_whole h s e d x class a.settled path.0) (member_done h s e d x class a.settled path.0 full) path.1

end_at : (h : Classes) (s : Objects) (p : ObjectPart) (c : ClassId) (xs : List PassedMember) (x : PassedMember) (last : Subobject) → class_of p.at ≡ Some c → Settled h p.object s.phases → is_unready s p ≡ false → IsPath h c (xs ++ x ∷ []) last → is_shared (first_name_base xs x.base) ≡ true → EndsWell h s (end_part p (xs ++ x ∷ []))
end_at h s p c [] x last class settled e path shared =
    record { class = x.class; whole = passed_whole h s p c x class settled path.0; full = passed_done h s p c x class settled path.0 (base_done h s p c x.base class settled path.0.valid (shared_proper c x.base shared) (ready_of s p e)) }
end_at h s p c (y ∷ rest) x last class settled e path shared =
    end_whole h s (passed_part p y) y.class (rest ++ x ∷ []) last (passed_whole h s p c y class settled path.0)
    (passed_done h s p c y class settled path.0 (base_done h s p c y.base class settled path.0.valid (shared_proper c y.base shared) (ready_of s p e))) path.1

pub asked_two : (h : Classes) (s : Objects) (p : ObjectPart) (xs : List PassedMember) → rank h s (asked_members p xs) < 12 → rank h s (asked_members p xs) ≤ 2
asked_two h s p [] less = let n = none_rank h s in omega (arith, n, less)
asked_two h s p (x ∷ rest) less = split (is_shared x.base) (λ b. rank h s (if b then [] else Passes e ∷ asked_members e rest) < 12 → rank h s (if b then [] else Passes e ∷ asked_members e rest) ≤ 2)
    (λ _ l. let n = none_rank h s in omega (arith, n, l))
    (λ _ l. let r = rank_append h s (Passes e ∷ []) (asked_members e rest) in
    split (is_unready s e) (λ b. rank h s (Passes e ∷ asked_members e rest) ≤ 2)
    (λ f. let v = pass_rank h s e true f in omega (arith, r, v))
    (λ f. let v = pass_rank h s e false f in let m : rank h s (asked_members e rest) ≤ 2 = asked_two h s e rest (omega (arith, r, v, l)) in omega (arith, r, m))) less
  where
    e : ObjectPart
    e = passed_part p x

follow_rank : (h : Classes) (s : Objects) (p : ObjectPart) → rank h s (Follows (Pointer p) ∷ []) ≡ 12
unfolding rank first_place
follow_rank h s p = refl

address_then : (h : Classes) → IsHierarchy h → (s : Objects) → AllSettled h s → (p : ObjectPart) (k d : ClassId) (place : TypedPlace) (c : Conversion) → IsOf s (Pointer p) k → IsPath h k (place.passed ++ last_passed place d ∷ []) (whole_of d)
    → rank h s (asked_place (Pointer p) place) < 12 → rank h s (asked_place (Pointer p) place) ≤ rank h s (convert (address_value place d (Pointer p)) c)
address_then h keeps s all p k d place c a path = read_then h s (Pointer p) (Follows (Pointer p) ∷ (Guards (Pointer p) ∷ tests)) B (λ f. absurd (cc)) late step
  where
    tests : List StatementUse
    tests = uses_of_view (is_shared (first_name_base place.passed place.base)) (Pointer p) ++ asked_members p place.passed

    end : ObjectPart
    end = end_part p (place.passed ++ last_passed place d ∷ [])

    B : List StatementUse
    B = convert (Pointer end) c

    late : 2 ≤ rank h s B
    late = convert_late h s (Pointer end) c

    r : rank h s (Follows (Pointer p) ∷ (Guards (Pointer p) ∷ tests)) ≡ min (rank h s (Follows (Pointer p) ∷ [])) (rank h s (Guards (Pointer p) ∷ tests))
    r = rank_append h s (Follows (Pointer p) ∷ []) (Guards (Pointer p) ∷ tests)

    t : rank h s (Guards (Pointer p) ∷ tests) ≡ min (rank h s (Guards (Pointer p) ∷ [])) (rank h s tests)
    t = rank_append h s (Guards (Pointer p) ∷ []) tests

    u : rank h s tests ≡ min (rank h s (uses_of_view (is_shared (first_name_base place.passed place.base)) (Pointer p))) (rank h s (asked_members p place.passed))
    u = rank_append h s (uses_of_view (is_shared (first_name_base place.passed place.base)) (Pointer p)) (asked_members p place.passed)

    ready : is_unready s p ≡ false → rank h s tests < 12 → rank h s tests ≤ rank h s B
    ready e less = split (is_shared (first_name_base place.passed place.base)) (λ b. is_shared (first_name_base place.passed place.base) ≡ b → rank h s tests ≡ min (rank h s (uses_of_view b (Pointer p))) (rank h s (asked_members p place.passed)) → rank h s tests ≤ rank h s B)
        (λ f _ _.
        let z = end_at h s p k place.passed (last_passed place d) (whole_of d) a.0 (all p.object a.1.0 a.1.1) e path f in
        let full : rank h s B ≡ 12 = convert_clear h s (Pointer end) c (not_unready s end z.full) (whole_seen h keeps s end z.class z.whole (complete_ready (s.phases.phase end) z.full)) in
        omega (arith, full, less))
        (λ f _ v. let n = none_rank h s in let m : rank h s (asked_members p place.passed) ≤ 2 = asked_two h s p place.passed (omega (arith, n, v, less)) in let l = late in omega (arith, v, m, l)) refl u

    step : rank h s (Follows (Pointer p) ∷ (Guards (Pointer p) ∷ tests)) < 12 → rank h s (Follows (Pointer p) ∷ (Guards (Pointer p) ∷ tests)) ≤ rank h s B
    step less = let l = late in let r' = r in let t' = t in let f = follow_rank h s p in
        split (is_unready s p) (λ b. is_unready s p ≡ b → rank h s (Follows (Pointer p) ∷ (Guards (Pointer p) ∷ tests)) ≤ rank h s B)
        (λ e _. let g = guard_rank h s (Pointer p) true e in omega (arith, r', t', g, l))
        (λ e _. let g = guard_rank h s (Pointer p) false e in let m : rank h s tests ≤ rank h s B = ready e (omega (arith, r', t', f, g, less)) in omega (arith, r', t', m)) refl

address_ranks : (h : Classes) → IsHierarchy h → (s : Objects) → AllSettled h s → (v : Value) (k d : ClassId) (place : TypedPlace) (c : Conversion) → IsOf s v k → IsPath h k (place.passed ++ last_passed place d ∷ []) (whole_of d)
    → rank h s (asked_place v place) < 12 → rank h s (asked_place v place) ≤ rank h s (convert (address_value place d v) c)
address_ranks h keeps s all Unset k d place c a path less = let o = convert_off h s Unset c refl in let f = rank_full h s (asked_place Unset place) in omega (arith, o, f)
address_ranks h keeps s all (Number z) k d place c a path less = let o = convert_off h s Unset c refl in let f = rank_full h s (asked_place (Number z) place) in omega (arith, o, f)
address_ranks h keeps s all Null k d place c a path less = let o = convert_off h s Unset c refl in let f = rank_full h s (asked_place Null place) in omega (arith, o, f)
address_ranks h keeps s all (Pointer p) k d place c a path less = address_then h keeps s all p k d place c a path less

-- one list of uses in place of another of the same rank
pub rank_front : (h : Classes) (s : Objects) (a b c : List StatementUse) → rank h s a ≡ rank h s b → rank h s (a ++ c) ≡ rank h s (b ++ c)
rank_front h s a b c e = rank_append h s a c ∙ (ap (λ n. min n (rank h s c)) e ∙ sym (rank_append h s b c))

pub address_answers : (h : Classes) → IsHierarchy h → (s : Objects) → AllSettled h s → (v : Value) (k d : ClassId) (place : TypedPlace) (c : Conversion) → IsOf s v k → IsPath h k place.passed place.base → IsPath h k (place.passed ++ last_passed place d ∷ []) (whole_of d)
    → Answers h s (way_uses v place ++ convert (address_value place d v) c) (sorted (asked_place v place) ++ sorted (convert (address_value place d v) c))
address_answers h keeps s all v k d place c a path longer =
    let B = convert (address_value place d v) c in
    by_rank h s (way_uses v place ++ B) (asked_place v place ++ B) (sorted (asked_place v place) ++ sorted B)
    (rank_front h s (way_uses v place) (asked_place v place) B (place_rank h keeps s all v k place a path))
    (by_then h s (asked_place v place) B (sorted (asked_place v place)) (sorted B) (by_sort h s (asked_place v place)) (by_sort h s B) (address_ranks h keeps s all v k d place c a longer))
