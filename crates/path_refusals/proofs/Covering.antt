-- The class members that a copy covers, one after another; and which classes have virtual bases.
use Rattle.std.proofs.Common.{arith, ◌<◌, ◌≤◌, ◌≡◌, ◌+◌, zero, suc, Bool, true, false, Option, Some, None, List, [], ◌∷◌, ◌++◌, inl, refl, ap, sym, subst, ◌∙◌}
use Rattle.std.specs.Prelude.{ℕ, ◌-◌, if◌then◌else◌, nat_lt, length, slice_get}
use Rattle.std.specs.List.{flat_map}
use Rattle.std.proofs.lemmas.Bool.{lt-ltb, le-ltb}
use Rattle.std.proofs.lemmas.Option.{slice_get_past}
use Rattle.foundation.proofs.Truth.{is_false}
use Rattle.foundation.proofs.Members.{Has}
use Rattle.foundation.proofs.Places.{contains_at}
use Rattle.cxx_hierarchy.specs.declared.records.ClassId.{ClassId}
use Rattle.cxx_hierarchy.specs.declared.records.Member.{Member}
use Rattle.cxx_hierarchy.specs.declared.records.FieldType.{FieldType}
use Rattle.cxx_hierarchy.specs.declared.records.ValueType.{ValueType}
use Rattle.cxx_hierarchy.specs.declared.records.FieldType.TheVariants.{Value as ValueField, Object}
use Rattle.cxx_hierarchy.specs.Classes.{Classes, members_in, members_of}
use Rattle.cxx_hierarchy.specs.Declarations.{elements_of}
use Rattle.cxx_hierarchy.specs.Hierarchies.{IsHierarchy}
use Rattle.cxx_subobject.specs.Locations.{ObjectPart, IsElement}
use Rattle.cxx_search.specs.Searches.{has_virtual_base}
use Rattle.cxx_search.proofs.Bases.{found_virtual, virtual_found}
use Rattle.path_rules.specs.declared.Undefined.{Undefined}
use Rattle.path_rules.specs.declared.Undefined.TheVariants.{NotReady}
use Rattle.path_plan.specs.Places.{element}
use Rattle.path_plan.specs.Phases.{is_complete}
use Rattle.path_plan.specs.declared.form.Form.TheVariants.{InFull, AsBase}
use Rattle.path_plan.specs.Plans.{count_from, upto, virtual_order}
use Rattle.path_numbers.specs.Sizes.{sizes_of, total}
use Rattle.path_numbers.proofs.Sized.{sizes_are}
use Rattle.path_numbers.proofs.Intervals.{size_some}
use Rattle.path_numbers.proofs.Rows.{members_known}
use Rattle.path_plan.proofs.Order.{order_has, order_virtual}
use Rattle.path_model.specs.Values.{Value, Pointer, Objects}
use Rattle.path_model.specs.Uses.{StatementUse, Passes, element_uses, member_uses, uses_of_view, arrow}
use Rattle.path_model.specs.Rules.{rules, refused, is_unready}
use Rattle.path_model.specs.Order.{asked_covers, asked_covered}
use Rattle.path_model.proofs.Ranks.{rank, rank_append, rank_full, refused_rank}
use Rattle.path_model.proofs.Single.{none_rank, pass_rank, pass_late, view_late, views_none}
use Rattle.path_model.proofs.Conversions.{is_pointer, off_outside}
use Rattle.path_model.proofs.Covers.{asked_covers_late, complete_covers, cover_rank}
use Rattle.path_model.proofs.Facts.{ready_of}
use Rattle.path_heap.specs.declared.heap.Heap.{Heap}
use Rattle.path_refusals.specs.invariants.Pieces.{TellsReadiness, IsReadyPart}
use Rattle.path_refusals.specs.invariants.Left.{LeftSame, element_asked, member_asked}
use Rattle.path_refusals.proofs.Refused.{stops, goes_on}
use Rattle.path_refusals.proofs.Reading.{nothing, full_none, pass_is, arrow_then}
use Rattle.path_refusals.proofs.Paths.{swapped, off_part, part_late}

-- virtual bases

more_in_full : (h : Classes) → IsHierarchy h → (c : ClassId) (order : List ClassId) → virtual_order h c ≡ order → nat_lt (sizes_of h AsBase c) (sizes_of h InFull c) ≡ has_virtual_base h c
more_in_full h keeps c [] e =
    let full : sizes_of h InFull c ≡ sizes_of h AsBase c + 0 = (sizes_are h keeps).full c ∙ ap (λ vs. sizes_of h AsBase c + total (sizes_of h AsBase) vs) e in
    le-ltb (sizes_of h AsBase c) (sizes_of h InFull c) (omega (arith, full))
    ∙ sym (is_false (has_virtual_base h c) (λ t. let v = found_virtual h c t in absurd (subst (λ (vs : List ClassId). Has vs v.base) e (order_has h keeps c v.base v.has))))
more_in_full h keeps c (v ∷ rest) e =
    let full : sizes_of h InFull c ≡ sizes_of h AsBase c + (sizes_of h AsBase v + total (sizes_of h AsBase) rest) = (sizes_are h keeps).full c ∙ ap (λ vs. sizes_of h AsBase c + total (sizes_of h AsBase) vs) e in
    let some = size_some h (sizes_of h) (sizes_are h keeps) AsBase v in
    lt-ltb (sizes_of h AsBase c) (sizes_of h InFull c) (omega (arith, full, some))
    ∙ sym (virtual_found h keeps c (record { base = v; has = order_virtual h keeps c v (subst (λ (vs : List ClassId). Has vs v) (sym e) (inl refl)) }))

pub has_virtual_is : (h : Classes) → IsHierarchy h → (c : ClassId) → nat_lt (sizes_of h AsBase c) (sizes_of h InFull c) ≡ has_virtual_base h c
has_virtual_is h keeps c = more_in_full h keeps c (virtual_order h c) refl

-- elements

pub element_unready : (h : Classes) (s : Objects) (p : ObjectPart) (k : ℕ) (d : ClassId) → is_unready s p ≡ true → TellsReadiness h s false (Passes p ∷ asked_covers h k d p)
element_unready h s p k d e = sym (stops h s (Passes p ∷ []) (asked_covers h k d p) NotReady (λ _. let r = pass_rank h s p true e in let l = asked_covers_late h s k d p in omega (arith, r, l)) (sym (pass_is h s p true e)))

pub element_ready : (h : Classes) (s : Objects) (p : ObjectPart) (k : ℕ) (d : ClassId) (b : Bool) → is_unready s p ≡ false → TellsReadiness h s b (asked_covers h k d p) → TellsReadiness h s b (Passes p ∷ asked_covers h k d p)
element_ready h s p k d b e told = sym (goes_on h s (Passes p ∷ []) (asked_covers h k d p) (if b then None else Some NotReady) (sym (pass_is h s p false e)) (sym told))

-- one item after another

later : (n : ℕ) → slice_get rules (suc (suc (suc n))) ≡ Some NotReady → ⊥
later zero e = cc
later (suc zero) e = cc
later (suc (suc zero)) e = cc
later (suc (suc (suc zero))) e = cc
later (suc (suc (suc (suc zero)))) e = cc
later (suc (suc (suc (suc (suc zero))))) e = cc
later (suc (suc (suc (suc (suc (suc zero)))))) e = cc
later (suc (suc (suc (suc (suc (suc (suc zero))))))) e = cc
later (suc (suc (suc (suc (suc (suc (suc (suc zero)))))))) e = cc
later (suc (suc (suc (suc (suc (suc (suc (suc (suc n))))))))) e = cc

abbrev at_rule : ℕ → Option Undefined → Type 0
at_rule n o = o ≡ Some NotReady → n ≤ 2

at_two : (n : ℕ) → at_rule n (slice_get rules n)
at_two zero e = omega arith
at_two (suc zero) e = omega arith
at_two (suc (suc zero)) e = omega arith
at_two (suc (suc (suc n))) e = absurd (later n e)

two : (h : Classes) (s : Objects) (us : List StatementUse) → refused h s us ≡ Some NotReady → rank h s us ≤ 2
two h s us e = at_two (rank h s us) (sym (refused_rank h s us) ∙ e)

left_is : (i n : ℕ) → i < n → count_from i (n - i) ≡ i ∷ count_from (i + 1) (n - (i + 1))
left_is i n l = let e : n - i ≡ suc (n - (i + 1)) = omega arith in let f : suc i ≡ i + 1 = omega arith in ap (λ k. count_from i k) e ∙ ap (λ k. i ∷ count_from k (n - (i + 1))) f

flat_late : (h : Classes) (s : Objects) (f : ℕ → List StatementUse) → ((i : ℕ) → 2 ≤ rank h s (f i)) → (xs : List ℕ) → 2 ≤ rank h s (flat_map f xs)
flat_late h s f late [] = let n = none_rank h s in omega (arith, n)
flat_late h s f late (x ∷ xs) = let r = rank_append h s (f x) (flat_map f xs) in let l = late x in let m = flat_late h s f late xs in omega (arith, r, l, m)

pub left_start : (h : Classes) (s : Objects) (f : ℕ → List StatementUse) (n : ℕ) → LeftSame h s f n 0
left_start h s f n = let e : n - 0 ≡ n = omega arith in ap (λ k. refused h s (flat_map f (count_from 0 k))) e

pub left_more : (h : Classes) (s : Objects) (f : ℕ → List StatementUse) (n i : ℕ) → i < n → refused h s (f i) ≡ None → LeftSame h s f n i → LeftSame h s f n (i + 1)
left_more h s f n i l clear same =
    goes_on h s (f i) (flat_map f (count_from (i + 1) (n - (i + 1)))) (refused h s (flat_map f (count_from (i + 1) (n - (i + 1))))) (sym clear) refl
    ∙ (ap (λ xs. refused h s (flat_map f xs)) (sym (left_is i n l)) ∙ same)

pub left_stops : (h : Classes) (s : Objects) (f : ℕ → List StatementUse) (n i : ℕ) → i < n → refused h s (f i) ≡ Some NotReady → ((j : ℕ) → 2 ≤ rank h s (f j)) → LeftSame h s f n i → refused h s (flat_map f (upto n)) ≡ Some NotReady
left_stops h s f n i l e late same =
    sym same ∙ (ap (λ xs. refused h s (flat_map f xs)) (left_is i n l)
    ∙ sym (stops h s (f i) (flat_map f (count_from (i + 1) (n - (i + 1)))) NotReady (λ less. let t = two h s (f i) e in let m = flat_late h s f late (count_from (i + 1) (n - (i + 1))) in omega (arith, t, m)) (sym e)))

pub left_end : (h : Classes) (s : Objects) (f : ℕ → List StatementUse) (n i : ℕ) → n ≤ i → LeftSame h s f n i → refused h s (flat_map f (upto n)) ≡ None
left_end h s f n i l same = sym same ∙ (let e : n - i ≡ 0 = omega arith in ap (λ k. refused h s (flat_map f (count_from i k))) e ∙ sym (nothing h s))

-- members

element_late : (h : Classes) (s : Objects) (k : ℕ) (d : ClassId) (p : ObjectPart) → 2 ≤ rank h s (Passes p ∷ asked_covers h k d p)
element_late h s k d p = let r = rank_append h s (Passes p ∷ []) (asked_covers h k d p) in let l = pass_late h s p in let m = asked_covers_late h s k d p in omega (arith, r, l, m)

member_late : (h : Classes) (s : Objects) (k : ℕ) (p : ObjectPart) (m : ℕ) (o : Option (Member ClassId)) → 2 ≤ rank h s (member_uses (asked_covers h k) p m o)
member_late h s k p m None = let n = none_rank h s in omega (arith, n)
member_late h s k p m (Some member) = of_type member.ty
  where
    of_type : (ty : FieldType ClassId) → 2 ≤ rank h s (element_uses (asked_covers h k) p m (upto (elements_of member.count)) ty)
    of_type (ValueField t) = let n = none_rank h s in omega (arith, n)
    of_type (Object d) = flat_late h s (element_asked h k p m d) (λ i. element_late h s k d (element p m i d)) (upto (elements_of member.count))

pub elements_late : (h : Classes) (s : Objects) (k : ℕ) (p : ObjectPart) (m : ℕ) (d : ClassId) (i : ℕ) → 2 ≤ rank h s (element_asked h k p m d i)
elements_late h s k p m d i = element_late h s k d (element p m i d)

pub members_late : (h : Classes) (s : Objects) (k : ℕ) (p : ObjectPart) (c : ClassId) (m : ℕ) → 2 ≤ rank h s (member_asked h k p c m)
members_late h s k p c m = member_late h s k p m (slice_get (members_of h c) m)

pub value_member : (h : Classes) (s : Objects) (k : ℕ) (p : ObjectPart) (m : ℕ) (member : Member ClassId) (t : ValueType ClassId) → member.ty ≡ ValueField t → TellsReadiness h s true (member_uses (asked_covers h k) p m (Some member))
value_member h s k p m member t e = ap (λ (ty : FieldType ClassId). refused h s (element_uses (asked_covers h k) p m (upto (elements_of member.count)) ty)) e ∙ sym (nothing h s)

pub object_member : (h : Classes) (s : Objects) (k : ℕ) (p : ObjectPart) (m : ℕ) (member : Member ClassId) (d : ClassId) (n : ℕ) (b : Bool) → member.ty ≡ Object d → n ≡ elements_of member.count → TellsReadiness h s b (flat_map (element_asked h k p m d) (upto n)) → TellsReadiness h s b (member_uses (asked_covers h k) p m (Some member))
object_member h s k p m member d n b e is told =
    ap (λ (ty : FieldType ClassId). refused h s (element_uses (asked_covers h k) p m (upto (elements_of member.count)) ty)) e
    ∙ (ap (λ j. refused h s (flat_map (element_asked h k p m d) (upto j))) (sym is) ∙ told)

pub element_of : (h : Classes) (c : ClassId) (m i : ℕ) (member : Member ClassId) (d : ClassId) (n : ℕ) → slice_get (members_of h c) m ≡ Some member → member.ty ≡ Object d → n ≡ elements_of member.count → i < n → IsElement h c m i (Object d)
element_of h c m i member d n listed e is l = record { member = member; there = listed; type_is = e; within = subst (λ k. i < k) is l }

pub member_below : (h : Classes) → IsHierarchy h → (c : ClassId) (m : ℕ) (member : Member ClassId) (d : ClassId) → slice_get (members_of h c) m ≡ Some member → member.ty ≡ Object d → d.0 < c.0
member_below h keeps c m member d listed e = members_known h keeps c c.0 (members_of h c) refl refl member d (contains_at (members_of h c) m member listed) e

-- the members of a class whose number is past the last have none
pub past_covers : (h : Classes) (s : Objects) (k : ℕ) (c : ClassId) (p : ObjectPart) → length h ≤ c.0 → TellsReadiness h s true (asked_covers h k c p)
past_covers h s zero c p l = sym (nothing h s)
past_covers h s (suc k) c p l = ap (λ o. refused h s (flat_map (λ m. member_uses (asked_covers h k) p m (slice_get (members_in o) m)) (upto (length (members_in o))))) (slice_get_past h c.0 l) ∙ sym (nothing h s)

pub own_covers : (h : Classes) (s : Objects) (k : ℕ) (c : ClassId) (p : ObjectPart) (n : ℕ) (b : Bool) → c.0 < k → n ≡ length (members_of h c) → ((j : ℕ) → c.0 ≤ j → TellsReadiness h s b (flat_map (member_asked h j p c) (upto n))) → TellsReadiness h s b (asked_covers h k c p)
own_covers h s zero c p n b l is each = absurd (omega arith)
own_covers h s (suc k) c p n b l is each = ap (λ j. refused h s (flat_map (member_asked h k p c) (upto j))) (sym is) ∙ each k (omega (arith, l))

pub complete_covered : (h : Classes) → IsHierarchy h → (heap : Heap) (s : Objects) (n : ℕ) (p : ObjectPart) (c : ClassId) (k : ℕ) → IsReadyPart h heap s n p c → is_complete (s.phases.phase p) ≡ true → TellsReadiness h s true (asked_covers h k c p)
complete_covered h keeps heap s n p c k a full =
    let r = complete_covers h s k c p a.of_class a.settled full in
    let t = cover_rank h keeps s k c p a.of_class a.settled (ready_of s p a.ready) in
    let f = rank_full h s (asked_covers h k c p) in
    sym (full_none h s (asked_covers h k c p) (omega (arith, r, t, f)))

-- sides of a copy

covers_two : (h : Classes) (s : Objects) (us vs : List StatementUse) → TellsReadiness h s false us → 2 ≤ rank h s vs → Some NotReady ≡ refused h s (us ++ vs)
covers_two h s us vs e late = stops h s us vs NotReady (λ _. let t = two h s us e in omega (arith, t, late)) (sym e)

pub covered_stops : (h : Classes) (s : Objects) (b : Bool) (p : ObjectPart) (c : ClassId) → TellsReadiness h s false (asked_covers h (c.0 + 1) c p) → Some NotReady ≡ refused h s (uses_of_view b (Pointer p) ++ asked_covered h c (Pointer p))
covered_stops h s b p c e = covers_two h s (asked_covers h (c.0 + 1) c p) (uses_of_view b (Pointer p)) e (let v = view_late h s b (Pointer p) in omega (arith, v)) ∙ swapped h s (asked_covers h (c.0 + 1) c p) (uses_of_view b (Pointer p))

pub covered_on : (h : Classes) (s : Objects) (b : Bool) (p : ObjectPart) (c : ClassId) (rule : Option Undefined) → TellsReadiness h s true (asked_covers h (c.0 + 1) c p) → rule ≡ refused h s (uses_of_view b (Pointer p)) → rule ≡ refused h s (uses_of_view b (Pointer p) ++ asked_covered h c (Pointer p))
covered_on h s b p c rule e f = goes_on h s (asked_covers h (c.0 + 1) c p) (uses_of_view b (Pointer p)) rule (sym e) f ∙ swapped h s (asked_covers h (c.0 + 1) c p) (uses_of_view b (Pointer p))

covered_off : (h : Classes) (s : Objects) (b : Bool) (x : Value) (c : ClassId) → is_pointer x ≡ false → rank h s (uses_of_view b x ++ asked_covered h c x) ≡ 12
covered_off h s b x c e = let r = rank_append h s (uses_of_view b x) (asked_covered h c x) in let v = views_none h s b x (off_outside h s x e) in let n = off_part h s (asked_covers h (c.0 + 1) c) x e in omega (arith, r, v, n)

pub off_covered : (h : Classes) (s : Objects) (b : Bool) (x : Value) (c : ClassId) → is_pointer x ≡ false → None ≡ refused h s (uses_of_view b x ++ asked_covered h c x)
off_covered h s b x c e = full_none h s (uses_of_view b x ++ asked_covered h c x) (covered_off h s b x c e)

pub arrow_covered : (h : Classes) (s : Objects) (b : Bool) (x : Value) (c : ClassId) → rank h s (arrow x) < 12 → rank h s (arrow x) ≤ rank h s (uses_of_view b x ++ asked_covered h c x)
arrow_covered h s b x c less = arrow_then h s x (uses_of_view b x ++ asked_covered h c x) (covered_off h s b x c)
    (let r = rank_append h s (uses_of_view b x) (asked_covered h c x) in let v = view_late h s b x in let n = part_late h s (asked_covers h (c.0 + 1) c) (λ p. asked_covers_late h s (c.0 + 1) c p) x in omega (arith, r, v, n)) less
