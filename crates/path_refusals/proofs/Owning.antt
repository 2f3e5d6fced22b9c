-- What a `delete` and a dump ask: the destructor, the complete object and the heap object.
use Rattle.std.proofs.Common.{arith, ◌<◌, ◌≤◌, ◌≡◌, ◌↔◌, Bool, true, false, Some, None, List, [], ◌∷◌, refl, ap, sym, subst, ◌∙◌}
use Rattle.std.specs.Prelude.{ℕ, if◌then◌else◌, not, nat_eq, IsTrue, length, slice_get}
use Rattle.std.specs.Option.{option_map_or}
use Rattle.std.proofs.lemmas.Bool.{eqb-true, eq-eqb}
use Rattle.foundation.proofs.Truth.{split, is_false}
use Rattle.cxx_hierarchy.specs.declared.records.ClassId.{ClassId}
use Rattle.cxx_hierarchy.specs.Classes.{Class, Classes, class_at}
use Rattle.cxx_hierarchy.specs.Hierarchies.{IsHierarchy}
use Rattle.cxx_subobject.specs.declared.Subobject.{Subobject}
use Rattle.cxx_subobject.specs.Subobjects.{whole_of, same_subobject}
use Rattle.cxx_subobject.specs.Locations.{ObjectPart}
use Rattle.cxx_subobject.proofs.TreeLemmas.{subobject_same, same_itself}
use Rattle.cxx_overrider.specs.declared.FunctionId.{FunctionId}
use Rattle.cxx_overrider.specs.Virtuals.{is_virtual}
use Rattle.cxx_overrider.specs.Overriding.{IsVirtual}
use Rattle.cxx_search.specs.Searches.{destructor_of}
use Rattle.cxx_hierarchy.specs.Classes.{functions_in}
use Rattle.cxx_search.proofs.Virtuals.{test_virtual, virtual_test}
use Rattle.path_rules.specs.declared.Undefined.TheVariants.{Dangling, NonVirtualDelete, NotHeapObject, NotComplete}
use Rattle.path_plan.specs.Places.{part}
use Rattle.path_plan.specs.Phases.{is_complete}
use Rattle.path_plan.specs.Whole.{whole_part}
use Rattle.path_numbers.specs.Sizes.{sizes_of}
use Rattle.path_numbers.specs.Nodes.{Node}
use Rattle.path_numbers.proofs.Sized.{sizes_are}
use Rattle.path_numbers.proofs.Heap.{heap_part, heap_number, at_good, at_object}
use Rattle.path_model.specs.Values.{Value, Unset, Number, Null, Pointer, Objects}
use Rattle.path_model.specs.Places.{owner_class}
use Rattle.path_model.specs.Uses.{StatementUse, Reads, Follows, Guards, Deletes, Dumps, uses_of_view, class_of_owner}
use Rattle.path_model.specs.Rules.{refused, names, is_unready, is_no_whole, is_incomplete, is_whole_complete, is_in_heap_object, is_outside}
use Rattle.std.proofs.Common.{ltb}
use Rattle.std.proofs.lemmas.Bool.{ltb-true, ltb-false}
use Rattle.path_model.proofs.Ranks.{first_place, rank, rank_append}
use Rattle.path_model.proofs.Single.{none_rank, guard_rank, view_rank}
use Rattle.path_model.proofs.Conversions.{is_pointer}
use Rattle.path_heap.specs.Points.{Points, PointsWhole}
use Rattle.path_heap.proofs.Asking.{whole_class}
use Rattle.path_refusals.proofs.Refused.{clear_rank}
use Rattle.path_refusals.proofs.Reading.{read_early}

-- destructors

pub virtual_is : (h : Classes) → IsHierarchy h → (f : FunctionId) (b : Bool) → (IsTrue b ↔ IsVirtual h f) → b ≡ is_virtual h f
virtual_is h keeps f true both = sym (virtual_test h keeps f (both.0 refl))
virtual_is h keeps f false both = sym (is_false (is_virtual h f) (λ e. let g : false ≡ true = both.1 (test_virtual h f e) in absurd (cc)))

-- the destructor stands behind the functions
pub last_index : (h : Classes) (c : ClassId) (x : Class) (n : ℕ) → class_at h c ≡ Some x → n ≡ length x.functions → destructor_of h c ≡ record { class = c; index = n }
last_index h c x n is e = ap (λ k. record { class = c; index = k }) (ap (λ o. length (functions_in o)) is ∙ sym e)

-- complete objects

same_whole : (h : Classes) (s : Objects) → IsHierarchy h → (p : ObjectPart) (n k : ℕ) (q : Points h s.classes n p) (w : PointsWhole h s.classes k p) → same_subobject p.at (whole_of w.node.class) ≡ nat_eq k n
same_whole h s keeps p n k q w = split (nat_eq k n) (λ b. nat_eq k n ≡ b → same_subobject p.at (whole_of w.node.class) ≡ b)
    (λ _ e.
    let nodes : q.node ≡ w.node = heap_part h (sizes_of h) (sizes_are h keeps) s.classes q.node w.node q.at w.at (q.is_number ∙ (sym (eqb-true k n e) ∙ sym w.is_number)) in
    let at : p.at ≡ whole_of w.node.class = ap (λ (x : ObjectPart). x.at) (sym q.is_part) ∙ (ap (λ (x : Node). x.part.at) nodes ∙ (at_good h (sizes_of h) s.classes w.node w.at).whole w.full) in
    ap (λ (x : Subobject). same_subobject x (whole_of w.node.class)) at ∙ same_itself (whole_of w.node.class))
    (λ _ e. is_false (same_subobject p.at (whole_of w.node.class)) (λ f.
    let at = subobject_same p.at (whole_of w.node.class) f in
    let there = (at_good h (sizes_of h) s.classes w.node w.at).whole w.full in
    let parts : q.node.part ≡ w.node.part = q.is_part ∙ (ap (λ (x : Subobject). part p.object p.owner x) (at ∙ sym there) ∙ (ap (λ k. part k p.owner w.node.part.at) (sym w.object) ∙ ap (λ o. part w.node.part.object o w.node.part.at) (sym w.owner))) in
    let nodes = heap_number h (sizes_of h) keeps s.classes q.node w.node q.at w.at parts in
    let same : k ≡ n = sym w.is_number ∙ (ap (λ (x : Node). x.number) (sym nodes) ∙ q.is_number) in
    let g : true ≡ false = sym (eq-eqb k n same) ∙ e in absurd (cc))) refl

pub no_whole : (h : Classes) (s : Objects) → IsHierarchy h → (p : ObjectPart) (n k : ℕ) → Points h s.classes n p → PointsWhole h s.classes k p → is_no_whole h s p ≡ not (nat_eq k n)
no_whole h s keeps p n k q w =
    let owner : class_of_owner h s p ≡ Some w.node.class = ap (λ k. owner_class h s.classes k p.owner) (sym w.object) ∙ (ap (λ o. owner_class h s.classes w.node.part.object o) (sym w.owner) ∙ whole_class h s.classes w.node w.at w.full) in
    ap (λ o. not (option_map_or (λ d. same_subobject p.at (whole_of d)) o false)) owner ∙ ap not (same_whole h s keeps p n k q w)

-- heap objects

pub incomplete_is : (s : Objects) (p : ObjectPart) (c : ClassId) (b : Bool) → slice_get s.classes p.object ≡ Some c → is_complete (s.phases.phase (whole_part p.object c)) ≡ b → is_incomplete s p ≡ not b
incomplete_is s p c b e f = ap (λ o. not (is_whole_complete s p.object o)) e ∙ ap not f

-- the class of the heap object of a part
pub made_of : (h : Classes) (s : Objects) (n : ℕ) (p : ObjectPart) (q : Points h s.classes n p) → slice_get s.classes p.object ≡ Some q.at.class
made_of h s n p q = subst (λ j. slice_get s.classes j ≡ Some q.at.class) (sym (at_object h (sizes_of h) s.classes q.node q.at) ∙ ap (λ (x : ObjectPart). x.object) q.is_part) q.at.listed

-- rules

pub no_owner : (h : Classes) (s : Objects) (p : ObjectPart) → is_in_heap_object p.owner ≡ false → Some NotHeapObject ≡ refused h s (Deletes (Pointer p) true ∷ [])
unfolding refused
no_owner h s p e = rw e refl

pub incomplete_owner : (h : Classes) (s : Objects) (p : ObjectPart) (b : Bool) → is_in_heap_object p.owner ≡ true → is_incomplete s p ≡ b → (if b then Some NotComplete else None) ≡ refused h s (Deletes (Pointer p) true ∷ [])
unfolding refused
incomplete_owner h s p true e f = rw (e, f) refl
incomplete_owner h s p false e f = rw (e, f) refl

pub base_deleted : (h : Classes) (s : Objects) (p : ObjectPart) → is_no_whole h s p ≡ true → Some NonVirtualDelete ≡ refused h s (Deletes (Pointer p) false ∷ [])
unfolding refused
base_deleted h s p e = rw e refl

pub whole_deleted : (h : Classes) (s : Objects) (p : ObjectPart) → is_no_whole h s p ≡ false → refused h s (Deletes (Pointer p) true ∷ []) ≡ refused h s (Deletes (Pointer p) false ∷ [])
unfolding refused
whole_deleted h s p e = rw e refl

pub off_delete : (h : Classes) (s : Objects) (x : Value) (b : Bool) → is_pointer x ≡ false → None ≡ refused h s (Deletes x b ∷ [])
unfolding refused
off_delete h s Unset true e = refl
off_delete h s Unset false e = refl
off_delete h s (Number z) true e = refl
off_delete h s (Number z) false e = refl
off_delete h s Null true e = refl
off_delete h s Null false e = refl
off_delete h s (Pointer p) b e = absurd (cc)

delete_off : (h : Classes) (s : Objects) (x : Value) (b : Bool) → is_pointer x ≡ false → rank h s (Deletes x b ∷ []) ≡ 12
delete_off h s x b e = clear_rank h s (Deletes x b ∷ []) (off_delete h s x b e)

delete_at : (h : Classes) (s : Objects) (p : ObjectPart) (b x y z : Bool) → is_no_whole h s p ≡ x → is_in_heap_object p.owner ≡ y → is_incomplete s p ≡ z
    → rank h s (Deletes (Pointer p) b ∷ []) ≡ (if b then (if y then (if z then 9 else 12) else 8) else (if x then 7 else (if y then (if z then 9 else 12) else 8)))
unfolding rank first_place
delete_at h s p true x true true e f g = rw (f, g) refl
delete_at h s p true x true false e f g = rw (f, g) refl
delete_at h s p true x false z e f g = rw f refl
delete_at h s p false true y z e f g = rw e refl
delete_at h s p false false true true e f g = rw (e, f, g) refl
delete_at h s p false false true false e f g = rw (e, f, g) refl
delete_at h s p false false false z e f g = rw (e, f) refl

late_of : (b x y z : Bool) → 7 ≤ (if b then (if y then (if z then 9 else 12) else 8) else (if x then 7 else (if y then (if z then 9 else 12) else 8)))
late_of true x true true = omega arith
late_of true x true false = omega arith
late_of true x false z = omega arith
late_of false true y z = omega arith
late_of false false true true = omega arith
late_of false false true false = omega arith
late_of false false false z = omega arith

delete_late : (h : Classes) (s : Objects) (x : Value) (b : Bool) → 7 ≤ rank h s (Deletes x b ∷ [])
delete_late h s Unset b = let r = delete_off h s Unset b refl in omega (arith, r)
delete_late h s (Number z) b = let r = delete_off h s (Number z) b refl in omega (arith, r)
delete_late h s Null b = let r = delete_off h s Null b refl in omega (arith, r)
delete_late h s (Pointer p) b =
    let r = delete_at h s p b (is_no_whole h s p) (is_in_heap_object p.owner) (is_incomplete s p) refl refl refl in
    let l = late_of b (is_no_whole h s p) (is_in_heap_object p.owner) (is_incomplete s p) in subst (λ n. 7 ≤ n) (sym r) l

view_early : (h : Classes) (s : Objects) (x : Value) (b : Bool) → rank h s (uses_of_view b x) < 12 → rank h s (uses_of_view b x) ≤ 4
view_early h s x true less = split (names (is_outside h s) x) (λ t. rank h s (uses_of_view true x) ≤ 4) (λ e. let r = view_rank h s x true e in omega (arith, r)) (λ e. let r = view_rank h s x false e in omega (arith, r, less))
view_early h s x false less = let n = none_rank h s in omega (arith, n, less)

-- a guarded use that may need the view breaks no rule behind U4
guard_early : (h : Classes) (s : Objects) (x : Value) (b : Bool) → rank h s (Guards x ∷ uses_of_view b x) < 12 → rank h s (Guards x ∷ uses_of_view b x) ≤ 4
guard_early h s x b less =
    let r = rank_append h s (Guards x ∷ []) (uses_of_view b x) in
    split (names (is_unready s) x) (λ t. rank h s (Guards x ∷ uses_of_view b x) ≤ 4)
    (λ e. let g = guard_rank h s x true e in omega (arith, r, g))
    (λ e. let g = guard_rank h s x false e in let v : rank h s (uses_of_view b x) ≤ 4 = view_early h s x b (omega (arith, r, g, less)) in omega (arith, r, v))

pub delete_then : (h : Classes) (s : Objects) (x : Value) (b : Bool) → rank h s (Reads x ∷ (Guards x ∷ uses_of_view b x)) < 12 → rank h s (Reads x ∷ (Guards x ∷ uses_of_view b x)) ≤ rank h s (Deletes x b ∷ [])
delete_then h s x b less =
    let r = rank_append h s (Reads x ∷ []) (Guards x ∷ uses_of_view b x) in
    let d = delete_late h s x b in
    split (ltb (rank h s (Reads x ∷ [])) 12) (λ t. ltb (rank h s (Reads x ∷ [])) 12 ≡ t → rank h s (Reads x ∷ (Guards x ∷ uses_of_view b x)) ≤ rank h s (Deletes x b ∷ []))
    (λ _ e. let l = read_early h s x (ltb-true (rank h s (Reads x ∷ [])) 12 e) in omega (arith, r, d, l))
    (λ _ e. let f = ltb-false (rank h s (Reads x ∷ [])) 12 e in let l : rank h s (Guards x ∷ uses_of_view b x) ≤ 4 = guard_early h s x b (omega (arith, r, f, less)) in omega (arith, r, d, l)) refl

-- behind what is clear a value is no pointer to a part that is not ready
pub guard_clear : (h : Classes) (s : Objects) (x : Value) (us : List StatementUse) → None ≡ refused h s (Reads x ∷ (Guards x ∷ us)) → names (is_unready s) x ≡ false
guard_clear h s x us e = is_false (names (is_unready s) x) (λ f.
    let c = clear_rank h s (Reads x ∷ (Guards x ∷ us)) e in
    let r = rank_append h s (Reads x ∷ []) (Guards x ∷ us) in
    let t = rank_append h s (Guards x ∷ []) us in
    let g = guard_rank h s x true f in omega (arith, c, r, t, g))

pub dump_closed : (h : Classes) (s : Objects) (p : ObjectPart) → s.is_closed p.object ≡ true → Some Dangling ≡ refused h s (Reads (Pointer p) ∷ Follows (Pointer p) ∷ Dumps (Pointer p) ∷ [])
unfolding refused
dump_closed h s p e = rw e refl

pub dump_open : (h : Classes) (s : Objects) (p : ObjectPart) (b : Bool) → s.is_closed p.object ≡ false → is_incomplete s p ≡ b → (if b then Some NotComplete else None) ≡ refused h s (Reads (Pointer p) ∷ Follows (Pointer p) ∷ Dumps (Pointer p) ∷ [])
unfolding refused
dump_open h s p true e f = rw (e, f) refl
dump_open h s p false e f = rw (e, f) refl
