-- Class members on a path, from a part that is ready.
use Rattle.std.proofs.Common.{arith, ◌<◌, ◌≤◌, ◌≡◌, true, false, Option, Some, None, List, [], ◌∷◌, ◌++◌, refl, ap, sym, subst, ◌∙◌}
use Rattle.std.specs.Prelude.{ℕ, if◌then◌else◌, ◌-◌, length, get_or}
use Rattle.std.proofs.Common.{take, drop}
use Rattle.std.proofs.lemmas.List.{take_all}
use Rattle.foundation.proofs.Truth.{split}
use Rattle.cxx_hierarchy.specs.declared.records.ClassId.{ClassId}
use Rattle.cxx_hierarchy.specs.Classes.{Classes}
use Rattle.cxx_hierarchy.specs.Hierarchies.{IsHierarchy}
use Rattle.cxx_subobject.specs.declared.Subobject.{Subobject}
use Rattle.cxx_subobject.specs.Subobjects.{IsSubobject, class_of, whole_of, subobject, same_subobject}
use Rattle.cxx_subobject.specs.Locations.{ObjectPart}
use Rattle.cxx_subobject.proofs.TreeLemmas.{subobject_same, same_itself}
use Rattle.cxx_program.specs.declared.statement.PassedMember.{PassedMember}
use Rattle.cxx_program.specs.declared.statement.TypedPlace.{TypedPlace}
use Rattle.path_rules.specs.declared.Undefined.{Undefined}
use Rattle.path_rules.specs.declared.Undefined.TheVariants.{NotReady}
use Rattle.path_plan.specs.Places.{part}
use Rattle.path_plan.specs.Views.{Settled}
use Rattle.path_model.specs.Values.{Value, Unset, Number, Null, Pointer, Objects, inner_part}
use Rattle.path_model.specs.Places.{passed_part}
use Rattle.path_model.specs.Uses.{StatementUse, Passes, uses_of_view, is_shared, of_part, arrow}
use Rattle.path_model.specs.Rules.{refused, is_unready}
use Rattle.path_model.specs.Typed.{IsPassed, IsPath}
use Rattle.path_model.specs.Order.{asked_members, first_name_base}
use Rattle.path_model.proofs.Ranks.{rank, rank_append}
use Rattle.path_model.proofs.Single.{none_rank, pass_rank, view_late, views_none}
use Rattle.path_model.proofs.Conversions.{is_pointer, off_outside}
use Rattle.path_model.proofs.Facts.{base_done, not_unready, ready_of}
use Rattle.path_model.proofs.Places.{asked_late, place_rank}
use Rattle.path_model.proofs.Rights.{asked_two}
use Rattle.path_model.proofs.Covers.{join_whole}
use Rattle.path_heap.specs.declared.state.Value.{Value as ValueCode}
use Rattle.path_heap.specs.declared.heap.Heap.{Heap}
use Rattle.path_heap.specs.Points.{Points}
use Rattle.path_heap.specs.Stands.{HasBegun}
use Rattle.path_values.specs.Open.{OpensTo}
use Rattle.path_refusals.specs.invariants.Pieces.{IsReadyPart, MeansValueOf, way_uses, path_asked}
use Rattle.path_refusals.proofs.Refused.{refused_alike, stops, goes_on}
use Rattle.path_refusals.proofs.Reading.{nothing, full_none, pass_is, begun_of, arrow_then}

-- a subobject of what is ready is ready: the part itself, or a proper base
pub inner_ready : (h : Classes) (s : Objects) (p : ObjectPart) (c : ClassId) (i : Subobject) → class_of p.at ≡ Some c → Settled h p.object s.phases → is_unready s p ≡ false → IsSubobject h c i → is_unready s (inner_part p i) ≡ false
inner_ready h s p c i class settled ready valid = split (same_subobject i (whole_of c)) (λ b. same_subobject i (whole_of c) ≡ b → is_unready s (inner_part p i) ≡ false)
    (λ e _. ap (is_unready s) (ap (inner_part p) (subobject_same i (whole_of c) e) ∙ join_whole p c) ∙ ready)
    (λ e _. not_unready s (inner_part p i) (base_done h s p c i class settled valid (λ same. let f : true ≡ false = sym (same_itself (whole_of c)) ∙ (ap (λ (x : Subobject). same_subobject x (whole_of c)) (sym same) ∙ e) in absurd (cc)) (ready_of s p ready))) refl

-- it has begun, with its class
pub inner_begun : (h : Classes) (s : Objects) (p : ObjectPart) (c : ClassId) (i : Subobject) → class_of p.at ≡ Some c → Settled h p.object s.phases → is_unready s p ≡ false → IsSubobject h c i → HasBegun s (inner_part p i)
inner_begun h s p c i class settled ready valid = begun_of s (inner_part p i) (inner_ready h s p c i class settled ready valid)

-- what a slice pattern calls the rest of a list
abbrev pub rest_of : {X : Type 0} → List X → List X
rest_of xs = take (length xs - 1) (drop 1 xs)

pub first_rest : {X : Type 0} (xs : List X) (x : X) → 1 ≤ length xs → x ≡ get_or xs 0 x → xs ≡ x ∷ rest_of xs
first_rest [] x l e = absurd (omega arith)
first_rest (y ∷ xs) x l e = let n : length (y ∷ xs) - 1 ≡ length xs = omega arith in
    ap (λ z. z ∷ xs) (sym e) ∙ ap (λ zs. x ∷ zs) (sym (ap (λ k. take k xs) n ∙ take_all (length xs) xs (omega arith)))

pub no_items : {X : Type 0} (xs : List X) → length xs < 1 → xs ≡ []
no_items [] l = refl
no_items (x ∷ xs) l = absurd (omega arith)

pub none_asked : (h : Classes) (s : Objects) (p : ObjectPart) (path : List PassedMember) → path ≡ [] → None ≡ refused h s (asked_members p path)
none_asked h s p path e = nothing h s ∙ ap (λ xs. refused h s (asked_members p xs)) (sym e)

pub shared_stops : (h : Classes) (s : Objects) (p : ObjectPart) (x : PassedMember) (rest path : List PassedMember) → path ≡ x ∷ rest → is_shared x.base ≡ true → None ≡ refused h s (asked_members p path)
shared_stops h s p x rest path is e = nothing h s ∙ (ap (λ b. refused h s (if b then [] else Passes (passed_part p x) ∷ asked_members (passed_part p x) rest)) (sym e) ∙ ap (λ xs. refused h s (asked_members p xs)) (sym is))

opened : (h : Classes) (s : Objects) (p : ObjectPart) (x : PassedMember) (rest path : List PassedMember) → path ≡ x ∷ rest → is_shared x.base ≡ false → refused h s (asked_members p path) ≡ refused h s (Passes (passed_part p x) ∷ asked_members (passed_part p x) rest)
opened h s p x rest path is e = ap (λ xs. refused h s (asked_members p xs)) is ∙ ap (λ b. refused h s (if b then [] else Passes (passed_part p x) ∷ asked_members (passed_part p x) rest)) e

pass_stops : (h : Classes) (s : Objects) (p : ObjectPart) (us : List StatementUse) → 2 ≤ rank h s us → is_unready s p ≡ true → Some NotReady ≡ refused h s (Passes p ∷ us)
pass_stops h s p us late e = stops h s (Passes p ∷ []) us NotReady (λ _. let r = pass_rank h s p true e in omega (arith, r, late)) (sym (pass_is h s p true e))

pub unready_stops : (h : Classes) (s : Objects) (p : ObjectPart) (x : PassedMember) (rest path : List PassedMember) → path ≡ x ∷ rest → is_shared x.base ≡ false → is_unready s (passed_part p x) ≡ true → Some NotReady ≡ refused h s (asked_members p path)
unready_stops h s p x rest path is e f = pass_stops h s (passed_part p x) (asked_members (passed_part p x) rest) (asked_late h s (passed_part p x) rest) f ∙ sym (opened h s p x rest path is e)

pub ready_on : (h : Classes) (s : Objects) (p : ObjectPart) (x : PassedMember) (rest path : List PassedMember) (rule : Option Undefined) → path ≡ x ∷ rest → is_shared x.base ≡ false → is_unready s (passed_part p x) ≡ false
    → rule ≡ refused h s (asked_members (passed_part p x) rest) → rule ≡ refused h s (asked_members p path)
ready_on h s p x rest path rule is e f told = goes_on h s (Passes (passed_part p x) ∷ []) (asked_members (passed_part p x) rest) rule (sym (pass_is h s (passed_part p x) false f)) told ∙ sym (opened h s p x rest path is e)

-- the path of a list that has a first member
pub first_passed : (h : Classes) (c : ClassId) (x : PassedMember) (rest path : List PassedMember) (last : Subobject) → path ≡ x ∷ rest → IsPath h c path last → IsPassed h c x × IsPath h x.class rest last
first_passed h c x rest path last is a = subst (λ (xs : List PassedMember). IsPath h c xs last) is a

pub opens_to : (h : Classes) (heap : Heap) (s : Objects) (n : ℕ) (p : ObjectPart) (c : ClassId) (x : PassedMember) → IsReadyPart h heap s n p c → IsPassed h c x → OpensTo h s p c x.base
opens_to h heap s n p c x a b = record { begun = begun_of s p a.ready; of_class = a.of_class; valid = b.valid; inner_begun = inner_begun h s p c x.base a.of_class a.settled a.ready b.valid }

pub next_ready : (h : Classes) (heap : Heap) (s : Objects) (n m : ℕ) (p : ObjectPart) (c : ClassId) (x : PassedMember) → IsReadyPart h heap s n p c → Points h s.classes m (passed_part p x) → is_unready s (passed_part p x) ≡ false → IsReadyPart h heap s m (passed_part p x) x.class
next_ready h heap s n m p c x a q e = record { heap_stands = a.heap_stands; points = q; ready = e; settled = a.settled; of_class = refl }

-- which of the two comes first does not matter
pub swapped : (h : Classes) (s : Objects) (a b : List StatementUse) → refused h s (a ++ b) ≡ refused h s (b ++ a)
swapped h s a b = refused_alike h s (a ++ b) (b ++ a) (let r = rank_append h s a b in let t = rank_append h s b a in omega (arith, r, t))

-- behind the arrow

pub members_first : (h : Classes) (s : Objects) (p : ObjectPart) (place : TypedPlace) (r : Undefined) → Some r ≡ refused h s (asked_members p place.passed) → Some r ≡ refused h s (path_asked place (Pointer p))
members_first h s p place r e =
    let b = is_shared (first_name_base place.passed place.base) in
    stops h s (asked_members p place.passed) (uses_of_view b (Pointer p)) r (λ less. let l = asked_two h s p place.passed less in let v = view_late h s b (Pointer p) in omega (arith, l, v)) e
    ∙ swapped h s (asked_members p place.passed) (uses_of_view b (Pointer p))

pub members_then : (h : Classes) (s : Objects) (p : ObjectPart) (place : TypedPlace) (rule : Option Undefined) → None ≡ refused h s (asked_members p place.passed) → rule ≡ refused h s (uses_of_view (is_shared (first_name_base place.passed place.base)) (Pointer p)) → rule ≡ refused h s (path_asked place (Pointer p))
members_then h s p place rule e f =
    let b = is_shared (first_name_base place.passed place.base) in
    goes_on h s (asked_members p place.passed) (uses_of_view b (Pointer p)) rule e f ∙ swapped h s (asked_members p place.passed) (uses_of_view b (Pointer p))

pub off_part : (h : Classes) (s : Objects) (f : ObjectPart → List StatementUse) (x : Value) → is_pointer x ≡ false → rank h s (of_part f x) ≡ 12
off_part h s f Unset e = none_rank h s
off_part h s f (Number z) e = none_rank h s
off_part h s f Null e = none_rank h s
off_part h s f (Pointer p) e = absurd (cc)

pub part_late : (h : Classes) (s : Objects) (f : ObjectPart → List StatementUse) → ((p : ObjectPart) → 2 ≤ rank h s (f p)) → (x : Value) → 2 ≤ rank h s (of_part f x)
part_late h s f each Unset = let n = none_rank h s in omega (arith, n)
part_late h s f each (Number z) = let n = none_rank h s in omega (arith, n)
part_late h s f each Null = let n = none_rank h s in omega (arith, n)
part_late h s f each (Pointer p) = each p

path_off : (h : Classes) (s : Objects) (x : Value) (place : TypedPlace) → is_pointer x ≡ false → rank h s (path_asked place x) ≡ 12
path_off h s x place e =
    let b = is_shared (first_name_base place.passed place.base) in
    let r = rank_append h s (uses_of_view b x) (of_part (λ p. asked_members p place.passed) x) in
    let v = views_none h s b x (off_outside h s x e) in
    let n : rank h s (of_part (λ p. asked_members p place.passed) x) ≡ 12 = off_part h s (λ p. asked_members p place.passed) x e in
    omega (arith, r, v, n)

path_late : (h : Classes) (s : Objects) (x : Value) (place : TypedPlace) → 2 ≤ rank h s (path_asked place x)
path_late h s x place =
    let b = is_shared (first_name_base place.passed place.base) in
    let r = rank_append h s (uses_of_view b x) (of_part (λ p. asked_members p place.passed) x) in
    let v = view_late h s b x in
    let n : 2 ≤ rank h s (of_part (λ p. asked_members p place.passed) x) = part_late h s (λ p. asked_members p place.passed) (λ p. asked_late h s p place.passed) x in
    omega (arith, r, v, n)

pub off_path : (h : Classes) (s : Objects) (x : Value) (place : TypedPlace) → is_pointer x ≡ false → None ≡ refused h s (path_asked place x)
off_path h s x place e = full_none h s (path_asked place x) (path_off h s x place e)

pub way_is : (h : Classes) → IsHierarchy h → (heap : Heap) (s : Objects) (v : ValueCode) (x : Value) (place : TypedPlace) → MeansValueOf h heap s v x place.class → IsPath h place.class place.passed place.base → refused h s (arrow x ++ path_asked place x) ≡ refused h s (way_uses place x)
way_is h keeps heap s v x place a path = sym (refused_alike h s (way_uses place x) (arrow x ++ path_asked place x) (place_rank h keeps s a.settled x place.class place a.of_class path))

pub arrow_path : (h : Classes) (s : Objects) (x : Value) (place : TypedPlace) → rank h s (arrow x) < 12 → rank h s (arrow x) ≤ rank h s (path_asked place x)
arrow_path h s x place less = arrow_then h s x (path_asked place x) (path_off h s x place) (path_late h s x place) less

-- the part of a pointer, behind its arrow
pub ready_part : (h : Classes) (heap : Heap) (s : Objects) (v : ValueCode) (n : ℕ) (p : ObjectPart) (c : ClassId) → MeansValueOf h heap s v (Pointer p) c → Points h s.classes n p → is_unready s p ≡ false → IsReadyPart h heap s n p c
ready_part h heap s v n p c a q e = record { heap_stands = a.heap_stands; points = q; ready = e; settled = a.settled p.object a.of_class.1.0 a.of_class.1.1; of_class = a.of_class.0 }
