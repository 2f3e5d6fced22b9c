-- An answer for the subobjects of two numbers is one for every two that have them.
use Rattle.std.proofs.Common.{◌≡◌, ℕ, ◌<◌, ◌≤◌, ⊎_elim, Bool, true, false, List, [], ◌∷◌, ◌++◌, length, get_or, refl, ap, subst, sym, ◌∙◌, arith, append-nil}
use Rattle.std.specs.Prelude.{Option, Some, None, Contains, find, slice_get}
use Rattle.std.proofs.lemmas.List.{get_or-map}
use Rattle.std.proofs.lemmas.Option.{slice_get-get_or, slice_get_past, slice_get_within}
use Rattle.std.proofs.lemmas.Bool.{cases_lt}
use Rattle.foundation.proofs.Truth.{not_both}
use Rattle.cxx_hierarchy.specs.declared.records.ClassId.{ClassId}
use Rattle.cxx_hierarchy.specs.declared.records.Base.{Base}
use Rattle.cxx_hierarchy.specs.Classes.{Class, Classes, bases_in, class_by_number}
use Rattle.cxx_hierarchy.specs.VirtualBases.{IsDirectBase, HasVirtualBase, direct, further}
use Rattle.cxx_hierarchy.specs.Hierarchies.{IsHierarchy}
use Rattle.cxx_subobject.specs.declared.Subobject.{Subobject}
use Rattle.cxx_subobject.specs.Subobjects.{IsSubobject, whole, shared, subobject, class_of, whole_of, is_of_class}
use Rattle.cxx_subobject.specs.Inside.{IsInside}
use Rattle.cxx_subobject.specs.Preorder.{preorder}
use Rattle.cxx_subobject.proofs.InsideLemmas.{inside_itself, whole_joined}
use Rattle.cxx_overrider.specs.declared.FunctionId.{FunctionId}
use Rattle.cxx_overrider.specs.Functions.{signature_in, signature_of}
use Rattle.cxx_overrider.specs.Overriding.{IsVirtual}
use Rattle.cxx_search.specs.Searches.{is_within, final_in, cast_in}
use Rattle.cxx_search.proofs.Within.{inside_within}
use Rattle.cxx_search.proofs.Casts.{is_cast, is_the_class}
use Rattle.path_numbers.specs.Numbers.{subobject_number}
use Rattle.path_tables.specs.declared.finals.FinalAt.{FinalAt}
use Rattle.path_tables.specs.declared.kept.CastKey.{CastKey}
use Rattle.path_tables.specs.declared.kept.FinalKey.{FinalKey}
use Rattle.path_tables.specs.declared.parts.PartList.{PartList}
use Rattle.path_tables.specs.Parts.{IsNumbered, IsPartList, IsFirstTaken, number_where_found, numbered_overrider}
use Rattle.path_tables.specs.Kept.{keyed_function, IsCastAnswer, IsFinalAnswer}
use Rattle.path_tables.specs.invariants.Targets.{IsCastTo}
use Rattle.path_tables.proofs.Numbered.{one_numbered}

pub final_for_all : (h : Classes) → IsHierarchy h → (key : FinalKey) (x y : Subobject) → IsNumbered h (class_by_number key.class) key.view x → IsNumbered h (class_by_number key.class) key.source y → (answer : Option FinalAt) → answer ≡ numbered_overrider h (class_by_number key.class) (final_in h x y (keyed_function key)) → IsFinalAnswer h key answer
final_for_all h keeps key x y nx ny answer e = λ s t ns nt of_class is_virtual.
    let a = one_numbered h keeps (class_by_number key.class) key.view x s nx ns in
    let b = one_numbered h keeps (class_by_number key.class) key.source y t ny nt in
    e ∙ (ap (λ (z : Subobject). numbered_overrider h (class_by_number key.class) (final_in h z y (keyed_function key))) a ∙ ap (λ (z : Subobject). numbered_overrider h (class_by_number key.class) (final_in h s z (keyed_function key))) b)

-- a class that is not there has no bases
no_edge : (h : Classes) (c b : ClassId) (way : Bool) → length h ≤ c.0 → IsDirectBase h c way b → ⊥
no_edge h c b way past edge = let k : Contains [] edge.base = subst (λ (bases : List (Base ClassId)). Contains bases edge.base) (ap bases_in (slice_get_past h c.0 past)) edge.listed in let lt = k.1 in absurd (omega (arith, lt))

no_virtual : (h : Classes) (c v : ClassId) → length h ≤ c.0 → HasVirtualBase h c v → ⊥
no_virtual h _ _ past (direct c v edge) = no_edge h c v true past edge
no_virtual h _ _ past (further c b v way edge more) = no_edge h c b way past edge

whole_class : (h : Classes) (c : ClassId) (s : Subobject) → length h ≤ c.0 → IsSubobject h c s → class_of s ≡ Some c
whole_class h c _ past (whole [] leads) = refl
whole_class h c _ past (whole (b ∷ path) leads) = absurd (no_edge h c b false past leads.0)
whole_class h c _ past (shared v path has leads) = absurd (no_virtual h c v past has)

function_known : (h : Classes) (f : FunctionId) → IsVirtual h f → f.class.0 < length h
function_known h f is_virtual = ⊎_elim (λ lt. lt)
    (λ past. let none : signature_of h f ≡ None = ap (λ (o : Option Class). signature_in o f.index) (slice_get_past h f.class.0 past) in let some : signature_of h f ≡ Some is_virtual.signature = is_virtual.is in absurd (cc))
    (cases_lt f.class.0 (length h))

-- an object of which some subobject declares a virtual function is of a class that is there
pub class_there : (h : Classes) (c : ClassId) (y : Subobject) (f : FunctionId) → IsSubobject h c y → class_of y ≡ Some f.class → IsVirtual h f → c.0 < length h
class_there h c y f valid class is_virtual = ⊎_elim (λ lt. lt)
    (λ past. let same : Some f.class ≡ Some c = sym class ∙ whole_class h c y past valid in let one : f.class ≡ c = cc in let lt = function_known h f is_virtual in let e = ap (λ (d : ClassId). d.0) one in absurd (omega arith))
    (cases_lt c.0 (length h))

-- nothing is asked of a source of another class
pub final_other : (h : Classes) → IsHierarchy h → (key : FinalKey) (y : Subobject) → IsNumbered h (class_by_number key.class) key.source y → false ≡ is_of_class (class_by_number key.owner) y → IsFinalAnswer h key None
final_other h keeps key y ny told = λ s t ns nt of_class is_virtual.
    let same = one_numbered h keeps (class_by_number key.class) key.source t y nt ny in
    absurd (not_both (is_the_class (class_by_number key.owner) (class_of y) (ap class_of (sym same) ∙ of_class)) (sym told))

pub within_for_all : (h : Classes) → IsHierarchy h → (c : ClassId) (m n : ℕ) (x y : Subobject) → IsNumbered h c m x → IsNumbered h c n y → (answer : Bool) → answer ≡ is_within h x y → (s t : Subobject) → IsNumbered h c m s → IsNumbered h c n t → answer ≡ is_within h s t
within_for_all h keeps c m n x y nx ny answer e s t ns nt =
    e ∙ (ap (λ (z : Subobject). is_within h z y) (one_numbered h keeps c m x s nx ns) ∙ ap (λ (z : Subobject). is_within h s z) (one_numbered h keeps c n y t ny nt))

-- a subobject lies in itself, and each in the whole
pub within_itself : (h : Classes) → IsHierarchy h → (c : ClassId) (m n : ℕ) → m ≡ n → (s t : Subobject) → IsNumbered h c m s → IsNumbered h c n t → true ≡ is_within h s t
within_itself h keeps c m n e s t ns nt =
    let same = one_numbered h keeps c n s t (subst (λ k. IsNumbered h c k s) e ns) nt in sym (inside_within h keeps s t (subst (λ (z : Subobject). IsInside h s z) same (inside_itself h c s ns.valid)))

whole_number : (h : Classes) (c : ClassId) → IsNumbered h c 0 (whole_of c)
whole_number h c = record { valid = whole [] tt; number = refl }

pub within_whole : (h : Classes) → IsHierarchy h → (c : ClassId) (m n : ℕ) → m ≡ 0 → (s t : Subobject) → IsNumbered h c m s → IsNumbered h c n t → true ≡ is_within h s t
within_whole h keeps c m n e s t ns nt =
    let same = one_numbered h keeps c 0 (whole_of c) s (whole_number h c) (subst (λ k. IsNumbered h c k s) e ns) in
    sym (inside_within h keeps s t (subst (λ (z : Subobject). IsInside h z t) same (record { class = c; of_class = refl; part = t; valid = nt.valid; joined = (sym (whole_joined h c t nt.valid)) })))

cast_for_all : (h : Classes) → IsHierarchy h → (key : CastKey) (x y : Subobject) → IsNumbered h (class_by_number key.class) key.view x → IsNumbered h (class_by_number key.class) key.source y → (answer : Option ℕ) → answer ≡ number_where_found h (class_by_number key.class) (cast_in h (class_by_number key.target) x y) → IsCastAnswer h key answer
cast_for_all h keeps key x y nx ny answer e = λ s t ns nt.
    let a = one_numbered h keeps (class_by_number key.class) key.view x s nx ns in
    let b = one_numbered h keeps (class_by_number key.class) key.source y t ny nt in
    e ∙ (ap (λ (z : Subobject). number_where_found h (class_by_number key.class) (cast_in h (class_by_number key.target) z y)) a ∙ ap (λ (z : Subobject). number_where_found h (class_by_number key.class) (cast_in h (class_by_number key.target) s z)) b)

pub cast_none : (h : Classes) → IsHierarchy h → (key : CastKey) (x y : Subobject) (parts : List Subobject) → IsNumbered h (class_by_number key.class) key.view x → IsNumbered h (class_by_number key.class) key.source y → IsCastTo h (class_by_number key.target) x y parts None → IsCastAnswer h key None
cast_none h keeps key x y parts nx ny k = cast_for_all h keeps key x y nx ny None (ap (number_where_found h (class_by_number key.class)) (sym (is_cast h keeps (class_by_number key.class) x nx.valid (class_by_number key.target) y None k)))

pub cast_some : (h : Classes) → IsHierarchy h → (key : CastKey) (x y : Subobject) (parts : List Subobject) (list : PartList) (place n : ℕ) → IsNumbered h (class_by_number key.class) key.view x → IsNumbered h (class_by_number key.class) key.source y
    → IsPartList h (class_by_number key.class) list → parts ≡ list.parts → IsCastTo h (class_by_number key.target) x y parts (Some place) → n ≡ get_or list.numbers.items place 0 → IsCastAnswer h key (Some n)
cast_some h keeps key x y parts list place n nx ny is e (t, at, k) number =
    let c = class_by_number key.class in
    let there : slice_get (preorder h c) place ≡ Some t = ap (λ (l : List Subobject). slice_get l place) (sym (e ∙ is.parts)) ∙ at in
    let lt = slice_get_within (preorder h c) place t there in
    let same : Some (get_or (preorder h c) place t) ≡ Some t = sym (slice_get-get_or (preorder h c) place t lt) ∙ there in
    let one : get_or (preorder h c) place t ≡ t = cc in
    let value : n ≡ subobject_number h c t = number ∙ (ap (λ (l : List ℕ). get_or l place 0) is.numbers ∙ (get_or-map (subobject_number h c) (preorder h c) place t 0 lt ∙ ap (subobject_number h c) one)) in
    cast_for_all h keeps key x y nx ny (Some n) (ap (λ (z : ℕ). Some z) value ∙ ap (number_where_found h c) (sym (is_cast h keeps c x nx.valid (class_by_number key.target) y (Some t) k)))

-- a copy of the first
pub copied_first : (h : Classes) (c : ClassId) (test : Subobject → Bool) (list : PartList) (parts : List Subobject) (place : ℕ) (found copy : Subobject) → IsPartList h c list → parts ≡ list.parts → IsFirstTaken test parts (Some place) → found ≡ get_or parts place found
    → copy ≡ subobject found.root (found.path ++ []) → Some copy ≡ find test (preorder h c)
copied_first h c test list parts place found copy is e first at made =
    let same : copy ≡ found = made ∙ ap (subobject found.root) (append-nil found.path) in
    ap (λ (s : Subobject). Some s) (same ∙ at) ∙ (sym (slice_get-get_or parts place found first.0) ∙ (sym first.1 ∙ ap (find test) (e ∙ is.parts)))
