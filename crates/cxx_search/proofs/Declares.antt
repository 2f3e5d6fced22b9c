-- The functions that a class declares are those that have a signature, each once.
use Rattle.std.proofs.Common.{◌≡◌, ℕ, ◌+◌, ◌<◌, ◌≤◌, ◌⊎◌, inl, inr, ⊎_elim, Bool, true, false, Option, Some, None, length, map, refl, ap, subst, sym, ◌∙◌, arith}
use Rattle.std.specs.Prelude.{nat_eq, if◌then◌else◌, slice_get}
use Rattle.std.specs.List.{filter_map}
use Rattle.std.proofs.lemmas.Bool.{eqb-true}
use Rattle.std.proofs.lemmas.Option.{slice_get_within}
use Rattle.cxx_hierarchy.specs.declared.records.ClassId.{ClassId}
use Rattle.cxx_hierarchy.specs.declared.records.Function.{Function}
use Rattle.cxx_hierarchy.specs.declared.records.PartAt.{PartAt}
use Rattle.cxx_hierarchy.specs.declared.records.PartKind.{PartKind}
use Rattle.cxx_hierarchy.specs.declared.records.PartKind.TheVariants.{Member, Function as FunctionPart, Constructor, Destructor}
use Rattle.cxx_hierarchy.specs.declared.records.Destructor.{Destructor as DestructorKind}
use Rattle.cxx_hierarchy.specs.declared.records.Destructor.TheVariants.{Implicit, Plain, Virtual}
use Rattle.cxx_hierarchy.specs.Classes.{Class, Classes, class_at, functions_of, functions_in as all_functions}
use Rattle.cxx_hierarchy.specs.Declarations.{is_implicit}
use Rattle.cxx_hierarchy.specs.Orders.{parts_of_kind, is_function, is_destructor}
use Rattle.cxx_hierarchy.specs.Hierarchies.{HasOrder, IsHierarchy}
use Rattle.cxx_hierarchy.proofs.Orders.{numbered}
use Rattle.cxx_overrider.specs.declared.FunctionId.{FunctionId}
use Rattle.cxx_overrider.specs.Functions.{Signature, signature_at, signature_in, signature_of}
use Rattle.cxx_overrider.specs.Virtuals.{function_at, index_of, implicit_index, indices_in, function_ids_in, declared}
use Rattle.cxx_overrider.proofs.Numbering.{signature_there}
use Rattle.foundation.proofs.Members.{Has, EachOnce, has_at, has_left, has_right, has_cases, has_map, from_map, once_append, first_of}
use Rattle.foundation.proofs.Chosen.{has_filter, filter_has, has_filter_map, from_filter_map}
use Rattle.cxx_search.proofs.Once.{has_range, range_once, once_map, has_some_length, once_numbered}

-- the index under which a part of a class stands among its functions, if it does
abbrev index_in : Class → PartAt → Option ℕ
index_in class part = index_of class part.kind part.number

kind_index : (class : Class) (kind : PartKind) (number : ℕ) → is_function kind ≡ true → index_of class kind number ≡ Some number
kind_index class Member number e = cc
kind_index class FunctionPart number e = refl
kind_index class Constructor number e = cc
kind_index class Destructor number e = cc

destructor_index : (class : Class) (kind : PartKind) (number : ℕ) → is_destructor kind ≡ true → index_of class kind number ≡ Some (length class.functions)
destructor_index class Member number e = cc
destructor_index class FunctionPart number e = cc
destructor_index class Constructor number e = cc
destructor_index class Destructor number e = refl

-- what stands under an index is a function of that number, or the destructor
index_kind : (class : Class) (kind : PartKind) (number i : ℕ) → index_of class kind number ≡ Some i → ((is_function kind ≡ true) × (number ≡ i)) ⊎ ((is_destructor kind ≡ true) × (length class.functions ≡ i))
index_kind class Member number i e = cc
index_kind class FunctionPart number i e = inl (refl, let f : number ≡ i = cc in f)
index_kind class Constructor number i e = cc
index_kind class Destructor number i e = inr (refl, let f : length class.functions ≡ i = cc in f)

function_index : (class : Class) → HasOrder class → (i : ℕ) → i < length class.functions → Has (indices_in class) i
function_index class order i lt =
    let n = numbered is_function class.order (length class.functions) order.functions i lt in
    has_left (filter_map (index_in class) class.order) (implicit_index class class.destructor) i
    (has_filter_map (index_in class) class.order n.part i (has_at class.order n.place n.part n.listed) (kind_index class n.part.kind n.part.number n.passes ∙ ap (λ a. Some a) n.number))

last_index : (class : Class) → HasOrder class → Has (indices_in class) (length class.functions)
last_index class order = by_kind class.destructor refl
  where
    by_part : length (parts_of_kind is_destructor class.order) ≡ 1 → Has (indices_in class) (length class.functions)
    by_part one =
        let r = first_of (parts_of_kind is_destructor class.order) one in
        let f = has_filter (λ (part : PartAt). is_destructor part.kind) class.order r.0 r.1 in
        has_left (filter_map (index_in class) class.order) (implicit_index class class.destructor) (length class.functions)
        (has_filter_map (index_in class) class.order r.0 (length class.functions) f.0 (destructor_index class r.0.kind r.0.number f.1))

    by_kind : (d : DestructorKind) → class.destructor ≡ d → Has (indices_in class) (length class.functions)
    by_kind Implicit e = has_right (filter_map (index_in class) class.order) (implicit_index class class.destructor) (length class.functions)
        (subst (λ a. Has (implicit_index class a) (length class.functions)) (sym e) (inl refl))
    by_kind Plain e = by_part (order.destructors ∙ ap (λ a. if is_implicit a then 0 else 1) e)
    by_kind Virtual e = by_part (order.destructors ∙ ap (λ a. if is_implicit a then 0 else 1) e)

signature_index : (class : Class) → HasOrder class → (i : ℕ) (s : Signature) (o : Option (Function ClassId)) → slice_get class.functions i ≡ o → (b : Bool) → nat_eq i (length class.functions) ≡ b → signature_at o b ≡ Some s → Has (indices_in class) i
signature_index class order i s None e false last is = cc
signature_index class order i s None e true last is = subst (λ n. Has (indices_in class) n) (sym (eqb-true i (length class.functions) last)) (last_index class order)
signature_index class order i s (Some f) e b last is = function_index class order i (slice_get_within class.functions i f e)

-- a function that has a signature is declared
pub signature_declared : (h : Classes) → IsHierarchy h → (f : FunctionId) (s : Signature) → signature_of h f ≡ Some s → Has (declared h f.class) f
signature_declared h keeps f s e = by_class (class_at h f.class) refl e
  where
    by_class : (o : Option Class) → class_at h f.class ≡ o → signature_in o f.index ≡ Some s → Has (function_ids_in f.class o) f
    by_class None at is = cc
    by_class (Some class) at is = has_map (function_at f.class) (indices_in class) f.index (signature_index class (keeps.orders f.class class at) f.index s (slice_get class.functions f.index) refl (nat_eq f.index (length class.functions)) refl is)

pub is_declared : (h : Classes) → IsHierarchy h → (c : ClassId) (f : FunctionId) → f.class ≡ c → (s : Signature) × (signature_of h f ≡ Some s) → Has (declared h c) f
is_declared h keeps c f class s = subst (λ (x : ClassId). Has (declared h x) f) class (signature_declared h keeps f s.0 s.1)

declared_in : (c : ClassId) (o : Option Class) (f : FunctionId) → Has (function_ids_in c o) f → f.class ≡ c
declared_in c None f has = absurd has
declared_in c (Some class) f has = let r = from_map (function_at c) (indices_in class) f has in ap (λ (g : FunctionId). g.class) (sym r.2)

-- what a class declares is of that class
pub declared_class : (h : Classes) (c : ClassId) (f : FunctionId) → Has (declared h c) f → f.class ≡ c
declared_class h c f has = declared_in c (class_at h c) f has

-- each index is that of a function or of the destructor
part_index : (class : Class) → HasOrder class → (i : ℕ) → Has (filter_map (index_in class) class.order) i → i < length class.functions + 1
part_index class order i has =
    let r = from_filter_map (index_in class) class.order i has in
    let part = r.0 in
    ⊎_elim
    (λ k.
    let listed = has_map (λ (p : PartAt). p.number) (parts_of_kind is_function class.order) part (filter_has (λ (p : PartAt). is_function p.kind) class.order part r.1 k.0) in
    let low = (has_range 0 (length class.functions) part.number (subst (λ xs. Has xs part.number) order.functions listed)).1 in
    let same = k.1 in
    omega arith)
    (λ k. let same = k.1 in omega arith)
    (index_kind class part.kind part.number i r.2)

implicit_is : (class : Class) (d : DestructorKind) (i : ℕ) → Has (implicit_index class d) i → (d ≡ Implicit) × (length class.functions ≡ i)
implicit_is class Implicit i has = ⊎_elim (λ e. (refl, e)) (λ none. absurd none) has
implicit_is class Plain i has = absurd has
implicit_is class Virtual i has = absurd has

index_bound : (class : Class) → HasOrder class → (i : ℕ) → Has (indices_in class) i → i < length class.functions + 1
index_bound class order i has = ⊎_elim
    (λ k. part_index class order i k)
    (λ k. let e = (implicit_is class class.destructor i k).1 in omega arith)
    (has_cases (filter_map (index_in class) class.order) (implicit_index class class.destructor) i has)

-- what is declared has a signature
pub declared_signature : (h : Classes) → IsHierarchy h → (c : ClassId) (f : FunctionId) → Has (declared h c) f → (s : Signature) × (signature_of h f ≡ Some s)
declared_signature h keeps c f has = by_class (class_at h c) refl has
  where
    by_class : (o : Option Class) → class_at h c ≡ o → Has (function_ids_in c o) f → (s : Signature) × (signature_of h f ≡ Some s)
    by_class None e k = absurd k
    by_class (Some class) e k =
        let r = from_map (function_at c) (indices_in class) f k in
        let low = index_bound class (keeps.orders c class e) r.0 r.1 in
        let few : r.0 < length (functions_of h c) + 1 = subst (λ (o : Option Class). r.0 < length (all_functions o) + 1) (sym e) low in
        subst (λ g. (s : Signature) × (signature_of h g ≡ Some s)) r.2 (signature_there h (function_at c r.0) (slice_get_within h c.0 class e) few)

-- no function is declared twice
indices_once : (class : Class) → HasOrder class → EachOnce (indices_in class)
indices_once class order =
    let numbers : EachOnce (map (λ (p : PartAt). p.number) (parts_of_kind is_function class.order)) = subst EachOnce (sym order.functions) (range_once 0 (length class.functions)) in
    let parts = once_numbered (λ (p : PartAt). is_function p.kind) (λ (p : PartAt). is_destructor p.kind) (λ (p : PartAt). p.number) (index_in class) (length class.functions)
    (λ p i e. index_kind class p.kind p.number i e) class.order
    (record {
      once = numbers;
      below = λ i has. let r = has_range 0 (length class.functions) i (subst (λ xs. Has xs i) order.functions has) in let high = r.1 in omega arith;
      few = few_destructors class.destructor order.destructors;
    }) in
    once_append (filter_map (index_in class) class.order) (implicit_index class class.destructor) parts (implicit_once class class.destructor) (record { none = λ i has last. apart i has (implicit_is class class.destructor i last) })
  where
    few_destructors : (d : DestructorKind) → length (parts_of_kind is_destructor class.order) ≡ (if is_implicit d then 0 else 1) → length (parts_of_kind is_destructor class.order) ≤ 1
    few_destructors Implicit e = omega arith
    few_destructors Plain e = omega arith
    few_destructors Virtual e = omega arith

    implicit_once : (class : Class) (d : DestructorKind) → EachOnce (implicit_index class d)
    implicit_once class Implicit = (λ none. none, tt)
    implicit_once class Plain = tt
    implicit_once class Virtual = tt

    apart : (i : ℕ) → Has (filter_map (index_in class) class.order) i → (class.destructor ≡ Implicit) × (length class.functions ≡ i) → ⊥
    apart i has last =
        let r = from_filter_map (index_in class) class.order i has in
        ⊎_elim
        (λ k.
        let listed = has_map (λ (p : PartAt). p.number) (parts_of_kind is_function class.order) r.0 (filter_has (λ (p : PartAt). is_function p.kind) class.order r.0 r.1 k.0) in
        let low = (has_range 0 (length class.functions) r.0.number (subst (λ xs. Has xs r.0.number) order.functions listed)).1 in
        let same = k.1 in
        let end = last.1 in
        omega arith)
        (λ k.
        let none : length (parts_of_kind is_destructor class.order) ≡ 0 = order.destructors ∙ ap (λ a. if is_implicit a then 0 else 1) last.0 in
        let some = has_some_length (parts_of_kind is_destructor class.order) r.0 (filter_has (λ (p : PartAt). is_destructor p.kind) class.order r.0 r.1 k.0) in
        omega arith)
        (index_kind class r.0.kind r.0.number i r.2)

pub declared_once : (h : Classes) → IsHierarchy h → (c : ClassId) → EachOnce (declared h c)
declared_once h keeps c = by_class (class_at h c) refl
  where
    by_class : (o : Option Class) → class_at h c ≡ o → EachOnce (function_ids_in c o)
    by_class None e = tt
    by_class (Some class) e = once_map (function_at c) (indices_in class) (λ i j a b k. ap (λ (f : FunctionId). f.index) k) (indices_once class (keeps.orders c class e))
