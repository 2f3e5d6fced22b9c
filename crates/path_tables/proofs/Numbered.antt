-- A number names one subobject of a class.
use Rattle.std.proofs.Common.{◌≡◌, ℕ, suc, ◌+◌, ◌<◌, Bool, true, List, ◌∷◌, length, get_or, map, drop, drop-cons, refl, ap, subst, sym, ◌∙◌, arith}
use Rattle.std.specs.Prelude.{Some, None, find, slice_get}
use Rattle.std.proofs.lemmas.Option.{slice_get-get_or, slice_get_within}
use Rattle.std.proofs.lemmas.List.{get_or-map, length-map}
use Rattle.cxx_hierarchy.specs.declared.records.ClassId.{ClassId}
use Rattle.cxx_hierarchy.specs.Classes.{Classes}
use Rattle.cxx_hierarchy.specs.Hierarchies.{IsHierarchy}
use Rattle.cxx_subobject.specs.declared.Subobject.{Subobject}
use Rattle.cxx_subobject.specs.Preorder.{preorder}
use Rattle.cxx_subobject.proofs.TreeLemmas.{preorder_has, has_preorder}
use Rattle.foundation.proofs.Members.{Has, has_at, has_map, index_of}
use Rattle.path_plan.specs.Places.{ObjectPart}
use Rattle.path_numbers.specs.Sizes.{sizes_of}
use Rattle.path_numbers.specs.Nodes.{Node, IsGood, root_node}
use Rattle.path_numbers.specs.Numbers.{subobject_number}
use Rattle.path_numbers.proofs.Intervals.{one_part}
use Rattle.path_numbers.proofs.Sized.{sizes_are}
use Rattle.path_numbers.proofs.Within.{part_at}
use Rattle.path_tables.specs.declared.parts.PartList.{PartList}
use Rattle.path_tables.specs.Parts.{IsNumbered, IsPartList}
use Rattle.path_tables.specs.invariants.Places.{IsPlaceOfNumber}

pub one_numbered : (h : Classes) → IsHierarchy h → (c : ClassId) (x : ℕ) (s t : Subobject) → IsNumbered h c x s → IsNumbered h c x t → s ≡ t
one_numbered h keeps c x s t a b =
    let root = root_node 0 c in
    let good : IsGood root = record { class = refl; whole = λ e. refl } in
    let p = part_at h keeps root s good refl a.valid in
    let q = part_at h keeps root t good refl b.valid in
    let first = p.1 in
    let second = q.1 in
    let numbers : p.0.number ≡ q.0.number = first.number ∙ ap (λ n. 0 + n) (a.number ∙ sym b.number) ∙ sym second.number in
    let same : p.0 ≡ q.0 = one_part h (sizes_of h) (sizes_are h keeps) p.0 q.0 root first.under second.under numbers in
    ap (λ (o : ObjectPart). o.at) (sym first.is_part ∙ ap (λ (n : Node). n.part) same ∙ second.is_part)

-- a number that stands nowhere is no subobject's
pub not_listed : (h : Classes) → IsHierarchy h → (c : ClassId) (x : ℕ) (list : PartList) (numbers : List ℕ) → IsPartList h c list → numbers ≡ list.numbers.items → IsPlaceOfNumber numbers x None → (s : Subobject) → IsNumbered h c x s → ⊥
not_listed h keeps c x list numbers is e none s numbered =
    let there : Has (map (subobject_number h c) (preorder h c)) (subobject_number h c s) = has_map (subobject_number h c) (preorder h c) s (preorder_has h c keeps s numbered.valid) in
    let listed : Has numbers x = subst (λ (ns : List ℕ). Has ns x) (sym (e ∙ is.numbers)) (subst (Has (map (subobject_number h c) (preorder h c))) numbered.number there) in
    let place = index_of numbers x listed in
    let lt = slice_get_within numbers place.0 x place.1 in
    let same : Some (get_or numbers place.0 0) ≡ Some x = sym (slice_get-get_or numbers place.0 0 lt) ∙ place.1 in
    none place.0 lt (let one : get_or numbers place.0 0 ≡ x = cc in one)

pub list_length : (h : Classes) (c : ClassId) (list : PartList) (numbers : List ℕ) (parts : List Subobject) → IsPartList h c list → numbers ≡ list.numbers.items → parts ≡ list.parts → length numbers ≡ length parts
list_length h c list numbers parts is e k = ap length (e ∙ is.numbers) ∙ length-map (preorder h c) (subobject_number h c) ∙ ap length (sym (k ∙ is.parts))

-- what stands at the place of a number has the number
pub numbered_at : (h : Classes) (c : ClassId) (x i : ℕ) (list : PartList) (numbers : List ℕ) (parts : List Subobject) (p : Subobject) → IsPartList h c list → numbers ≡ list.numbers.items → parts ≡ list.parts → i < length numbers → get_or numbers i 0 ≡ x → p ≡ get_or parts i p
    → IsNumbered h c x p
numbered_at h c x i list numbers parts p is e k lt at place =
    let here : p ≡ get_or (preorder h c) i p = place ∙ ap (λ (l : List Subobject). get_or l i p) (k ∙ is.parts) in
    let within : i < length (preorder h c) = let a = list_length h c list numbers parts is e k in let b = ap length (k ∙ is.parts) in omega arith in
    record {
      valid = has_preorder h c p (has_at (preorder h c) i p (slice_get-get_or (preorder h c) i p within ∙ ap (λ (s : Subobject). Some s) (sym here)));
      number = ap (subobject_number h c) here ∙ sym (get_or-map (subobject_number h c) (preorder h c) i p 0 within) ∙ ap (λ (l : List ℕ). get_or l i 0) (sym (e ∙ is.numbers)) ∙ at;
    }

find_here : {X : Type 0} (p : X → Bool) (x : X) (xs : List X) → p x ≡ true → find p (x ∷ xs) ≡ Some x
find_here p x xs e = rw e refl

pub found_at : {X : Type 0} (p : X → Bool) (xs : List X) (i : ℕ) (x : X) → i < length xs → x ≡ get_or xs i x → p x ≡ true → find p xs ≡ find p (drop i xs) → find p xs ≡ slice_get xs i
found_at p xs i x lt is e k = k ∙ (ap (find p) (drop-cons xs i x lt) ∙ (find_here p (get_or xs i x) (drop (suc i) xs) (ap p (sym is) ∙ e) ∙ sym (slice_get-get_or xs i x lt)))
