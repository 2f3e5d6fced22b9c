-- The numbers that a stage holds are small, by the limits on classes.
use Rattle.std.proofs.Common.{◌≡◌, ℕ, ◌<◌, ◌≤◌, inl, inr, ⊎_elim, true, false, Some, List, [], ◌∷◌, map, length, refl, ap, subst, sym, arith}
use Rattle.std.specs.Prelude.{nat_eq, ◌||◌, slice_get, Option, None, Contains}
use Rattle.std.specs.List.{AllByRecursion, IsDistinct, list_any}
use Rattle.std.proofs.lemmas.Bool.{eqb-true}
use Rattle.std.proofs.lemmas.List.{length-map}
use Rattle.std.proofs.lemmas.Map.Keys.{IsDistinct-cons, IsDistinct-from_apart}
use Rattle.std.proofs.lemmas.Map.Steps.{length-le_from_distinct_below}
use Rattle.std.proofs.lemmas.Option.{slice_get_cases}
use Rattle.foundation.proofs.Truth.{split, is_false}
use Rattle.foundation.proofs.Members.{Has, EachOnce, has_at, contains_from_has}
use Rattle.cxx_hierarchy.specs.declared.records.ClassId.{ClassId}
use Rattle.cxx_hierarchy.specs.declared.records.Member.{Member}
use Rattle.cxx_hierarchy.specs.Classes.{Classes, members_of}
use Rattle.cxx_hierarchy.specs.Declarations.{elements_of}
use Rattle.cxx_hierarchy.specs.Hierarchies.{IsHierarchy}
use Rattle.cxx_hierarchy.specs.VirtualBases.{HasVirtualBase, direct, further}
use Rattle.cxx_subobject.proofs.PathLemmas.{virtual_below}
use Rattle.path_plan.specs.Plans.{virtual_order}
use Rattle.path_plan.proofs.Order.{order_virtual}
use Rattle.path_numbers.proofs.Placed.{base_past}
use Rattle.path_numbers.proofs.Ways.{orders_once}

abbrev code : ClassId → ℕ
code c = c.0

-- a list of classes, each once and below n, is no longer than n
apart_from : (x : ClassId) (xs : List ClassId) → (Has xs x → ⊥) → AllByRecursion (λ n. nat_eq x.0 n ≡ false) (map code xs)
apart_from x [] not_there = tt
apart_from x (y ∷ ys) not_there = (is_false (nat_eq x.0 y.0) (λ e. not_there (inl (ap (λ n. record { 0 = n }) (sym (eqb-true x.0 y.0 e))))), apart_from x ys (λ has. not_there (inr has)))

codes_apart : (xs : List ClassId) → EachOnce xs → IsDistinct nat_eq (map code xs)
codes_apart [] once = IsDistinct-from_apart nat_eq [] (λ i j d lt in_list. absurd (omega arith))
codes_apart (x ∷ xs) once = IsDistinct-cons nat_eq x.0 (map code xs) (apart_from x xs once.0) (codes_apart xs once.1)

code_below : (xs : List ClassId) (n : ℕ) → ((v : ClassId) → Has xs v → v.0 < n) → (q : ℕ) → list_any (nat_eq q) (map code xs) ≡ true → q < n
code_below [] n each q any = absurd (cc)
code_below (x ∷ xs) n each q any = split (nat_eq q x.0) (λ b. b || list_any (nat_eq q) (map code xs) ≡ true → q < n)
    (λ e there. subst (λ k. k < n) (sym (eqb-true q x.0 e)) (each x (inl refl)))
    (λ e there. code_below xs n (λ v has. each v (inr has)) q there)
    any

few_once : (xs : List ClassId) (n : ℕ) → EachOnce xs → ((v : ClassId) → Has xs v → v.0 < n) → length xs ≤ n
few_once xs n once each = subst (λ k. k ≤ n) (length-map xs code) (length-le_from_distinct_below (map code xs) n (codes_apart xs once) (λ q any. code_below xs n each q any))

-- a class that has a virtual base is one of the hierarchy
known : (h : Classes) (c v : ClassId) → HasVirtualBase h c v → length h ≤ c.0 → ⊥
known h _ _ (direct c v edge) past = base_past h c v true edge past
known h _ _ (further c b v way edge has) past = base_past h c b way edge past

pub few_virtual : (h : Classes) → IsHierarchy h → (c : ClassId) → length (virtual_order h c) ≤ 1024
few_virtual h keeps c =
    let few = keeps.few in
    let all = few_once (virtual_order h c) (length h) ((orders_once h).once c) (λ v has.
    let is = order_virtual h keeps c v has in
    let below = virtual_below h keeps c v is in
    ⊎_elim (λ some. let lt = some.1 in omega arith) (λ past. absurd (known h c v is past.0)) (slice_get_cases h c.0).1) in
    omega arith

-- the elements of a member
counted : (h : Classes) → IsHierarchy h → (c : ClassId) (member : Member ClassId) → Contains (members_of h c) member → (count : Option ℕ) → member.count ≡ count → elements_of count ≤ 4096
counted h keeps c member there None is = omega arith
counted h keeps c member there (Some n) is = (keeps.counts c member n there is).1

pub few_elements : (h : Classes) → IsHierarchy h → (c : ClassId) (m : ℕ) (member : Member ClassId) → slice_get (members_of h c) m ≡ Some member → elements_of member.count ≤ 4096
few_elements h keeps c m member listed = counted h keeps c member (contains_from_has (members_of h c) member (has_at (members_of h c) m member listed)) member.count refl
