-- Where nodes list class subobjects by their placements, two paths to one class at one place are one.
use Rattle.std.proofs.Common.{◌≡◌, ℕ, zero, suc, ◌+◌, ◌*◌, ◌<◌, inl, ⊎_elim, Option, Some, None, List, [], ◌∷◌, ◌++◌, map, refl, ap, subst, sym, ◌∙◌, arith}
use Rattle.std.specs.List.{slice_get, flat_map}
use Rattle.cxx_hierarchy.specs.declared.records.ClassId.{ClassId}
use Rattle.cxx_subobject.proofs.ListLemmas.{Has, EachOnce, has_right, has_cases, has_from_mapped}
use Rattle.abi_emptybase.specs.declared.Part.{Part}
use Rattle.abi_emptybase.specs.Table.{moved_part}
use Rattle.abi_layout.specs.Placements.{placed_part, copies}
use Rattle.abi_layout.proofs.sound.ObjectTree.{Node, Placement, Step, Contents, start_of, StepsTo, Reaches, here, down, Measures, AreArranged, class_of_node, placed_parts}
use Rattle.abi_layout.proofs.rules.Stages.{has_map}
use Rattle.abi_layout.proofs.rules.OnceLemmas.{once_right, once_clash, once_unmapped, unmapped, stands_at, in_segment, one_segment, once_segment, has_copy, one_copy, once_copy, copied}

-- what a class node lists of itself
abbrev pub own_part : Option ClassId → List Part
own_part None = []
own_part (Some d) = placed_part d 0 ∷ []

-- a node that is known lists itself, if it is a class, and what its placements list, and the nodes of these are known
pub record ListsParts (contents : Contents) (parts : Node → List Part) (known : Node → Type 0) : Type 0 where
  pub below : (n : Node) (i : ℕ) (k : Placement) → known n → slice_get (contents n) i ≡ Some k → known k.node
  pub unfolds : (n : Node) → known n → parts n ≡ own_part (class_of_node n) ++ flat_map (placed_parts parts) (contents n)

-- a copy of a placement lists what its node does
pub placed_has : (parts : Node → List Part) (k : Placement) (e q : ℕ) (d : ClassId) → e < k.count → Has (parts k.node) (placed_part d q) → Has (placed_parts parts k) (placed_part d (start_of k e + q))
placed_has parts k e q d lt h =
    let copy = has_copy k.count k.stride (parts k.node) e (moved_part (e * k.stride) (placed_part d q)) lt (has_map (moved_part (e * k.stride)) (parts k.node) (placed_part d q) h) in
    let all = has_map (moved_part k.place) (copies k.count k.stride (parts k.node)) (moved_part (e * k.stride) (placed_part d q)) copy in
    let place : (q + e * k.stride) + k.place ≡ start_of k e + q = omega arith in
    subst (λ x. Has (placed_parts parts k) (placed_part d x)) place all

-- each class that is reached is listed, with its place
pub reached_listed : (contents : Contents) (parts : Node → List Part) (known : Node → Type 0) → ListsParts contents parts known → (d : ClassId) (n j : Node) (p : List Step) (q : ℕ) → known n → Reaches contents n p q j → class_of_node j ≡ Some d → Has (parts n) (placed_part d q)
reached_listed contents parts known lists d _ _ _ _ is (here n) e =
    subst (λ (xs : List Part). Has xs (placed_part d 0)) (sym (lists.unfolds n is)) (subst (λ (o : Option ClassId). Has (own_part o ++ flat_map (placed_parts parts) (contents n)) (placed_part d 0)) (sym e) (inl refl))
reached_listed contents parts known lists d _ _ _ _ is (down n j s p q k to r) e =
    let inner = reached_listed contents parts known lists d k.node j p q (lists.below n s.number k is to.there) r e in
    let whole = start_of k s.copy + q in
    subst (λ (xs : List Part). Has xs (placed_part d whole)) (sym (lists.unfolds n is))
    (has_right (own_part (class_of_node n)) (flat_map (placed_parts parts) (contents n)) (placed_part d whole)
    (in_segment (placed_parts parts) (contents n) s.number k (placed_part d whole) to.there (placed_has parts k s.copy q d to.within inner)))

-- in copies that list nothing twice, one place is in one copy
same_copy : (parts : Node → List Part) (k : Placement) (d : ClassId) (e f q r : ℕ) → EachOnce (placed_parts parts k) → e < k.count → f < k.count → Has (parts k.node) (placed_part d q) → Has (parts k.node) (placed_part d r) → start_of k e + q ≡ start_of k f + r → e ≡ f
same_copy parts k d e f q r once lt less h g same =
    let all = once_unmapped (moved_part k.place) (copies k.count k.stride (parts k.node)) once in
    let one : Has (map (moved_part (e * k.stride)) (parts k.node)) (placed_part d (q + e * k.stride)) = has_map (moved_part (e * k.stride)) (parts k.node) (placed_part d q) h in
    let two : Has (map (moved_part (f * k.stride)) (parts k.node)) (placed_part d (r + f * k.stride)) = has_map (moved_part (f * k.stride)) (parts k.node) (placed_part d r) g in
    let place : r + f * k.stride ≡ q + e * k.stride = omega arith in
    one_copy k.count k.stride (parts k.node) e f (placed_part d (q + e * k.stride)) all lt less one (subst (λ x. Has (map (moved_part (f * k.stride)) (parts k.node)) (placed_part d x)) place two)

abbrev step : ℕ → ℕ → Step
step a b = record { number = a; copy = b }

-- two steps to one class at one place are one
record IsOneStep (s t : Step) (k l : Placement) (q r : ℕ) : Type 0 where
  step_is : s ≡ t
  placement_is : l ≡ k
  rest_is : q ≡ r

one_step : (contents : Contents) (parts : Node → List Part) (n : Node) (s t : Step) (k l : Placement) (d : ClassId) (q r : ℕ) → EachOnce (flat_map (placed_parts parts) (contents n)) → StepsTo contents n s k → StepsTo contents n t l
    → Has (parts k.node) (placed_part d q) → Has (parts l.node) (placed_part d r) → start_of k s.copy + q ≡ start_of l t.copy + r → IsOneStep s t k l q r
one_step contents parts n s t k l d q r once to into h g same =
    let one = placed_has parts k s.copy q d to.within h in
    let two = subst (λ x. Has (placed_parts parts l) (placed_part d x)) (sym same) (placed_has parts l t.copy r d into.within g) in
    let number = one_segment (placed_parts parts) (contents n) s.number t.number k l (placed_part d (start_of k s.copy + q)) once to.there into.there one two in
    let there = ap (λ i. slice_get (contents n) i) number in
    let first = to.there in
    let second = into.there in
    let is : l ≡ k = cc in
    let copy = same_copy parts k d s.copy t.copy q r (once_segment (placed_parts parts) (contents n) s.number k once to.there) to.within (subst (λ (x : Placement). t.copy < x.count) is into.within) h
    (subst (λ (x : Placement). Has (parts x.node) (placed_part d r)) is g) (subst (λ (x : Placement). start_of k s.copy + q ≡ start_of x t.copy + r) is same) in
    let start : start_of k s.copy ≡ start_of l t.copy = ap (λ i. start_of k i) copy ∙ ap (λ (x : Placement). start_of x t.copy) (sym is) in
    let both : step s.number s.copy ≡ step t.number t.copy = ap (λ a. step a s.copy) number ∙ ap (λ b. step t.number b) copy in
    record { step_is = both; placement_is = is; rest_is = omega arith }

-- what is below a class lies elsewhere than the class itself, or is of another class
below_differs : (contents : Contents) (parts : Node → List Part) (known : Node → Type 0) → ListsParts contents parts known → (d : ClassId) (n j : Node) (s : Step) (p : List Step) (q : ℕ) (k : Placement) → known n → EachOnce (parts n) → StepsTo contents n s k → Reaches contents k.node p q j
    → class_of_node n ≡ Some d → class_of_node j ≡ Some d → 0 ≡ start_of k s.copy + q → ⊥
below_differs contents parts known lists d n j s p q k is once to r here_is there_is same =
    let inner = placed_has parts k s.copy q d to.within (reached_listed contents parts known lists d k.node j p q (lists.below n s.number k is to.there) r there_is) in
    let listed = in_segment (placed_parts parts) (contents n) s.number k (placed_part d (start_of k s.copy + q)) to.there inner in
    let all : EachOnce (own_part (class_of_node n) ++ flat_map (placed_parts parts) (contents n)) = subst (λ (xs : List Part). EachOnce xs) (lists.unfolds n is) once in
    let own : Has (own_part (class_of_node n)) (placed_part d 0) = subst (λ (o : Option ClassId). Has (own_part o) (placed_part d 0)) (sym here_is) (inl refl) in
    once_clash (own_part (class_of_node n)) (flat_map (placed_parts parts) (contents n)) (placed_part d 0) all own (subst (λ x. Has (flat_map (placed_parts parts) (contents n)) (placed_part d x)) (sym same) listed)

-- where a node lists nothing twice, two paths from it to one class at one place are one
pub one_path : (contents : Contents) (parts : Node → List Part) (known : Node → Type 0) → ListsParts contents parts known → (d : ClassId) (n : Node) (p o : List Step) (q r : ℕ) (k j : Node) → known n → EachOnce (parts n) → Reaches contents n p q k → Reaches contents n o r j → class_of_node k ≡ Some d → class_of_node j ≡ Some d → q ≡ r → p ≡ o
one_path contents parts known lists d _ _ _ _ _ _ _ is once (here n) (here _) e f g = refl
one_path contents parts known lists d _ _ _ _ _ _ _ is once (here n) (down _ j t o b l into r) e f g = absurd (below_differs contents parts known lists d n j t o b l is once into r e f g)
one_path contents parts known lists d _ _ _ _ _ _ _ is once (down n k s p q c to r) (here _) e f g = absurd (below_differs contents parts known lists d n k s p q c is once to r f e (sym g))
one_path contents parts known lists d _ _ _ _ _ _ _ is once (down n k s p q c to r) (down _ j t o b l into r') e f g =
    let all = subst (λ (xs : List Part). EachOnce xs) (lists.unfolds n is) once in
    let pieces = once_right (own_part (class_of_node n)) (flat_map (placed_parts parts) (contents n)) all in
    let below = lists.below n s.number c is to.there in
    let one = one_step contents parts n s t c l d q b pieces to into (reached_listed contents parts known lists d c.node k p q below r e) (reached_listed contents parts known lists d l.node j o b (lists.below n t.number l is into.there) r' f) g in
    let copies_once = once_unmapped (moved_part c.place) (copies c.count c.stride (parts c.node)) (once_segment (placed_parts parts) (contents n) s.number c pieces to.there) in
    let lt = to.within in
    let inner = once_copy c.count c.stride (parts c.node) (omega arith) copies_once in
    let rest = one_path contents parts known lists d c.node p o q b k j below inner r (subst (λ (x : Placement). Reaches contents x.node o b j) one.placement_is r') e f one.rest_is in
    ap (λ x. x ∷ p) one.step_is ∙ ap (λ y. t ∷ y) rest

own_at_start : (o : Option ClassId) (x : Part) → Has (own_part o) x → x.place ≡ 0
own_at_start None x h = absurd h
own_at_start (Some d) x h = ⊎_elim (λ e. ap (λ (z : Part). z.place) (sym e)) (λ r. absurd r) h

-- what a node lists lies within its span
pub listed_within : (contents : Contents) (m : Measures) (parts : Node → List Part) (known : Node → Type 0) → ListsParts contents parts known → AreArranged contents m → (steps : ℕ) (n : Node) (x : Part) → m.rank n < steps → known n → Has (parts n) x → x.place < m.span n
listed_within contents m parts known lists all zero n x lt is h = absurd (omega arith)
listed_within contents m parts known lists all (suc steps) n x lt is h =
    ⊎_elim
    (λ own. let z = own_at_start (class_of_node n) x own in let some = all.positive n in omega arith)
    (λ rest.
    let r = has_from_mapped (placed_parts parts) (contents n) x rest in
    let k = r.0 in
    let stands = stands_at (contents n) k r.1 in
    let place = (all.node n).each stands.number k stands.there in
    let outer = unmapped (moved_part k.place) (copies k.count k.stride (parts k.node)) x r.2 in
    let inner = copied k.count k.stride (parts k.node) outer.item outer.has in
    let falls = place.falls in
    let below = listed_within contents m parts known lists all steps k.node inner.part (omega arith) (lists.below n stands.number k is stands.there) inner.has in
    let spans = place.spans inner.copy inner.within in
    let one : outer.item.place + k.place ≡ x.place = ap (λ (z : Part). z.place) outer.is in
    let two : inner.part.place + inner.copy * k.stride ≡ outer.item.place = ap (λ (z : Part). z.place) inner.is in
    omega arith)
    (has_cases (own_part (class_of_node n)) (flat_map (placed_parts parts) (contents n)) x (subst (λ (xs : List Part). Has xs x) (lists.unfolds n is) h))
