-- What the rules mean, by the relations of subobjects, overriders and numbers in place of searches.
use Rattle.std.proofs.Common.{arith, ◌≡◌, ℕ, ◌-◌, ◌<◌, Bool, true, false, not, ◌||◌, ◌&&◌, Option, Some, None, List, [], ◌∷◌, refl, ap, subst, sym, ◌∙◌, pos, ◌+ℤ◌, ◌-ℤ◌, ◌*ℤ◌, ◌≤ℤ◌, ◌<ℤ◌}
use Rattle.std.specs.Prelude.{ℤ, negsuc, int_lt, ◌↔◌, slice_get, option_and_then, is_none}
use Rattle.std.specs.Option.{option_map_or}
use Rattle.std.specs.List.{find}
use Rattle.std.specs.Int.{int_rem_euclid}
use Rattle.std.proofs.lemmas.Int.{ints}
use Rattle.std.proofs.lemmas.Bool.{and_parts, and_from}
use Rattle.std.proofs.Math.Nat.{mod-eq_of_lt}
use Rattle.foundation.proofs.Chosen.{find_passes}
use Rattle.cxx_hierarchy.specs.declared.records.ClassId.{ClassId}
use Rattle.cxx_hierarchy.specs.declared.records.Scalar.{Scalar}
use Rattle.cxx_hierarchy.specs.Scalars.{is_signed, count_of, below_zero, IsInRange, wrapped}
use Rattle.cxx_hierarchy.specs.Classes.{Classes}
use Rattle.cxx_hierarchy.specs.Hierarchies.{IsHierarchy}
use Rattle.cxx_subobject.specs.declared.Subobject.{Subobject}
use Rattle.cxx_subobject.specs.Subobjects.{IsSubobject, class_of, join, same_subobject, whole_of, is_of_class}
use Rattle.cxx_subobject.specs.Preorder.{preorder}
use Rattle.cxx_subobject.specs.Inside.{IsInside}
use Rattle.cxx_subobject.specs.Locations.{Step, ObjectPart}
use Rattle.cxx_subobject.proofs.TreeLemmas.{subobject_same, same_itself, preorder_has, has_preorder}
use Rattle.cxx_overrider.specs.declared.FunctionId.{FunctionId}
use Rattle.cxx_overrider.specs.declared.Overrider.{Overrider}
use Rattle.cxx_overrider.specs.Functions.{is_pure}
use Rattle.cxx_overrider.specs.Overriding.{IsFinalIn}
use Rattle.cxx_search.specs.Searches.{is_within, final_in, is_pure_overrider, preorder_of}
use Rattle.cxx_search.proofs.Within.{within_inside, inside_within}
use Rattle.cxx_search.proofs.Finals.{found_final, final_found}
use Rattle.cxx_search.proofs.Finding.{finds_some}
use Rattle.cxx_search.proofs.Casts.{of_class, is_the_class}
use Rattle.cxx_search.proofs.Abstract.{pure_some}
use Rattle.path_plan.specs.Places.{part}
use Rattle.path_plan.specs.Phases.{Phase, Raw, InBases, ReadyBuilding, Complete, ReadyEnding, EndingBases, Ended, is_complete}
use Rattle.path_model.specs.Values.{Objects}
use Rattle.path_model.specs.Uses.{class_of_owner, view_of, derived_of}
use Rattle.path_model.specs.Rules.{is_outside, is_outside_of, is_pure_in_view, is_in_heap_object, is_no_whole, is_whole_complete, is_incomplete, differ, is_over}
use Rattle.path_model.specs.Effects.{overrider_by}
use Rattle.path_model.proofs.TypedRanges.{count_positive, euclid_range}

untrue : (b : Bool) → not b ≡ false → b ≡ true
untrue true e = refl
untrue false e = cc

-- the view

pub view_law : (h : Classes) → IsHierarchy h → (s : Objects) (p : ObjectPart) (x : Subobject) → view_of h s p ≡ Some x → (is_outside h s p ≡ false) ↔ IsInside h x p.at
view_law h keeps s p x seen = (λ e. within_inside h x p.at (untrue (is_within h x p.at) (sym by_view ∙ e)), λ inside. by_view ∙ ap not (inside_within h keeps x p.at inside))
  where
    by_view : is_outside h s p ≡ not (is_within h x p.at)
    by_view = ap (λ w. is_outside_of h w p.at) seen

-- pure overriders

pub pure_law : (h : Classes) → IsHierarchy h → (c : ClassId) (s : Objects) (p : ObjectPart) (x : Subobject) (f : FunctionId) → view_of h s p ≡ Some x → IsSubobject h c x
    → (is_pure_in_view h s f p ≡ true) ↔ ((o : Overrider) × IsFinalIn h c x p.at f o × (is_pure h o.function ≡ true))
pure_law h keeps c s p x f seen there = (
  λ e. let r = pure_some h (final_in h x p.at f) (sym by_view ∙ e) in (r.0, found_final h keeps c x there p.at f r.0 r.1, r.2),
  λ r. by_view ∙ (ap (λ o. is_pure_overrider h o) (final_found h keeps c x there p.at f r.0 r.1) ∙ r.2),
)
  where
    by_view : is_pure_in_view h s f p ≡ is_pure_overrider h (final_in h x p.at f)
    by_view = ap (λ w. is_pure_overrider h (overrider_by h w p.at f)) seen

pub pure_by : (h : Classes) (o : Option Subobject) (y : Subobject) (f : FunctionId) → is_pure_overrider h (option_and_then (λ x. final_in h x y f) o) ≡ is_pure_overrider h (overrider_by h o y f)
pure_by h None y f = refl
pure_by h (Some x) y f = refl

-- downcasts

somewhere : (o : Option Subobject) → is_none o ≡ false → (t : Subobject) × (o ≡ Some t)
somewhere None e = cc
somewhere (Some t) e = (t, refl)

pub down_law : (h : Classes) → IsHierarchy h → (s : Objects) (p : ObjectPart) (d target : ClassId) (i : Subobject) → class_of_owner h s p ≡ Some d
    → (is_none (derived_of h s target i p) ≡ false) ↔ ((t : Subobject) × IsSubobject h d t × (class_of t ≡ Some target) × (join t i ≡ p.at))
down_law h keeps s p d target i owner = (one, other)
  where
    test : Subobject → Bool
    test t = is_of_class target t && same_subobject (join t i) p.at

    by_class : derived_of h s target i p ≡ find test (preorder h d)
    by_class = ap (λ k. find test (preorder_of h k)) owner

    one : is_none (derived_of h s target i p) ≡ false → (t : Subobject) × IsSubobject h d t × (class_of t ≡ Some target) × (join t i ≡ p.at)
    one e =
        let found = somewhere (derived_of h s target i p) e in
        let passed = find_passes test (preorder h d) found.0 (sym by_class ∙ found.1) in
        let both = and_parts (is_of_class target found.0) (same_subobject (join found.0 i) p.at) passed.1 in
        (found.0, has_preorder h d found.0 passed.0, of_class target (class_of found.0) both.0, subobject_same (join found.0 i) p.at both.1)

    other : (t : Subobject) × IsSubobject h d t × (class_of t ≡ Some target) × (join t i ≡ p.at) → is_none (derived_of h s target i p) ≡ false
    other r =
        let same : same_subobject (join r.0 i) p.at ≡ true = ap (λ z. same_subobject z p.at) r.3 ∙ same_itself p.at in
        let found = finds_some test (preorder h d) r.0 (preorder_has h d keeps r.0 r.1) (and_from (is_of_class target r.0) (same_subobject (join r.0 i) p.at) (is_the_class target (class_of r.0) r.2) same) in
        ap is_none (by_class ∙ found.1)

-- `delete` and `dump`

pub whole_law : (h : Classes) (s : Objects) (p : ObjectPart) (d : ClassId) → class_of_owner h s p ≡ Some d → (is_no_whole h s p ≡ false) ↔ (p.at ≡ whole_of d)
whole_law h s p d owner = (λ e. subobject_same p.at (whole_of d) (untrue (same_subobject p.at (whole_of d)) (sym by_class ∙ e)), λ e. by_class ∙ ap not (ap (λ z. same_subobject z (whole_of d)) e ∙ same_itself (whole_of d)))
  where
    by_class : is_no_whole h s p ≡ not (same_subobject p.at (whole_of d))
    by_class = ap (λ k. not (option_map_or (λ d. same_subobject p.at (whole_of d)) k false)) owner

pub heap_law : (owner : List Step) → (not (is_in_heap_object owner) ≡ false) ↔ (owner ≡ [])
heap_law [] = (λ e. refl, λ e. refl)
heap_law (step ∷ rest) = (λ e. cc, λ e. cc)

complete_is : (x : Phase) → is_complete x ≡ true → x ≡ Complete
complete_is Raw e = cc
complete_is InBases e = cc
complete_is ReadyBuilding e = cc
complete_is Complete e = refl
complete_is ReadyEnding e = cc
complete_is EndingBases e = cc
complete_is Ended e = cc

pub complete_law : (s : Objects) (p : ObjectPart) (d : ClassId) → slice_get s.classes p.object ≡ Some d → (is_incomplete s p ≡ false) ↔ (s.phases.phase (part p.object [] (whole_of d)) ≡ Complete)
complete_law s p d class = (λ e. complete_is (s.phases.phase (part p.object [] (whole_of d))) (untrue (is_complete (s.phases.phase (part p.object [] (whole_of d)))) (sym by_class ∙ e)), λ e. by_class ∙ ap (λ x. not (is_complete x)) e)
  where
    by_class : is_incomplete s p ≡ not (is_complete (s.phases.phase (part p.object [] (whole_of d))))
    by_class = ap (λ k. not (is_whole_complete s p.object k)) class

-- numbers

euclid_same : (y : ℤ) (n : ℕ) → pos 0 ≤ℤ y → y <ℤ pos n → int_rem_euclid y (pos n) ≡ y
euclid_same (pos a) n low high = let l : a < n = omega (arith, ints) in ap pos (mod-eq_of_lt l)
euclid_same (negsuc a) n low high = absurd (omega (arith, ints))

back : (z : ℤ) (below : ℕ) → (z +ℤ pos below) -ℤ pos below ≡ z
back z below = omega (arith, ints)

moved : (y : ℤ) (below count : ℕ) → pos 0 ≤ℤ y → y <ℤ pos count → (pos 0 ≤ℤ ((y -ℤ pos below) +ℤ pos below)) × (((y -ℤ pos below) +ℤ pos below) <ℤ pos count)
moved y below count low high = (omega (arith, ints), omega (arith, ints))

-- a number of the type is left as it is
pub wrapped_same : (t : Scalar) (z : ℤ) → IsInRange t z → wrapped t z ≡ z
wrapped_same t z r =
    let below = below_zero (is_signed t) (count_of t) in
    ap (λ y. y -ℤ pos below) (euclid_same (z +ℤ pos below) (count_of t) r.least r.greatest) ∙ back z below

-- any other becomes one
pub wrapped_range : (t : Scalar) (z : ℤ) → IsInRange t (wrapped t z)
wrapped_range t z =
    let below = below_zero (is_signed t) (count_of t) in
    let l = euclid_range (z +ℤ pos below) (count_of t) (count_positive t) in
    let r = moved (int_rem_euclid (z +ℤ pos below) (pos (count_of t))) below (count_of t) l.0 l.1 in
    record { least = r.0; greatest = r.1 }

same_of : (a b : ℤ) → differ a b ≡ false → a ≡ b
same_of a b e = by_tests (int_lt a b) (int_lt b a) refl refl e
  where
    by_tests : (x y : Bool) → int_lt a b ≡ x → int_lt b a ≡ y → (x || y) ≡ false → a ≡ b
    by_tests true y f g e = cc
    by_tests false true f g e = cc
    by_tests false false f g e = omega (arith, ints)

no_difference : (a : ℤ) → differ a a ≡ false
no_difference a = by_test (int_lt a a) refl
  where
    by_test : (x : Bool) → int_lt a a ≡ x → (x || x) ≡ false
    by_test true f = absurd (omega (arith, ints))
    by_test false f = refl

pub over_law : (t : Scalar) (z : ℤ) → (is_over t z ≡ false) ↔ IsInRange t z
over_law t z = (λ e. subst (λ y. IsInRange t y) (same_of (wrapped t z) z e) (wrapped_range t z), λ r. subst (λ y. differ y z ≡ false) (sym (wrapped_same t z r)) (no_difference z))

result_law : (t : Scalar) (f : ℤ → ℤ → ℤ) (a b : ℤ) → is_signed t ≡ true → IsInRange t a → IsInRange t b → ((is_signed t && is_over t (f (wrapped t a) (wrapped t b))) ≡ false) ↔ IsInRange t (f a b)
result_law t f a b signed r q = ((λ e. (over_law t (f a b)).0 (sym same ∙ e)), (λ k. same ∙ (over_law t (f a b)).1 k))
  where
    same : (is_signed t && is_over t (f (wrapped t a) (wrapped t b))) ≡ is_over t (f a b)
    same = ap (λ x. x && is_over t (f (wrapped t a) (wrapped t b))) signed ∙ (ap (λ y. is_over t (f y (wrapped t b))) (wrapped_same t a r) ∙ ap (λ y. is_over t (f a y)) (wrapped_same t b q))

pub sum_law : (t : Scalar) (a b : ℤ) → is_signed t ≡ true → IsInRange t a → IsInRange t b → ((is_signed t && is_over t (wrapped t a +ℤ wrapped t b)) ≡ false) ↔ IsInRange t (a +ℤ b)
sum_law t a b signed r q = result_law t (λ x y. x +ℤ y) a b signed r q

pub difference_law : (t : Scalar) (a b : ℤ) → is_signed t ≡ true → IsInRange t a → IsInRange t b → ((is_signed t && is_over t (wrapped t a -ℤ wrapped t b)) ≡ false) ↔ IsInRange t (a -ℤ b)
difference_law t a b signed r q = result_law t (λ x y. x -ℤ y) a b signed r q

pub product_law : (t : Scalar) (a b : ℤ) → is_signed t ≡ true → IsInRange t a → IsInRange t b → ((is_signed t && is_over t (wrapped t a *ℤ wrapped t b)) ≡ false) ↔ IsInRange t (a *ℤ b)
product_law t a b signed r q = result_law t (λ x y. x *ℤ y) a b signed r q
