-- Whether an empty base of the next class lies elsewhere than at its start.
use Rattle.std.proofs.Common.{◌≡◌, ℕ, ◌+◌, ◌<◌, Bool, true, false, List, [], ◌∷◌, refl, ap, subst, sym, ◌∙◌, arith}
use Rattle.std.specs.Prelude.{IsTrue, ◌↔◌, Contains, not, ◌&&◌, ◌||◌, ◌==◌}
use Rattle.std.specs.List.{list_any}
use Rattle.std.proofs.lemmas.Bool.{and_parts, and_from, eqb-true}
use Rattle.cxx_hierarchy.specs.declared.records.ClassId.{ClassId}
use Rattle.cxx_hierarchy.specs.declared.records.Base.{Base}
use Rattle.cxx_hierarchy.specs.Classes.{Classes, bases_of}
use Rattle.cxx_hierarchy.specs.Hierarchies.{IsHierarchy}
use Rattle.cxx_subobject.specs.declared.Root.TheVariants.{Whole}
use Rattle.cxx_subobject.specs.declared.Subobject.{Subobject}
use Rattle.cxx_subobject.specs.Subobjects.{IsSubobject, Leads, subobject, whole, shared, class_of, last_of}
use Rattle.cxx_subobject.specs.Preorder.{preorder}
use Rattle.cxx_subobject.proofs.TreeLemmas.{preorder_lists, has_preorder}
use Rattle.foundation.proofs.Truth.{or_parts}
use Rattle.abi_layout.specs.declared.known.Known.{Known}
use Rattle.abi_sound.specs.declared.class_layout.ClassLayout.{ClassLayout}
use Rattle.abi_sound.specs.Places.{direct_base_place, place_along}
use Rattle.abi_layout.specs.Kinds.{is_empty}
use Rattle.abi_layout.specs.invariants.Known.{empties_in}
use Rattle.abi_layout.specs.Layouts.{place_in_class, is_whole, is_empty_in, is_shifted}
use Rattle.abi_layout.specs.invariants.LaidSoFar.{is_shifted_base, is_moved_base, HasShifted, by_itself, by_inner, BaseShifted, itself, inner}
use Rattle.abi_layout.proofs.lists.Each.{not_both}
use Rattle.abi_layout.proofs.rules.Stages.{split}
use Rattle.abi_layout.proofs.rules.KindLemmas.{has_of}
use Rattle.foundation.proofs.Chosen.{any_has, has_any}
use Rattle.cxx_subobject.proofs.PathLemmas.{last_below}
use Rattle.abi_layout.proofs.rules.AgreeingRows.{any_same}

-- what is known of the classes tells of each subobject whether it is shifted
shifted_is : (h : Classes) (rows : List ClassLayout) (known : List Known) (c : ClassId) (s : Subobject) → IsHierarchy h → ((d : ClassId) → d.0 < c.0 + 1 → empties_in known d ≡ is_empty h d) → IsSubobject h c s
    → is_shifted_base h rows known s ≡ (is_whole s.root && (is_empty_in h (class_of s) && not (place_in_class h rows c s == 0)))
shifted_is h rows known c _ keeps tells (whole path leads) =
    let below = last_below h keeps c path leads in
    let sum : place_along h rows c path ≡ 0 + place_along h rows c path = omega arith in
    ap (λ b. b && not (place_along h rows c path == 0)) (tells (last_of c path) (omega arith)) ∙ ap (λ (n : ℕ). is_empty h (last_of c path) && not (n == 0)) sum
shifted_is h rows known c _ keeps tells (shared v path has leads) = refl

-- so the test over all subobjects is the one of the rules
pub shifted_same : (h : Classes) (rows : List ClassLayout) (known : List Known) (c : ClassId) → IsHierarchy h → ((d : ClassId) → d.0 < c.0 + 1 → empties_in known d ≡ is_empty h d) → list_any (is_shifted_base h rows known) (preorder h c) ≡ is_shifted h rows c
shifted_same h rows known c keeps tells =
    any_same (is_shifted_base h rows known) (λ (s : Subobject). is_whole s.root && (is_empty_in h (class_of s) && not (place_in_class h rows c s == 0))) (preorder h c)
    (λ s has. shifted_is h rows known c s keeps tells (has_preorder h c s has))

-- a base that is shifted makes its class have one, and each one comes from a base
pub base_shifts : (h : Classes) (rows : List ClassLayout) (known : List Known) (d : ClassId) (is_moved : Bool) (base : Base ClassId) → Contains (bases_of h d) base → BaseShifted h rows known d is_moved base → HasShifted h rows known d is_moved
base_shifts h rows known d is_moved base has (itself way e) = by_itself d is_moved base has way e
base_shifts h rows known d is_moved base has (inner way below) = by_inner d is_moved base has way below

pub no_shift : (h : Classes) (rows : List ClassLayout) (known : List Known) (d : ClassId) (is_moved : Bool) → ((base : Base ClassId) → Contains (bases_of h d) base → BaseShifted h rows known d is_moved base → ⊥) → HasShifted h rows known d is_moved → ⊥
no_shift h rows known _ _ each (by_itself d is_moved base has way e) = each base has (itself way e)
no_shift h rows known _ _ each (by_inner d is_moved base has way below) = each base has (inner way below)

-- neither the base nor one below it is such a base
pub record IsStayed (h : Classes) (rows : List ClassLayout) (known : List Known) (d : ClassId) (is_moved : Bool) (base : Base ClassId) : Type 0 where
  pub stays : BaseShifted h rows known d is_moved base → ⊥

-- a base that is reached along a path, and is empty and elsewhere than at the start
record IsPathShifted (h : Classes) (rows : List ClassLayout) (known : List Known) (d : ClassId) (is_moved : Bool) : Type 0 where
  path : List ClassId
  leads : Leads h d path
  is_empty : empties_in known (last_of d path) ≡ true
  elsewhere : is_moved ≡ false → place_along h rows d path ≡ 0 → ⊥

zero_place : (n : ℕ) → not (n == 0) ≡ true → n ≡ 0 → ⊥
zero_place n e z = let f : not (n == 0) ≡ false = ap (λ (k : ℕ). not (k == 0)) z in not_both e f

or_false : (b : Bool) (n : ℕ) → b ≡ false → n ≡ 0 → (b || not (n == 0)) ≡ false
or_false b n e z = ap (λ x. x || not (n == 0)) e ∙ ap (λ (k : ℕ). not (k == 0)) z

path_to : (h : Classes) (rows : List ClassLayout) (known : List Known) (d : ClassId) (is_moved : Bool) → HasShifted h rows known d is_moved → IsPathShifted h rows known d is_moved
path_to h rows known _ _ (by_itself d is_moved base has way e) =
    let parts = and_parts (is_moved_base h rows d is_moved base) (empties_in known base.class) e in
    record {
      path = base.class ∷ [];
      leads = (record { base = base; listed = has; class = refl; way = way }, tt);
      is_empty = parts.1;
      elsewhere = λ stays sum. let z : direct_base_place h rows d base.class ≡ 0 = omega arith in not_both parts.0 (or_false is_moved (direct_base_place h rows d base.class) stays z);
    }
path_to h rows known _ _ (by_inner d is_moved base has way below) =
    let next = path_to h rows known base.class (is_moved_base h rows d is_moved base) below in
    record {
      path = base.class ∷ next.path;
      leads = (record { base = base; listed = has; class = refl; way = way }, next.leads);
      is_empty = next.is_empty;
      elsewhere = λ stays sum.
          let z : direct_base_place h rows d base.class ≡ 0 = omega arith in
          let rest : place_along h rows base.class next.path ≡ 0 = omega arith in
          next.elsewhere (or_false is_moved (direct_base_place h rows d base.class) stays z) rest;
    }

not_elsewhere : (n : ℕ) → not (n == 0) ≡ false → n ≡ 0
not_elsewhere n e = eqb-true n 0 (split (n == 0) (λ b. not b ≡ false → b ≡ true) (λ _ _. refl) (λ _ f. let g : true ≡ false = f in cc) e)

from_path : (h : Classes) (rows : List ClassLayout) (known : List Known) (d : ClassId) (is_moved : Bool) (b : ClassId) (path : List ClassId) → Leads h d (b ∷ path) → empties_in known (last_of b path) ≡ true → (is_moved ≡ false → place_along h rows d (b ∷ path) ≡ 0 → ⊥) → HasShifted h rows known d is_moved
from_path h rows known d is_moved b [] leads e elsewhere =
    let edge = leads.0 in
    let named : empties_in known edge.base.class ≡ true = ap (empties_in known) edge.class ∙ e in
    let moves : is_moved_base h rows d is_moved edge.base ≡ true = split (is_moved_base h rows d is_moved edge.base) (λ x. is_moved_base h rows d is_moved edge.base ≡ x → x ≡ true) (λ _ _. refl)
    (λ _ f.
    let two = or_parts is_moved (not (direct_base_place h rows d edge.base.class == 0)) f in
    let z = not_elsewhere (direct_base_place h rows d edge.base.class) two.1 in
    let same : direct_base_place h rows d edge.base.class ≡ direct_base_place h rows d b = ap (direct_base_place h rows d) edge.class in
    absurd (elsewhere two.0 (omega arith))) refl in
    by_itself d is_moved edge.base edge.listed edge.way (and_from (is_moved_base h rows d is_moved edge.base) (empties_in known edge.base.class) moves named)
from_path h rows known d is_moved b (e ∷ path) leads empty elsewhere =
    let edge = leads.0 in
    let below = from_path h rows known b (is_moved_base h rows d is_moved edge.base) e path leads.1 empty
    (λ stays sum.
    let two = or_parts is_moved (not (direct_base_place h rows d edge.base.class == 0)) stays in
    let z = not_elsewhere (direct_base_place h rows d edge.base.class) two.1 in
    let same : direct_base_place h rows d edge.base.class ≡ direct_base_place h rows d b = ap (direct_base_place h rows d) edge.class in
    elsewhere two.0 (omega arith)) in
    by_inner d is_moved edge.base edge.listed edge.way (subst (λ (x : ClassId). HasShifted h rows known x (is_moved_base h rows d is_moved edge.base)) (sym edge.class) below)

-- so the walk over bases tells what the test over all subobjects does
pub shifted_listed : (h : Classes) (rows : List ClassLayout) (known : List Known) (c : ClassId) → IsHierarchy h → IsTrue (list_any (is_shifted_base h rows known) (preorder h c)) ↔ HasShifted h rows known c false
shifted_listed h rows known c keeps = (forth, back)
  where
    by_subobject : (s : Subobject) → IsSubobject h c s → is_shifted_base h rows known s ≡ true → HasShifted h rows known c false
    by_subobject _ (shared v path has leads) e = let f : false ≡ true = e in cc
    by_subobject _ (whole [] leads) e = let two = and_parts (empties_in known c) (not (0 == 0)) e in let f : false ≡ true = two.1 in cc
    by_subobject _ (whole (b ∷ path) leads) e =
        let two = and_parts (empties_in known (last_of b path)) (not (place_along h rows c (b ∷ path) == 0)) e in
        from_path h rows known c false b path leads two.0 (λ _ sum. zero_place (place_along h rows c (b ∷ path)) two.1 sum)

    forth : IsTrue (list_any (is_shifted_base h rows known) (preorder h c)) → HasShifted h rows known c false
    forth t = let r = any_has (is_shifted_base h rows known) (preorder h c) t in by_subobject r.item (has_preorder h c r.item r.has) r.passes

    back : HasShifted h rows known c false → IsTrue (list_any (is_shifted_base h rows known) (preorder h c))
    back x =
        let p = path_to h rows known c false x in
        let s : Subobject = subobject Whole (c ∷ p.path) in
        let other : not (place_along h rows c p.path == 0) ≡ true = split (place_along h rows c p.path == 0) (λ b. (place_along h rows c p.path == 0) ≡ b → not b ≡ true) (λ _ t. absurd (p.elsewhere refl (eqb-true (place_along h rows c p.path) 0 t))) (λ _ _. refl) refl in
        has_any (is_shifted_base h rows known) (preorder h c) s (has_of (preorder h c) s ((preorder_lists h c keeps).listed s (whole p.path p.leads)))
        (and_from (empties_in known (last_of c p.path)) (not (place_along h rows c p.path == 0)) p.is_empty other)
