-- The classes to which an overriding function and the overridden one point.
use Rattle.std.proofs.Common.{◌≡◌, ⊎_elim, Bool, true, false, Option, Some, None, length, refl, ap, subst, sym, ◌∙◌}
use Rattle.std.specs.Prelude.{slice_get, nat_eq, ◌≢◌}
use Rattle.std.specs.List.{find}
use Rattle.std.proofs.lemmas.Bool.{eqb-true, eq-eqb}
use Rattle.cxx_hierarchy.specs.declared.records.ClassId.{ClassId}
use Rattle.cxx_hierarchy.specs.declared.records.Function.{Function}
use Rattle.cxx_hierarchy.specs.declared.records.ReturnType.{ReturnType}
use Rattle.cxx_hierarchy.specs.declared.records.ReturnType.TheVariants.{Value}
use Rattle.cxx_hierarchy.specs.declared.records.ValueType.TheVariants.{Pointer}
use Rattle.cxx_hierarchy.specs.Classes.{Class, Classes, class_at, functions_in}
use Rattle.cxx_hierarchy.specs.Hierarchies.{IsHierarchy}
use Rattle.cxx_subobject.specs.declared.Subobject.{Subobject}
use Rattle.cxx_subobject.specs.Subobjects.{class_of, is_class}
use Rattle.cxx_subobject.specs.Preorder.{preorder}
use Rattle.cxx_overrider.specs.declared.FunctionId.{FunctionId}
use Rattle.cxx_overrider.specs.Functions.{Signature, named, destructor, signature_at, signature_in, signature_of, return_at, return_of, pointee}
use Rattle.cxx_overrider.specs.Covariance.{Overrides, IsOnlyBase, PointsToDerived, FitsReturn}
use Rattle.cxx_overrider.specs.Faults.{HasNoFault}
use Rattle.cxx_overrider.proofs.ReturnLaws.{fits}
use Rattle.cxx_subobject.proofs.PathLemmas.{same_id}
use Rattle.abi_slots.specs.Listing.{base_of_class}
use Rattle.abi_slots.proofs.Lists.{any_item, found_passes, found_some}
use Rattle.abi_slots.proofs.Bases.{preorder_item, item_preorder}

-- a function has a return type where its signature has a name

abbrev has_return : Signature → Bool
has_return (named n types) = true
has_return destructor = false

abbrev is_filled : Option (ReturnType ClassId) → Bool
is_filled None = false
is_filled (Some t) = true

filled_at : (o : Option (Function ClassId)) (b : Bool) (s : Signature) → signature_at o b ≡ Some s → is_filled (return_at o) ≡ has_return s
filled_at None false s e = cc
filled_at None true s e = let same : destructor ≡ s = cc in ap has_return same
filled_at (Some f) b s e = let same : named f.name (Rattle.std.specs.Prelude.map (λ p. p.ty) f.params) ≡ s = cc in ap has_return same

filled : (h : Classes) (f : FunctionId) (s : Signature) → signature_of h f ≡ Some s → is_filled (return_of h f) ≡ has_return s
filled h f s e = by_class (class_at h f.class) e
  where
    by_class : (o : Option Class) → signature_in o f.index ≡ Some s → is_filled (return_at (slice_get (functions_in o) f.index)) ≡ has_return s
    by_class None is = cc
    by_class (Some class) is = filled_at (slice_get class.functions f.index) (nat_eq f.index (length class.functions)) s is

-- neither points to a class, or both to one, or the first one to a class that has the other's exactly once
pub data PointeesFit (h : Classes) : Option ClassId → Option ClassId → Type 0 where
  no_class : PointeesFit h None None
  same : (c : ClassId) → PointeesFit h (Some c) (Some c)
  derived : (x y : ClassId) (i : Subobject) → x ≢ y → IsOnlyBase h x y i → PointeesFit h (Some x) (Some y)

pub fits_itself : (h : Classes) (o : Option ClassId) → PointeesFit h o o
fits_itself h None = no_class
fits_itself h (Some c) = same c

type_itself : (h : Classes) (t : ReturnType ClassId) → PointeesFit h (pointee (Some t)) (pointee (Some t))
type_itself h t = fits_itself h (pointee (Some t))

types_fit : (h : Classes) (c : ClassId) (t u : ReturnType ClassId) → FitsReturn h c t u → PointeesFit h (pointee (Some t)) (pointee (Some u))
types_fit h c t u fit = ⊎_elim
    (λ e. subst (λ w. PointeesFit h (pointee (Some t)) (pointee (Some w))) e (type_itself h t))
    (λ (p : PointsToDerived h c t u).
    subst (λ w. PointeesFit h (pointee (Some w)) (pointee (Some u))) (sym p.covariant.derived)
    (subst (λ w. PointeesFit h (pointee (Some (Value (Pointer p.x)))) (pointee (Some w))) (sym p.covariant.base) (derived p.x p.y p.base p.covariant.differ p.only)))
    fit

pub pointees_fit : (h : Classes) → IsHierarchy h → HasNoFault h → (f g : FunctionId) → Overrides h f g → PointeesFit h (pointee (return_of h f)) (pointee (return_of h g))
pointees_fit h keeps fine f g k = by_returns (return_of h f) (return_of h g) refl refl (filled h f k.signature k.of_f ∙ sym (filled h g k.signature k.of_g))
  where
    by_returns : (o p : Option (ReturnType ClassId)) → return_of h f ≡ o → return_of h g ≡ p → is_filled o ≡ is_filled p → PointeesFit h (pointee o) (pointee p)
    by_returns None None a b e = no_class
    by_returns None (Some u) a b e = cc
    by_returns (Some t) None a b e = cc
    by_returns (Some t) (Some u) a b e = types_fit h f.class t u (fits h keeps fine f g k t u a b)

-- the base that is found

pub base_is_only : (h : Classes) → IsHierarchy h → (x y : ClassId) (i : Subobject) → IsOnlyBase h x y i → base_of_class h x y ≡ Some i
base_is_only h keeps x y i k =
    let test = λ (s : Subobject). is_class y (class_of s) in
    let passes : is_class y (class_of i) ≡ true = ap (is_class y) k.class ∙ eq-eqb y.0 y.0 refl in
    let r = found_some test (preorder h x) (any_item test (preorder h x) i (preorder_item h keeps x i k.valid) passes) in
    let there = found_passes test (preorder h x) r.0 r.1 in
    r.1 ∙ ap (λ a. Some a) (k.only r.0 (item_preorder h keeps x r.0 there.0) (told (class_of r.0) there.1))
  where
    told : (o : Option ClassId) → is_class y o ≡ true → o ≡ Some y
    told None e = cc
    told (Some c) e = ap (λ a. Some a) (same_id c y (sym (eqb-true y.0 c.0 e)))
