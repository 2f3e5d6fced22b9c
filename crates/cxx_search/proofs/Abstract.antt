-- The search for a pure final overrider finds one exactly where a class is abstract.
use Rattle.std.proofs.Common.{◌≡◌, true, Option, Some, None, refl, ap, subst, sym, ◌∙◌}
use Rattle.cxx_hierarchy.specs.declared.records.ClassId.{ClassId}
use Rattle.cxx_hierarchy.specs.Classes.{Classes}
use Rattle.cxx_hierarchy.specs.Hierarchies.{IsHierarchy}
use Rattle.cxx_subobject.specs.declared.Subobject.{Subobject}
use Rattle.cxx_subobject.specs.Subobjects.{IsSubobject, whole_of, class_of}
use Rattle.cxx_subobject.specs.Preorder.{preorder}
use Rattle.cxx_subobject.proofs.TreeLemmas.{preorder_has, has_preorder}
use Rattle.cxx_overrider.specs.declared.Overrider.{Overrider}
use Rattle.cxx_overrider.specs.Functions.{is_pure}
use Rattle.cxx_overrider.specs.Overriding.{IsAbstract}
use Rattle.cxx_overrider.specs.Virtuals.{own}
use Rattle.foundation.proofs.Chosen.{any_has, has_any}
use Rattle.cxx_search.specs.Searches.{final_in, is_pure_overrider, has_pure_in, is_abstract}
use Rattle.cxx_search.proofs.Finals.{found_in_whole, whole_found}
use Rattle.cxx_search.proofs.Virtuals.{own_virtual, virtual_own}

pub pure_some : (h : Classes) (o : Option Overrider) → is_pure_overrider h o ≡ true → (p : Overrider) × (o ≡ Some p) × (is_pure h p.function ≡ true)
pure_some h None e = cc
pure_some h (Some p) e = (p, refl, e)

pub found_abstract : (h : Classes) → IsHierarchy h → (c : ClassId) → is_abstract h c ≡ true → IsAbstract h c
found_abstract h keeps c e =
    let r = any_has (λ s. has_pure_in h c s (class_of s)) (preorder h c) e in
    by_class r.item (has_preorder h c r.item r.has) (class_of r.item) refl r.passes
  where
    by_class : (s : Subobject) → IsSubobject h c s → (d : Option ClassId) → class_of s ≡ d → has_pure_in h c s d ≡ true → IsAbstract h c
    by_class s valid None class pure = cc
    by_class s valid (Some d) class pure =
        let f = any_has (λ g. is_pure_overrider h (final_in h (whole_of c) s g)) (own h d) pure in
        let is = own_virtual h d f.item f.has in
        let o = pure_some h (final_in h (whole_of c) s f.item) f.passes in
        record {
          subobject = s;
          function = f.item;
          of_class = record { valid = valid; class = class ∙ ap (λ a. Some a) (sym is.0); is_virtual = is.1 };
          overrider = o.0;
          final = found_in_whole h keeps c s f.item o.0 o.1;
          pure = o.2;
        }

pub abstract_found : (h : Classes) → IsHierarchy h → (c : ClassId) → IsAbstract h c → is_abstract h c ≡ true
abstract_found h keeps c k =
    let s = k.subobject in
    let f = k.function in
    let found = whole_found h keeps c s f k.overrider k.final in
    let pure : is_pure_overrider h (final_in h (whole_of c) s f) ≡ true = subst (λ o. is_pure_overrider h o ≡ true) (sym found) k.pure in
    let listed = virtual_own h keeps f.class f refl k.of_class.is_virtual in
    let here : has_pure_in h c s (Some f.class) ≡ true = has_any (λ g. is_pure_overrider h (final_in h (whole_of c) s g)) (own h f.class) f listed pure in
    has_any (λ z. has_pure_in h c z (class_of z)) (preorder h c) s (preorder_has h c keeps s k.of_class.valid) (subst (λ d. has_pure_in h c s d ≡ true) (sym k.of_class.class) here)
