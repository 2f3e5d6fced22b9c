-- The list of the virtual bases of a class has exactly these, each once.
use Rattle.std.proofs.Common.{◌≡◌, ℕ, ◌<◌, inl, inr, Option, Some, None, List, [], ◌∷◌, refl, ap, subst, sym, ◌∙◌}
use Rattle.std.specs.Prelude.{Contains}
use Rattle.std.specs.List.{filter_map, cons_option, slice_get}
use Rattle.cxx_hierarchy.specs.declared.records.ClassId.{ClassId}
use Rattle.cxx_hierarchy.specs.Classes.{Classes}
use Rattle.cxx_hierarchy.specs.Hierarchies.{IsHierarchy}
use Rattle.cxx_hierarchy.specs.VirtualBases.{HasVirtualBase}
use Rattle.foundation.proofs.Members.{Has, EachOnce, contains_from_has, has_from_contains, once_by_place}
use Rattle.foundation.proofs.Chosen.{has_filter_map, from_filter_map}
use Rattle.cxx_subobject.specs.declared.Subobject.{Subobject}
use Rattle.cxx_subobject.specs.Subobjects.{IsSubobject, whole, shared, shared_base}
use Rattle.cxx_subobject.specs.Preorder.{preorder}
use Rattle.cxx_subobject.specs.VirtualBases.{shared_class, virtual_bases}
use Rattle.cxx_subobject.proofs.PathLemmas.{virtual_below}
use Rattle.cxx_subobject.proofs.TreeLemmas.{preorder_has, has_preorder, preorder_once}

-- a subobject that is a virtual base, itself, is the one that all share
pub shared_is : (h : Classes) (c : ClassId) (s : Subobject) (v : ClassId) → IsSubobject h c s → shared_class s ≡ Some v → s ≡ shared_base v
shared_is h c _ v (whole path leads) e = let f : None ≡ Some v = e in cc
shared_is h c _ v (shared u [] has leads) e = let f : Some u ≡ Some v = e in let same : u ≡ v = cc in ap shared_base same
shared_is h c _ v (shared u (d ∷ path) has leads) e = let f : None ≡ Some v = e in cc

pub has_virtual : (h : Classes) → IsHierarchy h → (c v : ClassId) → HasVirtualBase h c v → Has (virtual_bases h c) v
has_virtual h keeps c v has = has_filter_map shared_class (preorder h c) (shared_base v) v (preorder_has h c keeps (shared_base v) (shared v [] has tt)) refl

pub virtual_has : (h : Classes) (c v : ClassId) → Has (virtual_bases h c) v → HasVirtualBase h c v
virtual_has h c v has =
    let r = from_filter_map shared_class (preorder h c) v has in
    by_root r.0 (has_preorder h c r.0 r.1) r.2
  where
    by_root : (s : Subobject) → IsSubobject h c s → shared_class s ≡ Some v → HasVirtualBase h c v
    by_root _ (whole path leads) e = let f : None ≡ Some v = e in cc
    by_root _ (shared u [] has leads) e = let f : Some u ≡ Some v = e in let same : u ≡ v = cc in subst (HasVirtualBase h c) same has
    by_root _ (shared u (d ∷ path) has leads) e = let f : None ≡ Some v = e in cc

pub virtual_listed : (h : Classes) → IsHierarchy h → (c v : ClassId) → HasVirtualBase h c v → Contains (virtual_bases h c) v
virtual_listed h keeps c v has = contains_from_has (virtual_bases h c) v (has_virtual h keeps c v has)

pub listed_virtual : (h : Classes) (c v : ClassId) → Contains (virtual_bases h c) v → HasVirtualBase h c v
listed_virtual h c v has = virtual_has h c v (has_from_contains (virtual_bases h c) v has)

pub listed_below : (h : Classes) → IsHierarchy h → (c v : ClassId) → Contains (virtual_bases h c) v → v.0 < c.0
listed_below h keeps c v has = virtual_below h keeps c v (listed_virtual h c v has)

chosen_once : (h : Classes) (c : ClassId) (list : List Subobject) → ((s : Subobject) → Has list s → IsSubobject h c s) → EachOnce list → EachOnce (filter_map shared_class list)
chosen_once h c [] valid once = tt
chosen_once h c (s ∷ list) valid once = at (shared_class s) refl (chosen_once h c list (λ t has. valid t (inr has)) once.1)
  where
    at : (o : Option ClassId) → shared_class s ≡ o → EachOnce (filter_map shared_class list) → EachOnce (cons_option o (filter_map shared_class list))
    at None e rest = rest
    at (Some v) e rest = (
      λ has.
          let r = from_filter_map shared_class list v has in
          let mine = shared_is h c s v (valid s (inl refl)) e in
          let its = shared_is h c r.0 v (valid r.0 (inr r.1)) r.2 in
          once.0 (subst (Has list) (its ∙ sym mine) r.1),
      rest,
    )

pub virtual_once : (h : Classes) (c : ClassId) → EachOnce (virtual_bases h c)
virtual_once h c = chosen_once h c (preorder h c) (has_preorder h c) (preorder_once h c)

pub virtual_places : (h : Classes) (c : ClassId) (i j : ℕ) (v : ClassId) → slice_get (virtual_bases h c) i ≡ Some v → slice_get (virtual_bases h c) j ≡ Some v → i ≡ j
virtual_places h c = once_by_place (virtual_bases h c) (virtual_once h c)
