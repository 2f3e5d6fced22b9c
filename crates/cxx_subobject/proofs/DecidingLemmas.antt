-- What can be decided of classes and subobjects: which are one, and which lie where.
use Rattle.std.proofs.Common.{◌≡◌, ⊎_elim, inl, inr, true, Option, Some, None, [], refl, ap, subst, sym}
use Rattle.foundation.proofs.Deciding.{Decided, decide_flag, decide_number, decide_any}
use Rattle.cxx_hierarchy.specs.declared.records.ClassId.{ClassId}
use Rattle.cxx_hierarchy.specs.Classes.{Classes}
use Rattle.cxx_hierarchy.specs.Hierarchies.{IsHierarchy}
use Rattle.cxx_hierarchy.specs.VirtualBases.{HasVirtualBase}
use Rattle.cxx_subobject.specs.declared.Root.{Root}
use Rattle.cxx_subobject.specs.declared.Root.TheVariants.{Whole, Shared}
use Rattle.cxx_subobject.specs.declared.Subobject.{Subobject}
use Rattle.cxx_subobject.specs.Subobjects.{IsSubobject, whole, shared, class_of, shared_base, same_subobject}
use Rattle.cxx_subobject.specs.Inside.{IsInside}
use Rattle.cxx_subobject.specs.Preorder.{preorder}
use Rattle.cxx_subobject.specs.Inside.{is_longer}
use Rattle.cxx_subobject.specs.invariants.Tests.{ReachesRoot}
use Rattle.cxx_subobject.proofs.TreeLemmas.{preorder_has, has_preorder, subobject_same, same_itself}
use Rattle.cxx_subobject.proofs.TestLemmas.{inside_longer, longer_sound, inside_reached, inside_cases}

same_id : (x y : ClassId) → x.0 ≡ y.0 → x ≡ y
same_id x y e = let make : _ → ClassId = λ n. record { 0 = n } in let f : make x.0 ≡ make y.0 = ap make e in f

pub decide_class : (c d : ClassId) → Decided (c ≡ d)
decide_class c d = ⊎_elim (λ e. inl (same_id c d e)) (λ f. inr (λ e. f (ap (λ (x : ClassId). x.0) e))) (decide_number c.0 d.0)

pub decide_subobject : (s t : Subobject) → Decided (s ≡ t)
decide_subobject s t = ⊎_elim (λ e. inl (subobject_same s t e)) (λ not. inr (λ e. not (subst (λ (x : Subobject). same_subobject s x ≡ true) e (same_itself s)))) (decide_flag (same_subobject s t))

-- a subobject below a virtual base is one of a class that has that base
pub base_of_shared : (h : Classes) (c v : ClassId) (s : Subobject) → IsSubobject h c s → s.root ≡ Shared v → HasVirtualBase h c v
base_of_shared h c v _ (whole p l) e = absurd (let f : Whole ≡ Shared v = e in cc)
base_of_shared h c v _ (shared w p has l) e = let f : Shared w ≡ Shared v = e in let same : w ≡ v = cc in subst (λ (x : ClassId). HasVirtualBase h c x) same has

pub decide_virtual_base : (h : Classes) → IsHierarchy h → (c v : ClassId) → Decided (HasVirtualBase h c v)
decide_virtual_base h keeps c v = ⊎_elim
    (λ k. inl (base_of_shared h c v k.item (has_preorder h c k.item k.listed) (sym (ap (λ (x : Subobject). x.root) k.is))))
    (λ none. inr (λ has. none (shared_base v) (preorder_has h c keeps (shared_base v) (shared v [] has tt)) refl))
    (decide_any (λ (s : Subobject). shared_base v ≡ s) (preorder h c) (λ s has. decide_subobject (shared_base v) s))

decide_reach : (h : Classes) → IsHierarchy h → (class : Option ClassId) (root : Root) → Decided (ReachesRoot h class root)
decide_reach h keeps None root = inr (λ r. r)
decide_reach h keeps (Some c) Whole = inr (λ r. r)
decide_reach h keeps (Some c) (Shared v) = decide_virtual_base h keeps c v

pub decide_inside : (h : Classes) → IsHierarchy h → (c : ClassId) (s t : Subobject) → IsSubobject h c s → IsSubobject h c t → Decided (IsInside h s t)
decide_inside h keeps c s t vs vt = ⊎_elim
    (λ e. inl (inside_longer h c s t vs vt (longer_sound s t e)))
    (λ short. ⊎_elim (λ r. inl (inside_reached h c s t vt r)) (λ not. inr (λ k. ⊎_elim short not (inside_cases h s t k))) (decide_reach h keeps (class_of s) t.root))
    (decide_flag (is_longer s t))

pub decide_class_of : (o : Option ClassId) (d : ClassId) → Decided (o ≡ Some d)
decide_class_of None d = inr (λ e. cc)
decide_class_of (Some c) d = ⊎_elim (λ e. inl (ap (λ x. Some x) e)) (λ apart. inr (λ e. apart (let f : c ≡ d = cc in f))) (decide_class c d)
