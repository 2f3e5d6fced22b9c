-- The base of a class that a class has, as a function.
use Rattle.std.proofs.Common.{◌≡◌, inl, inr, ⊎_elim, ◌+◌, List, [], ◌∷◌, refl, ap, sym, ◌∙◌}
use Rattle.std.specs.Prelude.{filter}
use Rattle.foundation.proofs.Members.{Has, EachOnce}
use Rattle.foundation.proofs.Chosen.{has_filter, filter_has, once_filter}
use Rattle.cxx_hierarchy.specs.declared.records.ClassId.{ClassId}
use Rattle.cxx_hierarchy.specs.Classes.{Classes}
use Rattle.cxx_hierarchy.specs.Hierarchies.{IsHierarchy}
use Rattle.cxx_subobject.specs.declared.Subobject.{Subobject}
use Rattle.cxx_subobject.specs.Subobjects.{whole_of, class_of, is_of_class, IsOfClass}
use Rattle.cxx_subobject.specs.Preorder.{tree, preorder}
use Rattle.cxx_subobject.proofs.TreeLemmas.{preorder_has, has_preorder, firsts_once}
use Rattle.cxx_lookup.specs.Findings.{Finding, finds_none, finds_one, finds_more, the_only_found, base_by, IsBaseFinding}
use Rattle.cxx_lookup.proofs.OfClass.{tells_class, told_class}

-- the list has those of the class, each once
record AreOfClass (h : Classes) (c d : ClassId) (list : List Subobject) : Type 0 where
  valid : (s : Subobject) → Has list s → IsOfClass h c d s
  listed : (s : Subobject) → IsOfClass h c d s → Has list s
  once : EachOnce list

only_finding : (h : Classes) (c d : ClassId) (list : List Subobject) → AreOfClass h c d list → IsBaseFinding h c d (the_only_found list)
only_finding h c d [] are = λ s is. are.listed s is
only_finding h c d (one ∷ []) are = record { is = are.valid one (inl refl); only = λ s is. ⊎_elim (λ e. sym e) (λ none. absurd none) (are.listed s is) }
only_finding h c d (one ∷ other ∷ rest) are = record { one = one; other = other; is_one = are.valid one (inl refl); is_other = are.valid other (inr (inl refl)); differ = λ e. are.once.0 (inl (sym e)) }

of_class : (h : Classes) → IsHierarchy h → (c d : ClassId) → AreOfClass h c d (filter (is_of_class d) (preorder h c))
of_class h keeps c d = record {
  valid = λ s has. let k = has_filter (is_of_class d) (preorder h c) s has in record { valid = has_preorder h c s k.0; class = tells_class d s k.1 };
  listed = λ s is. filter_has (is_of_class d) (preorder h c) s (preorder_has h c keeps s is.valid) (told_class d s is.class);
  once = once_filter (is_of_class d) (preorder h c) (firsts_once (tree h (c.0 + 1) c (whole_of c)));
}

pub base_is : (h : Classes) → IsHierarchy h → (c d : ClassId) → IsBaseFinding h c d (base_by h c d)
base_is h keeps c d = only_finding h c d (filter (is_of_class d) (preorder h c)) (of_class h keeps c d)

-- two findings are one
same_base : (h : Classes) (c d : ClassId) (f g : Finding Subobject) → IsBaseFinding h c d f → IsBaseFinding h c d g → f ≡ g
same_base h c d finds_none finds_none a b = refl
same_base h c d finds_none (finds_one s) a b = absurd (a s b.is)
same_base h c d finds_none finds_more a b = absurd (a b.one b.is_one)
same_base h c d (finds_one s) finds_none a b = absurd (b s a.is)
same_base h c d (finds_one s) (finds_one t) a b = ap finds_one (b.only s a.is)
same_base h c d (finds_one s) finds_more a b = absurd (b.differ (a.only b.one b.is_one ∙ sym (a.only b.other b.is_other)))
same_base h c d finds_more finds_none a b = absurd (b a.one a.is_one)
same_base h c d finds_more (finds_one s) a b = absurd (a.differ (b.only a.one a.is_one ∙ sym (b.only a.other a.is_other)))
same_base h c d finds_more finds_more a b = refl

pub base_only : (h : Classes) → IsHierarchy h → (c d : ClassId) (f : Finding Subobject) → IsBaseFinding h c d f → f ≡ base_by h c d
base_only h keeps c d f is = same_base h c d f (base_by h c d) is (base_is h keeps c d)
