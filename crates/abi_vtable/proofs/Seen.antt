-- Parts that have the same path in the complete object as in the view.
use Rattle.std.proofs.Common.{◌≡◌, Some, true, false, [], ◌∷◌, length, refl, ap, subst, sym, ◌∙◌, arith}
use Rattle.std.proofs.lemmas.List.{append-nil}
use Rattle.cxx_hierarchy.specs.declared.records.ClassId.{ClassId}
use Rattle.cxx_hierarchy.specs.Classes.{Classes}
use Rattle.cxx_subobject.specs.declared.Root.{Root}
use Rattle.cxx_subobject.specs.declared.Root.TheVariants.{Whole, Shared}
use Rattle.cxx_subobject.specs.declared.Subobject.{Subobject}
use Rattle.cxx_subobject.specs.Subobjects.{IsSubobject, whole, shared, subobject, join, same_root, class_of}
use Rattle.cxx_subobject.proofs.InsideLemmas.{join_shared, join_valid, whole_joined}
use Rattle.abi_slots.specs.Views.{View, IsView, seen}
use Rattle.abi_slots.proofs.Chains.{same_some}

below_shared : (outer s : Subobject) (r : Root) → s.root ≡ r → same_root r Whole ≡ false → s ≡ join outer s
below_shared outer s Whole e f = cc
below_shared outer s (Shared v) e f = ap (λ p. subobject s.root p) (sym (append-nil s.path)) ∙ join_shared outer s v e

-- a part below a virtual base
pub shared_alike : (x : View) (s : Subobject) → same_root s.root Whole ≡ false → s ≡ seen x s
shared_alike x s f = below_shared x.at_sub s s.root refl f

in_whole : (h : Classes) (c d : ClassId) (a s : Subobject) → IsSubobject h c a → class_of a ≡ Some d → IsSubobject h d s → same_root a.root Whole ≡ true → length a.path ≡ 1 → s ≡ join a s
in_whole h c d _ s (whole [] leads) class valid r one = let same : c ≡ d = same_some c d class in sym (whole_joined h c s (subst (λ e. IsSubobject h e s) (sym same) valid))
in_whole h c d _ s (whole (e ∷ path) leads) class valid r one = absurd (omega (arith, one))
in_whole h c d _ s (shared v path has leads) class valid r one = cc

-- any part of the whole
pub whole_alike : (h : Classes) (x : View) → IsView h x → (s : Subobject) → IsSubobject h x.class s → same_root x.at_sub.root Whole ≡ true → length x.at_sub.path ≡ 1 → s ≡ seen x s
whole_alike h x view s valid r one = in_whole h x.complete x.class x.at_sub s view.valid view.of_class valid r one

-- such a part is a subobject of the complete object
pub alike_valid : (h : Classes) (x : View) → IsView h x → (s : Subobject) → IsSubobject h x.class s → s ≡ seen x s → IsSubobject h x.complete s
alike_valid h x view s valid e = subst (λ a. IsSubobject h x.complete a) (sym e) (join_valid h x.complete x.class x.at_sub s view.valid view.of_class valid)
