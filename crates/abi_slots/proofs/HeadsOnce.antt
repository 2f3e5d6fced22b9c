-- Each subobject of a view has its table once.
use Rattle.std.proofs.Common.{◌≡◌, ℕ, Some, List, [], ◌∷◌, subst, sym, ◌∙◌, ⊎_elim}
use Rattle.std.specs.Prelude.{slice_get}
use Rattle.std.specs.List.{flat_map}
use Rattle.cxx_hierarchy.specs.declared.records.ClassId.{ClassId}
use Rattle.cxx_hierarchy.specs.Classes.{Classes}
use Rattle.cxx_subobject.specs.declared.Root.{Root}
use Rattle.cxx_subobject.specs.declared.Root.TheVariants.{Whole, Shared}
use Rattle.cxx_subobject.specs.declared.Subobject.{Subobject}
use Rattle.cxx_subobject.specs.Subobjects.{same_root, IsSubobject}
use Rattle.cxx_subobject.specs.Preorder.{preorder}
use Rattle.cxx_subobject.specs.VirtualBases.{virtual_bases}
use Rattle.cxx_subobject.proofs.TreeLemmas.{root_same, preorder_once, has_preorder}
use Rattle.cxx_subobject.proofs.VirtualBaseLemmas.{virtual_once}
use Rattle.foundation.proofs.Members.{Has, EachOnce, EachApart, AreApart, from_flat_map, once_append, once_flat_map, once_by_place, has_cases}
use Rattle.foundation.proofs.Chosen.{has_filter, once_filter}
use Rattle.abi_sound.specs.Places.{Places}
use Rattle.abi_slots.specs.Views.{View, is_head, of_root, by_part, heads}

has_root : (h : Classes) (c : ClassId) (root : Root) (s : Subobject) → Has (of_root root (preorder h c)) s → root ≡ s.root
has_root h c root s i = root_same root s.root (has_filter (λ (t : Subobject). same_root root t.root) (preorder h c) s i).1

root_once : (h : Classes) (c : ClassId) (root : Root) → EachOnce (of_root root (preorder h c))
root_once h c root = once_filter (λ (t : Subobject). same_root root t.root) (preorder h c) (preorder_once h c)

roots_apart : (h : Classes) (c : ClassId) (q r : Root) → (q ≡ r → ⊥) → AreApart (of_root q (preorder h c)) (of_root r (preorder h c))
roots_apart h c q r differ = record { none = λ s a b. differ (has_root h c q s a ∙ sym (has_root h c r s b)) }

bases_apart : (h : Classes) (c : ClassId) (list : List ClassId) → EachOnce list → EachApart (λ v. of_root (Shared v) (preorder h c)) list
bases_apart h c [] once = tt
bases_apart h c (v ∷ list) once = ((λ w i. roots_apart h c (Shared v) (Shared w) (λ same. once.0 (let e : w ≡ v = cc in subst (λ a. Has list a) e i))), bases_apart h c list once.1)

pub parts_once : (h : Classes) (c : ClassId) → EachOnce (by_part h c)
parts_once h c = once_append (of_root Whole (preorder h c)) (flat_map (λ v. of_root (Shared v) (preorder h c)) (virtual_bases h c))
    (root_once h c Whole)
    (once_flat_map (λ v. of_root (Shared v) (preorder h c)) (virtual_bases h c) (λ v i. root_once h c (Shared v)) (bases_apart h c (virtual_bases h c) (virtual_once h c)))
    (record { none = λ s a b. let r = from_flat_map (λ v. of_root (Shared v) (preorder h c)) (virtual_bases h c) s b in let e = has_root h c Whole s a in let f = has_root h c (Shared r.0) s r.2 in let g : Whole ≡ Shared r.0 = e ∙ sym f in absurd (cc) })

pub part_valid : (h : Classes) (c : ClassId) (t : Subobject) → Has (by_part h c) t → IsSubobject h c t
part_valid h c t has = has_preorder h c t (⊎_elim
    (λ a. (has_filter (λ (z : Subobject). same_root Whole z.root) (preorder h c) t a).0)
    (λ a. let m = from_flat_map (λ (v : ClassId). of_root (Shared v) (preorder h c)) (virtual_bases h c) t a in (has_filter (λ (z : Subobject). same_root (Shared m.0) z.root) (preorder h c) t m.2).0)
    (has_cases (of_root Whole (preorder h c)) _ t has))

pub one_number : (h : Classes) (l : Places) (x : View) (m n : ℕ) (t : Subobject) → slice_get (heads h l x) m ≡ Some t → slice_get (heads h l x) n ≡ Some t → m ≡ n
one_number h l x m n t a b = once_by_place (heads h l x) (once_filter (is_head h l x) (by_part h x.class) (parts_once h x.class)) m n t a b
