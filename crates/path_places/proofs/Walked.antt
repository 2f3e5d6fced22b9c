-- To which members and which subobjects of a class a walk comes.
use Rattle.std.proofs.Common.{◌≡◌, ℕ, ◌<◌, ◌≤◌, ◌∙◌, Some, List, length, get_or, refl, ap, sym, subst, arith}
use Rattle.std.specs.Prelude.{slice_get}
use Rattle.std.proofs.lemmas.Option.{slice_get-get_or}
use Rattle.cxx_hierarchy.specs.declared.records.ClassId.{ClassId}
use Rattle.cxx_hierarchy.specs.declared.records.Member.{Member}
use Rattle.cxx_hierarchy.specs.Classes.{Class, Classes, class_at, members_of}
use Rattle.cxx_hierarchy.specs.Hierarchies.{IsHierarchy}
use Rattle.cxx_subobject.specs.declared.Subobject.{Subobject}
use Rattle.cxx_subobject.specs.Subobjects.{class_of}
use Rattle.cxx_subobject.specs.Preorder.{preorder}
use Rattle.cxx_subobject.proofs.PathLemmas.{class_low, class_found}
use Rattle.cxx_subobject.proofs.TreeLemmas.{valid_at}
use Rattle.path_numbers.proofs.Rows.{members_are}

-- the member stands at this place of the class
pub record IsMemberAt (h : Classes) (c : ClassId) (place : ℕ) (member : Member ClassId) : Type 0 where
  pub at : slice_get (members_of h c) place ≡ Some member
  pub below : place < length (members_of h c)

pub member_walked : (h : Classes) (c : ClassId) (x : Class) (list : List (Member ClassId)) → class_at h c ≡ Some x → list ≡ x.members → (place : ℕ) (member : Member ClassId) → place < length list → member ≡ get_or list place member → IsMemberAt h c place member
member_walked h c x list class members place member less is =
    let same = members_are h c x list class members in
    record {
      at = ap (λ (l : List (Member ClassId)). slice_get l place) (sym same) ∙ (slice_get-get_or list place member less ∙ ap (λ (y : Member ClassId). Some y) (sym is));
      below = subst (λ (l : List (Member ClassId)). place < length l) same less;
    }

-- so does a member of a number below as many as the class has
pub member_below : (h : Classes) (c : ClassId) (x : Class) → class_at h c ≡ Some x → (n : ℕ) → n ≡ length x.members → (m : ℕ) → m < n → m < length (members_of h c)
member_below h c x found n is m less =
    let same = ap (λ (l : List (Member ClassId)). length l) (members_are h c x x.members found refl) in
    omega (arith, is, less, same)

-- the class of a subobject of c does not stand behind c
pub base_walked : (h : Classes) → IsHierarchy h → (c : ClassId) (list : List Subobject) → list ≡ preorder h c → (i : ℕ) (s : Subobject) → i < length list → s ≡ get_or list i s → (d : ClassId) → ((e : ClassId) → class_of s ≡ Some e → d ≡ e) → d.0 ≤ c.0
base_walked h keeps c list is i s less at d told =
    let valid = valid_at h c list i s is less at in
    class_low h keeps c d s valid (class_found h c d s valid told)
