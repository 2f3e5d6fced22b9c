-- The final overriders by a table for a subobject are those of an object of its class.
use Rattle.std.proofs.Common.{◌≡◌, ◌≤◌, ◌⊎◌, ⊎_elim, Some, List, [], ◌∷◌, ◌++◌, refl, ap, subst, sym, ◌∙◌, arith, append_assoc}
use Rattle.cxx_hierarchy.specs.declared.records.ClassId.{ClassId}
use Rattle.cxx_hierarchy.specs.Classes.{Classes}
use Rattle.cxx_hierarchy.specs.Hierarchies.{IsHierarchy}
use Rattle.cxx_hierarchy.specs.VirtualBases.{HasVirtualBase}
use Rattle.cxx_subobject.specs.declared.Root.TheVariants.{Whole, Shared}
use Rattle.cxx_subobject.specs.declared.Subobject.{Subobject}
use Rattle.cxx_subobject.specs.Subobjects.{Leads, IsSubobject, whole, shared, subobject, whole_of, class_of, join}
use Rattle.cxx_subobject.specs.Inside.{IsInside}
use Rattle.cxx_subobject.proofs.InsideLemmas.{join_valid, join_class, join_inside, virtual_inside, whole_joined}
use Rattle.cxx_subobject.proofs.PathLemmas.{class_there, virtual_below, class_low}
use Rattle.cxx_overrider.specs.declared.FunctionId.{FunctionId}
use Rattle.cxx_overrider.specs.declared.Overrider.{Overrider}
use Rattle.cxx_overrider.specs.Functions.{Signature, overrider}
use Rattle.cxx_overrider.specs.Overriding.{IsCandidate, IsFinalOverrider, IsCandidateIn, IsFinalIn}
use Rattle.cxx_overrider.proofs.SettlingLemmas.{same_class, same_overrider}
use Rattle.cxx_overrider.proofs.Paths.{inside_antisymmetric}
use Rattle.cxx_overrider.proofs.Finals.{contains_by}
use Rattle.cxx_subobject.proofs.WalkLemmas.{placed_below}
use Rattle.cxx_overrider.proofs.Candidates.{longer_inside}
use Rattle.cxx_overrider.proofs.FinalLaws.{final_top, candidate_subobject}

same_front : (xs ys zs : List ClassId) → xs ++ ys ≡ xs ++ zs → ys ≡ zs
same_front [] ys zs e = e
same_front (x ∷ xs) ys zs e = same_front xs ys zs (let f : xs ++ ys ≡ xs ++ zs = cc in f)

module _ (h : Classes) (keeps : IsHierarchy h) (c d : ClassId) (x : Subobject) (there : IsSubobject h c x) (class : class_of x ≡ Some d) where
  -- no virtual base of a class among the parts of x is the root of x
  not_root : (e w : ClassId) → e.0 ≤ d.0 → HasVirtualBase h e w → x.root ≡ Shared w → ⊥
  not_root e w le has root = let a = placed_below h keeps c d w x there class root in let b = virtual_below h keeps e w has in omega arith

  -- what lies in a part of x, as subobjects of c, lies in it as subobjects of x's class
  pub inside_part : (a b : Subobject) → IsSubobject h d a → IsSubobject h d b → IsInside h (join x a) (join x b) → IsInside h a b
  inside_part a b va vb k =
      let e = class_there h d a va in
      by_parts a b va vb e.0 e.1 (contains_by h (join x a) (join x b) e.0 (join_class h d x a class va ∙ e.1) k) k
    where
      by_parts : (a b : Subobject) → IsSubobject h d a → IsSubobject h d b → (e : ClassId) → class_of a ≡ Some e →
          ((rest : List ClassId) × ((join x a).root ≡ (join x b).root) × ((join x b).path ≡ (join x a).path ++ rest)) ⊎ ((v : ClassId) × ((join x b).root ≡ Shared v) × HasVirtualBase h e v) →
          IsInside h (join x a) (join x b) → IsInside h a b
      by_parts _ _ (whole p l) (whole q m) e ea by k = ⊎_elim
          (λ front.
          let longer : x.path ++ q ≡ (x.path ++ p) ++ front.0 = front.2 in
          let tail : q ≡ p ++ front.0 = same_front x.path q (p ++ front.0) (longer ∙ append_assoc x.path p front.0) in
          subst (λ (z : List ClassId). IsInside h (subobject Whole (d ∷ p)) (subobject Whole (d ∷ z))) (sym tail) (longer_inside h Whole d p front.0 (subst (λ (z : List ClassId). Leads h d z) tail m)))
          (λ across. absurd (not_root e across.0 (class_low h keeps d e (subobject Whole (d ∷ p)) (whole p l) ea) across.2 across.1))
          by
      by_parts _ _ (whole p l) (shared v q has m) e ea by k = ⊎_elim
          (λ front. absurd (not_root d v (omega arith) has front.1))
          (λ across. let f : Shared v ≡ Shared across.0 = across.1 in let same : across.0 ≡ v = cc in virtual_inside h (subobject Whole (d ∷ p)) e v q ea (subst (λ (z : ClassId). HasVirtualBase h e z) same across.2) m)
          by
      by_parts _ _ (shared w p hw l) (whole q m) e ea by k = ⊎_elim
          (λ front. absurd (not_root d w (omega arith) hw (sym front.1)))
          (λ across. absurd (not_root e across.0 (class_low h keeps d e (subobject (Shared w) (w ∷ p)) (shared w p hw l) ea) across.2 across.1))
          by
      by_parts _ _ (shared w p hw l) (shared v q has m) e ea by k = k

  pub view_final : (s : Subobject) (f : FunctionId) (o : Overrider) → IsFinalOverrider h d s f o → IsFinalIn h c x (join x s) f (overrider (join x o.at) o.function)
  view_final s f o k =
      let cand = k.left.candidate in
      let valid = candidate_subobject h d s k.signature o cand in
      record {
        signature = k.signature;
        is = k.is;
        candidate = record {
          candidate = record {
            valid = join_valid h c d x o.at there class cand.valid;
            contains = join_inside h d x o.at s class cand.valid cand.contains;
            class = join_class h d x o.at class cand.valid ∙ cand.class;
            same = cand.same;
          };
          inside = record { class = d; of_class = class; part = o.at; valid = cand.valid; joined = refl };
        };
        all = λ p other.
            let part = other.inside.part in
            let one : other.inside.class ≡ d = let a = other.inside.of_class in let b = class in cc in
            let there_part : IsSubobject h d part = subst (λ (z : ClassId). IsSubobject h z part) one other.inside.valid in
            let at : p.at ≡ join x part = other.inside.joined in
            let in_part : IsInside h part s = inside_part part s there_part valid (subst (λ (z : Subobject). IsInside h z (join x s)) at other.candidate.contains) in
            let here : IsCandidate h d s k.signature (overrider part p.function) = record {
              valid = there_part;
              contains = in_part;
              class = sym (join_class h d x part class there_part) ∙ ap class_of (sym at) ∙ other.candidate.class;
              same = other.candidate.same;
            } in
            let inside = (final_top h keeps d s f o k).all (overrider part p.function) here in
            subst (λ (z : Subobject). IsInside h (join x o.at) z) (sym at) (join_inside h d x o.at part class cand.valid inside);
      }

-- of one view one at most
pub one_in_view : (h : Classes) → IsHierarchy h → (c : ClassId) (x s : Subobject) (f : FunctionId) (o p : Overrider) → IsFinalIn h c x s f o → IsFinalIn h c x s f p → o ≡ p
one_in_view h keeps c x s f o p a b =
    let one : a.signature ≡ b.signature = let u = a.is in let v = b.is in cc in
    let other : IsCandidateIn h c x s a.signature p = subst (λ (z : Signature). IsCandidateIn h c x s z p) (sym one) b.candidate in
    let mine : IsCandidateIn h c x s b.signature o = subst (λ (z : Signature). IsCandidateIn h c x s z o) one a.candidate in
    let at = inside_antisymmetric h keeps o.at p.at (a.all p other) (b.all o mine) in
    same_overrider o p at (same_class h keeps a.signature o.at p.at o.function p.function at a.candidate.candidate.class other.candidate.class a.candidate.candidate.same other.candidate.same)

pub whole_final : (h : Classes) → IsHierarchy h → (c : ClassId) (s : Subobject) (f : FunctionId) (o : Overrider) → IsFinalOverrider h c s f o → IsFinalIn h c (whole_of c) s f o
whole_final h keeps c s f o k = record {
  signature = k.signature;
  is = k.is;
  candidate = record {
    candidate = k.left.candidate;
    inside = record { class = c; of_class = refl; part = o.at; valid = k.left.candidate.valid; joined = (sym (whole_joined h c o.at k.left.candidate.valid)) };
  };
  all = λ p other. (final_top h keeps c s f o k).all p other.candidate;
}
