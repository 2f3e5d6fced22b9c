-- The search for a final overrider in a view finds it.
use Rattle.std.proofs.Common.{◌≡◌, Option, Some, None, [], refl, ap, subst, sym, ◌∙◌}
use Rattle.std.specs.List.{filter}
use Rattle.cxx_hierarchy.specs.declared.records.ClassId.{ClassId}
use Rattle.cxx_hierarchy.specs.Classes.{Classes}
use Rattle.cxx_hierarchy.specs.Hierarchies.{IsHierarchy}
use Rattle.cxx_subobject.specs.declared.Subobject.{Subobject}
use Rattle.cxx_subobject.specs.Subobjects.{IsSubobject, whole, whole_of, class_of, join}
use Rattle.cxx_subobject.specs.Inside.{IsInside}
use Rattle.cxx_subobject.proofs.InsideLemmas.{join_class, whole_inside, inside_valid}
use Rattle.cxx_overrider.specs.declared.FunctionId.{FunctionId}
use Rattle.cxx_overrider.specs.declared.Overrider.{Overrider}
use Rattle.cxx_overrider.specs.Functions.{Signature, signature_of, overrider}
use Rattle.cxx_overrider.specs.Faults.{HasNoFault}
use Rattle.cxx_overrider.specs.Overriding.{IsVirtual, IsFinalOverrider, IsCandidateIn, IsFinalIn}
use Rattle.cxx_overrider.specs.Virtuals.{same_name, declared}
use Rattle.cxx_overrider.proofs.Finals.{top_final}
use Rattle.cxx_overrider.proofs.FinalLaws.{some_final}
use Rattle.cxx_overrider.proofs.ViewLaws.{view_final, one_in_view, whole_final}
use Rattle.foundation.proofs.Members.{Has, has_map, from_map, has_flat_map, from_flat_map}
use Rattle.foundation.proofs.Chosen.{has_filter, filter_has, all_each, each_all, find_passes}
use Rattle.cxx_search.specs.Searches.{subobjects_under, is_within, overriders_in, contains_all, candidates, final_in}
use Rattle.cxx_search.proofs.Finding.{finds_some}
use Rattle.cxx_search.proofs.Within.{parts_inside, inside_parts, within_inside, inside_within}
use Rattle.cxx_search.proofs.Names.{name_signature, signature_name}
use Rattle.cxx_search.proofs.Declares.{signature_declared, declared_class}

module _ (h : Classes) (keeps : IsHierarchy h) (c : ClassId) (x : Subobject) (there : IsSubobject h c x) (y : Subobject) (f : FunctionId) where
  -- a candidate, with the signature that it shares with f
  record Shares (o : Overrider) : Type 0 where
    pub signature : Signature
    pub is : signature_of h f ≡ Some signature
    pub candidate : IsCandidateIn h c x y signature o

  found_shares : (o : Overrider) → Has (candidates h x y f) o → Shares o
  found_shares o has =
      let r = from_flat_map (λ t. overriders_in h f t (class_of t)) (filter (λ t. is_within h t y) (subobjects_under h x)) o has in
      let t = r.0 in
      let part = has_filter (λ z. is_within h z y) (subobjects_under h x) t r.1 in
      by_class t (parts_inside h x t part.0) (within_inside h t y part.1) (class_of t) refl r.2
    where
      by_class : (t : Subobject) → IsInside h x t → IsInside h t y → (d : Option ClassId) → class_of t ≡ d → Has (overriders_in h f t d) o → Shares o
      by_class t inside contains None class listed = absurd listed
      by_class t inside contains (Some d) class listed =
          let m = from_map (overrider t) (filter (same_name h f) (declared h d)) o listed in
          let g = m.0 in
          let of_name = has_filter (same_name h f) (declared h d) g m.1 in
          let names = name_signature h f g of_name.1 in
          let cand : IsCandidateIn h c x y names.0 (overrider t g) = record {
            candidate = record {
              valid = inside_valid h c x t there inside;
              contains = contains;
              class = class ∙ ap (λ a. Some a) (sym (declared_class h d g of_name.0));
              same = names.2;
            };
            inside = inside;
          } in
          record { signature = names.0; is = names.1; candidate = subst (λ p. IsCandidateIn h c x y names.0 p) m.2 cand }

  shares_found : (o : Overrider) (signature : Signature) → signature_of h f ≡ Some signature → IsCandidateIn h c x y signature o → Has (candidates h x y f) o
  shares_found o signature is k =
      let cand = k.candidate in
      let part = filter_has (λ z. is_within h z y) (subobjects_under h x) o.at (inside_parts h keeps x o.at k.inside) (inside_within h keeps o.at y cand.contains) in
      let named = filter_has (same_name h f) (declared h o.function.class) o.function (signature_declared h keeps o.function signature cand.same) (signature_name h f o.function signature is cand.same) in
      let listed = has_map (overrider o.at) (filter (same_name h f) (declared h o.function.class)) o.function named in
      let here : Has (overriders_in h f o.at (class_of o.at)) o = subst (λ d. Has (overriders_in h f o.at d) o) (sym cand.class) listed in
      has_flat_map (λ t. overriders_in h f t (class_of t)) (filter (λ t. is_within h t y) (subobjects_under h x)) o.at o part here

  pub found_final : (o : Overrider) → final_in h x y f ≡ Some o → IsFinalIn h c x y f o
  found_final o e =
      let r = find_passes (contains_all h (candidates h x y f)) (candidates h x y f) o e in
      let k = found_shares o r.0 in
      record {
        signature = k.signature;
        is = k.is;
        candidate = k.candidate;
        all = λ p cand. within_inside h o.at p.at (all_each (λ other. is_within h o.at other.at) (candidates h x y f) r.1 p (shares_found p k.signature k.is cand));
      }

  pub final_found : (o : Overrider) → IsFinalIn h c x y f o → final_in h x y f ≡ Some o
  final_found o k =
      let all = each_all (λ other. is_within h o.at other.at) (candidates h x y f) (λ p has.
      let s = found_shares p has in
      let one : s.signature ≡ k.signature = let a = s.is in let b = k.is in cc in
      inside_within h keeps o.at p.at (k.all p (subst (λ z. IsCandidateIn h c x y z p) one s.candidate))) in
      let some = finds_some (contains_all h (candidates h x y f)) (candidates h x y f) o (shares_found o k.signature k.is k.candidate) all in
      some.1 ∙ ap (λ p. Some p) (one_in_view h keeps c x y f some.0 o (found_final some.0 some.1) k)

  -- where no condition refuses the hierarchy there is one
  pub some_found : HasNoFault h → IsInside h x y → class_of y ≡ Some f.class → IsVirtual h f → (o : Overrider) × (final_in h x y f ≡ Some o)
  some_found fine inside class is =
      let part = inside.part in
      let same : class_of part ≡ Some f.class = sym (join_class h inside.class x part inside.of_class inside.valid) ∙ ap class_of (sym inside.joined) ∙ class in
      let k = some_final h keeps fine inside.class part f (record { valid = inside.valid; class = same; is_virtual = is }) in
      let view = view_final h keeps c inside.class x there inside.of_class part f k.0 k.1 in
      let o = overrider (join x k.0.at) k.0.function in
      (o, final_found o (subst (λ z. IsFinalIn h c x z f o) (sym inside.joined) view))

-- in the view of the whole object it is the final overrider
view_of_whole : (h : Classes) → IsHierarchy h → (c : ClassId) (y : Subobject) (f : FunctionId) (o : Overrider) → IsFinalIn h c (whole_of c) y f o → IsFinalOverrider h c y f o
view_of_whole h keeps c y f o k = top_final h keeps c y f k.signature o k.is (record { candidate = k.candidate.candidate; all = λ p cand. k.all p (record { candidate = cand; inside = whole_inside h c p.at cand.valid }) })

pub found_in_whole : (h : Classes) → IsHierarchy h → (c : ClassId) (y : Subobject) (f : FunctionId) (o : Overrider) → final_in h (whole_of c) y f ≡ Some o → IsFinalOverrider h c y f o
found_in_whole h keeps c y f o e = view_of_whole h keeps c y f o (found_final h keeps c (whole_of c) (whole [] tt) y f o e)

pub whole_found : (h : Classes) → IsHierarchy h → (c : ClassId) (y : Subobject) (f : FunctionId) (o : Overrider) → IsFinalOverrider h c y f o → final_in h (whole_of c) y f ≡ Some o
whole_found h keeps c y f o k = final_found h keeps c (whole_of c) (whole [] tt) y f o (whole_final h keeps c y f o k)
