-- Which candidate is the final overrider: on a path the first function of the signature, in a virtual base the greatest.
use Rattle.std.proofs.Common.{◌≡◌, Some, List, [], ◌∷◌, ◌++◌, refl, ap, subst, sym, ◌∙◌, append_assoc}
use Rattle.std.proofs.lemmas.List.{append-nil}
use Rattle.cxx_hierarchy.specs.declared.records.ClassId.{ClassId}
use Rattle.cxx_hierarchy.specs.Classes.{Classes}
use Rattle.cxx_subobject.specs.declared.Root.{Root}
use Rattle.cxx_subobject.specs.declared.Root.TheVariants.{Whole, Shared}
use Rattle.cxx_subobject.specs.declared.Subobject.{Subobject}
use Rattle.cxx_subobject.specs.Subobjects.{Leads, IsSubobject, whole, subobject, last_of, class_of_path, class_of}
use Rattle.cxx_subobject.specs.Inside.{IsInside}
use Rattle.cxx_subobject.proofs.PathLemmas.{leads_rest, leads_front, not_longer}
use Rattle.cxx_overrider.specs.declared.FunctionId.{FunctionId}
use Rattle.cxx_overrider.specs.declared.Overrider.{Overrider}
use Rattle.cxx_overrider.specs.declared.entries.Entry.{Entry}
use Rattle.cxx_overrider.specs.Functions.{Signature, signature_of, overrider}
use Rattle.cxx_overrider.specs.Overriding.{IsCandidate, IsLeft}
use Rattle.cxx_overrider.specs.invariants.Entries.{Tells}
use Rattle.cxx_overrider.specs.invariants.Pure.{DeclaresNone, StandsFirst, here, below}
use Rattle.cxx_overrider.proofs.Finals.{IsTopCandidate, FirstOn, found, later, first_longer}
use Rattle.cxx_overrider.proofs.OneFinal.{IsOnPath, greatest_contains, greatest_candidate}

-- which roots and first classes the paths of an object have
abbrev pub Starts : Classes → ClassId → Root → ClassId → Type 0
Starts h c root a = (p : List ClassId) → Leads h a p → IsSubobject h c (subobject root (a ∷ p))

-- what goes on from a path lies in it
pub longer_inside : (h : Classes) (root : Root) (a : ClassId) (p more : List ClassId) → Leads h a (p ++ more) → IsInside h (subobject root (a ∷ p)) (subobject root (a ∷ (p ++ more)))
longer_inside h root a p more l = record {
  class = last_of a p;
  of_class = refl;
  part = subobject Whole (last_of a p ∷ more);
  valid = whole more (leads_rest h a p more l);
  joined = refl;
}

-- the functions of the signature that stand first along a path
pub stands_on : (h : Classes) (sig : Signature) (a : ClassId) (p : List ClassId) (f : FunctionId) → StandsFirst h sig a p f → FirstOn h sig (a ∷ p) (a ∷ p) f
stands_on h sig _ _ _ (here f e) = found f [] e
stands_on h sig _ _ _ (below a b p f none d rest) = later a (b ∷ p) (b ∷ p) f none (stands_on h sig b p f rest)

pub stands_leads : (h : Classes) (sig : Signature) (a : ClassId) (p : List ClassId) (f : FunctionId) → StandsFirst h sig a p f → Leads h a p
stands_leads h sig _ _ _ (here f e) = tt
stands_leads h sig _ _ _ (below a b p f none d rest) = (d, stands_leads h sig b p f rest)

pub stands_last : (h : Classes) (sig : Signature) (a : ClassId) (p : List ClassId) (f : FunctionId) → StandsFirst h sig a p f → last_of a p ≡ f.class
stands_last h sig _ _ _ (here f e) = refl
stands_last h sig _ _ _ (below a b p f none d rest) = stands_last h sig b p f rest

pub stands_same : (h : Classes) (sig : Signature) (a : ClassId) (p : List ClassId) (f : FunctionId) → StandsFirst h sig a p f → signature_of h f ≡ Some sig
stands_same h sig _ _ _ (here f e) = e
stands_same h sig _ _ _ (below a b p f none d rest) = stands_same h sig b p f rest

pub first_of : (h : Classes) (sig : Signature) (a : ClassId) (p : List ClassId) (f : FunctionId) → Leads h a p → last_of a p ≡ f.class → signature_of h f ≡ Some sig → ((q rest : List ClassId) (b : ClassId) → p ≡ q ++ b ∷ rest → DeclaresNone h (last_of a q) sig) → StandsFirst h sig a p f
first_of h sig a [] f l last same none = subst (λ (x : ClassId). StandsFirst h sig x [] f) (sym last) (here f same)
first_of h sig a (b ∷ p) f l last same none = below a b p f (none [] p b refl) l.0 (first_of h sig b p f l.1 last same (λ q rest d e. none (b ∷ q) rest d (ap (λ x. b ∷ x) e)))

module _ (h : Classes) (c : ClassId) (root : Root) (a : ClassId) (path : List ClassId) (l : Leads h a path) (starts : Starts h c root a) (sig : Signature) where
  -- a candidate on the path that is left stands first there
  front_candidate : (q rest : List ClassId) (g : FunctionId) → path ≡ q ++ rest → g.class ≡ last_of a q → signature_of h g ≡ Some sig → IsCandidate h c (subobject root (a ∷ path)) sig (overrider (subobject root (a ∷ q)) g)
  front_candidate q rest g e class same =
      let split : Leads h a (q ++ rest) = subst (λ (x : List ClassId). Leads h a x) e l in
      record {
        valid = starts q (leads_front h a q rest split);
        contains = subst (λ (x : List ClassId). IsInside h (subobject root (a ∷ q)) (subobject root (a ∷ x))) (sym e) (longer_inside h root a q rest split);
        class = ap (λ x. Some x) (sym class);
        same = same;
      }

  left_at : (p rest : List ClassId) (o : Overrider) → o.at ≡ subobject root (a ∷ p) → path ≡ p ++ rest → IsLeft h c (subobject root (a ∷ path)) sig o → StandsFirst h sig a p o.function
  left_at p rest o at e left =
      let split : Leads h a (p ++ rest) = subst (λ (x : List ClassId). Leads h a x) e l in
      let front = leads_front h a p rest split in
      let class : Some (last_of a p) ≡ Some o.function.class = sym (ap class_of at) ∙ left.candidate.class in
      let last : last_of a p ≡ o.function.class = cc in
      first_of h sig a p o.function front last left.candidate.same
      (λ q more b f. record {
        none = λ g in_class same.
            let whole_path : path ≡ q ++ ((b ∷ more) ++ rest) = e ∙ ap (λ (x : List ClassId). x ++ rest) f ∙ append_assoc q (b ∷ more) rest in
            let k = front_candidate q ((b ∷ more) ++ rest) g whole_path in_class same in
            let l_more : Leads h a (q ++ b ∷ more) = subst (λ (x : List ClassId). Leads h a x) f front in
            let inside : IsInside h (subobject root (a ∷ q)) o.at = subst (λ (x : Subobject). IsInside h (subobject root (a ∷ q)) x) (sym at)
            (subst (λ (x : List ClassId). IsInside h (subobject root (a ∷ q)) (subobject root (a ∷ x))) (sym f) (longer_inside h root a q (b ∷ more) l_more)) in
            let one = left.uncontained (overrider (subobject root (a ∷ q)) g) k inside in
            let same_at : subobject root (a ∷ q) ≡ o.at = ap (λ (x : Overrider). x.at) one in
            let paths : a ∷ q ≡ a ∷ p = ap (λ (s : Subobject). s.path) (same_at ∙ at) in
            let tails : q ≡ p = cc in
            not_longer q more b (tails ∙ f);
      })

  pub left_first : (o : Overrider) → IsOnPath (subobject root (a ∷ path)) o.at → IsLeft h c (subobject root (a ∷ path)) sig o → (p : List ClassId) × StandsFirst h sig a p o.function
  left_first o on left = by_path o.at.path refl
    where
      by_path : (q : List ClassId) → o.at.path ≡ q → (p : List ClassId) × StandsFirst h sig a p o.function
      by_path [] e = let k : class_of_path o.at.path ≡ Some o.function.class = left.candidate.class in let f : class_of_path [] ≡ Some o.function.class = subst (λ (x : List ClassId). class_of_path x ≡ Some o.function.class) e k in cc
      by_path (d ∷ p) e =
          let fronts : a ∷ path ≡ d ∷ (p ++ on.rest) = on.path ∙ ap (λ (x : List ClassId). x ++ on.rest) e in
          let head : d ≡ a = cc in
          let tail : path ≡ p ++ on.rest = cc in
          let make : Root → List ClassId → Subobject = λ r x. subobject r x in
          let at : o.at ≡ subobject root (a ∷ p) = ap (λ r. make r o.at.path) on.root ∙ ap (λ x. make root x) (e ∙ ap (λ x. x ∷ p) head) in
          (p, left_at p on.rest o at tail left)

  -- a function that stands first at the end of the path is its own final overrider there
  pub first_top : (f : FunctionId) → StandsFirst h sig a path f → ((o : Overrider) → IsCandidate h c (subobject root (a ∷ path)) sig o → IsOnPath (subobject root (a ∷ path)) o.at) → IsTopCandidate h c (subobject root (a ∷ path)) sig (overrider (subobject root (a ∷ path)) f)
  first_top f first on_path = record {
    candidate = front_candidate path [] f (sym (append-nil path)) (sym (stands_last h sig a path f first)) (stands_same h sig a path f first);
    all = λ o k.
        let on = on_path o k in
        let more = first_longer h sig (a ∷ path) (a ∷ path) f o.function o.at.path on.rest (stands_on h sig a path f first) on.path k.class k.same in
        let make : Root → List ClassId → Subobject = λ r x. subobject r x in
        let at : o.at ≡ subobject root (a ∷ (path ++ more.0)) = ap (λ r. make r o.at.path) on.root ∙ ap (λ x. make root x) more.1 in
        let fronts : a ∷ path ≡ a ∷ ((path ++ more.0) ++ on.rest) = on.path ∙ ap (λ (x : List ClassId). x ++ on.rest) more.1 in
        let tail : path ≡ (path ++ more.0) ++ on.rest = cc in
        let longer = leads_front h a (path ++ more.0) on.rest (subst (λ (x : List ClassId). Leads h a x) tail l) in
        subst (λ (x : Subobject). IsInside h (subobject root (a ∷ path)) x) (sym at) (longer_inside h root a path more.0 longer);
  }

-- the greatest one is the final overrider in a virtual base
pub greatest_top : (h : Classes) (c v : ClassId) (path : List ClassId) (sig : Signature) (e : Entry) → (t : Tells h c v sig e) → IsSubobject h c (subobject (Shared v) path) → IsTopCandidate h c (subobject (Shared v) path) sig (overrider t.subobject e.function)
greatest_top h c v path sig e t valid = record { candidate = greatest_candidate h c v path sig e t valid; all = λ o k. greatest_contains h c v path sig e o t k }
