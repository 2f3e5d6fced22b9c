-- The final overrider of a function: the greatest one of a virtual base, or the first one on the path.
use Rattle.std.proofs.Common.{◌≡◌, ◌⊎◌, inl, inr, Some, List, [], ◌∷◌, ◌++◌, refl, ap, subst, sym, ◌∙◌}
use Rattle.cxx_hierarchy.specs.declared.records.ClassId.{ClassId}
use Rattle.cxx_hierarchy.specs.Classes.{Classes}
use Rattle.cxx_hierarchy.specs.Hierarchies.{IsHierarchy}
use Rattle.cxx_hierarchy.specs.VirtualBases.{HasVirtualBase}
use Rattle.cxx_subobject.specs.declared.Root.TheVariants.{Shared}
use Rattle.cxx_subobject.specs.declared.Subobject.{Subobject}
use Rattle.cxx_subobject.specs.Subobjects.{IsSubobject, whole, shared, last_of, class_of_path, class_of, join}
use Rattle.cxx_subobject.specs.Inside.{IsInside}
use Rattle.cxx_overrider.specs.declared.FunctionId.{FunctionId}
use Rattle.cxx_overrider.specs.declared.Overrider.{Overrider}
use Rattle.cxx_overrider.specs.Functions.{Signature, signature_of}
use Rattle.cxx_overrider.specs.Overriding.{IsCandidate, IsLeft, IsFinalOverrider}
use Rattle.cxx_overrider.specs.invariants.Pure.{DeclaresNone}
use Rattle.cxx_overrider.proofs.SettlingLemmas.{same_class, same_overrider}
use Rattle.cxx_overrider.proofs.Paths.{inside_antisymmetric}

-- a candidate that contains all others
pub record IsTopCandidate (h : Classes) (c : ClassId) (s : Subobject) (signature : Signature) (o : Overrider) : Type 0 where
  pub candidate : IsCandidate h c s signature o
  pub all : (p : Overrider) → IsCandidate h c s signature p → IsInside h o.at p.at

pub top_left : (h : Classes) → IsHierarchy h → (c : ClassId) (s : Subobject) (sig : Signature) (o : Overrider) → IsTopCandidate h c s sig o → IsLeft h c s sig o
top_left h keeps c s sig o top = record {
  candidate = top.candidate;
  uncontained = λ p cand inside.
      let same = inside_antisymmetric h keeps p.at o.at inside (top.all p cand) in
      same_overrider p o same (same_class h keeps sig p.at o.at p.function o.function same cand.class top.candidate.class cand.same top.candidate.same);
}

pub top_only : (h : Classes) (c : ClassId) (s : Subobject) (sig : Signature) (o p : Overrider) → IsTopCandidate h c s sig o → IsLeft h c s sig p → p ≡ o
top_only h c s sig o p top left = sym (left.uncontained o top.candidate (top.all p left.candidate))

pub top_final : (h : Classes) → IsHierarchy h → (c : ClassId) (s : Subobject) (f : FunctionId) (sig : Signature) (o : Overrider) → signature_of h f ≡ Some sig → IsTopCandidate h c s sig o → IsFinalOverrider h c s f o
top_final h keeps c s f sig o is top = record { signature = sig; is = is; left = top_left h keeps c s sig o top; only = λ p left. top_only h c s sig o p top left }

-- what contains a subobject: a front of its path, or one whose class has its root as a virtual base
abbrev pub ContainsBy : Classes → Subobject → Subobject → ClassId → Type 0
ContainsBy h t s d = ((rest : List ClassId) × (t.root ≡ s.root) × (s.path ≡ t.path ++ rest)) ⊎ ((v : ClassId) × (s.root ≡ Shared v) × HasVirtualBase h d v)

part_by : (h : Classes) (d : ClassId) (t part : Subobject) → IsSubobject h d part → ContainsBy h t (join t part) d
part_by h d t _ (whole q m) = inl (q, refl, refl)
part_by h d t _ (shared w q has m) = inr (w, refl, has)

pub contains_by : (h : Classes) (t s : Subobject) (d : ClassId) → class_of t ≡ Some d → IsInside h t s → ContainsBy h t s d
contains_by h t s d e k =
    let same : k.class ≡ d = let f = k.of_class in cc in
    subst (λ (x : Subobject). ContainsBy h t x d) (sym k.joined) (subst (λ (x : ClassId). ContainsBy h t (join t k.part) x) same (part_by h k.class t k.part k.valid))

-- the first function of the signature on a path, and the front of the path that ends there
pub data FirstOn (h : Classes) (sig : Signature) : List ClassId → List ClassId → FunctionId → Type 0 where
  found : (f : FunctionId) (rest : List ClassId) → signature_of h f ≡ Some sig → FirstOn h sig (f.class ∷ rest) (f.class ∷ []) f
  later : (d : ClassId) (rest front : List ClassId) (f : FunctionId) → DeclaresNone h d sig → FirstOn h sig rest front f → FirstOn h sig (d ∷ rest) (d ∷ front) f

pub first_front : (h : Classes) (sig : Signature) (path front : List ClassId) (f : FunctionId) → FirstOn h sig path front f → (rest : List ClassId) × (path ≡ front ++ rest)
first_front h sig _ _ _ (found f rest e) = (rest, refl)
first_front h sig _ _ _ (later d rest front f none k) = let r = first_front h sig rest front f k in (r.0, ap (λ x. d ∷ x) r.1)

pub first_same : (h : Classes) (sig : Signature) (path front : List ClassId) (f : FunctionId) → FirstOn h sig path front f → signature_of h f ≡ Some sig
first_same h sig _ _ _ (found f rest e) = e
first_same h sig _ _ _ (later d rest front f none k) = first_same h sig rest front f k

-- a front is not empty, and ends in the class of the function
pub record EndsAt (front : List ClassId) (d : ClassId) : Type 0 where
  pub first : ClassId
  pub more : List ClassId
  pub is : front ≡ first ∷ more
  pub last : last_of first more ≡ d

pub first_ends : (h : Classes) (sig : Signature) (path front : List ClassId) (f : FunctionId) → FirstOn h sig path front f → EndsAt front f.class
first_ends h sig _ _ _ (found f rest e) = record { first = f.class; more = []; is = refl; last = refl }
first_ends h sig _ _ _ (later d rest front f none k) =
    let r = first_ends h sig rest front f k in
    record { first = d; more = front; is = refl; last = ap (λ x. last_of d x) r.is ∙ r.last }

-- any front that ends in a class with such a function is longer
pub first_longer : (h : Classes) (sig : Signature) (path front : List ClassId) (f g : FunctionId) (other rest : List ClassId) → FirstOn h sig path front f → path ≡ other ++ rest → class_of_path other ≡ Some g.class → signature_of h g ≡ Some sig → (more : List ClassId) × (other ≡ front ++ more)
first_longer h sig _ _ _ g [] rest (found f r e) is class same = cc
first_longer h sig _ _ _ g (x ∷ other) rest (found f r e) is class same = let one : f.class ≡ x = cc in (other, ap (λ y. y ∷ other) (sym one))
first_longer h sig _ _ _ g [] rest (later d r front f none k) is class same = cc
first_longer h sig _ _ _ g (x ∷ []) rest (later d r front f none k) is class same =
    let one : d ≡ x = cc in let there : x ≡ g.class = cc in absurd (none.none g (sym (one ∙ there)) same)
first_longer h sig _ _ _ g (x ∷ y ∷ other) rest (later d r front f none k) is class same =
    let one : d ≡ x = cc in
    let below : r ≡ (y ∷ other) ++ rest = cc in
    let t = first_longer h sig r front f g (y ∷ other) rest k below class same in
    (t.0, ap (λ z. z ∷ y ∷ other) (sym one) ∙ ap (λ z. d ∷ z) t.1)
