-- Final overriders: where no class has two, there is one, and it contains every other candidate.
use Rattle.std.proofs.Common.{◌≡◌, ◌≢◌, ◌+◌, ◌<◌, ◌⊎◌, inl, inr, ⊎_elim, Option, Some, None, [], ◌∷◌, length, refl, ap, subst, sym, ◌∙◌, arith}
use Rattle.std.specs.List.{Contains}
use Rattle.cxx_hierarchy.specs.declared.records.ClassId.{ClassId}
use Rattle.cxx_hierarchy.specs.declared.records.Base.{Base}
use Rattle.cxx_hierarchy.specs.Classes.{Class, Classes, class_at, bases_in, functions_of}
use Rattle.cxx_hierarchy.specs.Hierarchies.{IsHierarchy}
use Rattle.cxx_hierarchy.specs.VirtualBases.{IsDirectBase, HasVirtualBase, direct, further}
use Rattle.cxx_subobject.specs.declared.Subobject.{Subobject}
use Rattle.cxx_subobject.specs.Subobjects.{IsSubobject, whole, shared, class_of}
use Rattle.cxx_subobject.specs.Inside.{IsInside}
use Rattle.cxx_subobject.specs.Preorder.{preorder}
use Rattle.cxx_subobject.proofs.TreeLemmas.{preorder_has, has_preorder}
use Rattle.cxx_subobject.proofs.InsideLemmas.{join_valid, inside_itself, inside_same, inside_through}
use Rattle.cxx_subobject.proofs.PathLemmas.{class_there}
use Rattle.cxx_overrider.specs.declared.FunctionId.{FunctionId}
use Rattle.cxx_overrider.specs.declared.Overrider.{Overrider}
use Rattle.cxx_overrider.specs.Functions.{Signature, signature_of, overrider}
use Rattle.cxx_overrider.specs.Overriding.{IsVirtualIn, IsCandidate, IsLeft, IsFinalOverrider, HasTwoFinalOverriders}
use Rattle.cxx_overrider.specs.Virtuals.{function_at}
use Rattle.cxx_overrider.specs.Faults.{HasNoFault, two_overriders, spot, overrider_part}
use Rattle.cxx_overrider.specs.invariants.Pure.{DeclaresNone}
use Rattle.foundation.proofs.Places.{get_within}
use Rattle.cxx_overrider.proofs.Numbering.{signature_index, signature_class}
use Rattle.cxx_overrider.proofs.SettlingLemmas.{same_class, same_overrider}
use Rattle.cxx_overrider.proofs.Paths.{inside_antisymmetric}
use Rattle.cxx_overrider.proofs.Finals.{IsTopCandidate, top_final}
use Rattle.foundation.proofs.Deciding.{Decided, decide_below}
use Rattle.cxx_subobject.proofs.DecidingLemmas.{decide_inside}
use Rattle.cxx_overrider.proofs.Deciding.{decide_some}
use Rattle.foundation.proofs.Greatest.{IsHigh, IsOverAll, IsOrderOn, high_over, top_or_two}

-- a class declares a function of the signature
pub record DeclaresSome (h : Classes) (d : ClassId) (signature : Signature) : Type 0 where
  pub function : FunctionId
  pub class : function.class ≡ d
  pub same : signature_of h function ≡ Some signature

pub decide_declares : (h : Classes) (d : ClassId) (sig : Signature) → DeclaresSome h d sig ⊎ DeclaresNone h d sig
decide_declares h d sig = ⊎_elim
    (λ k. inl (record { function = function_at d k.number; class = refl; same = k.is }))
    (λ none. inr (record {
      none = λ f class same. none f.index (subst (λ (x : ClassId). f.index < length (functions_of h x) + 1) class (signature_index h f sig same))
          (subst (λ (x : ClassId). signature_of h (function_at x f.index) ≡ Some sig) class same);
    }))
    (decide_below (λ i. signature_of h (function_at d i) ≡ Some sig) (length (functions_of h d) + 1) (λ i lt. decide_some (signature_of h (function_at d i)) sig))

-- a subobject with a candidate
pub record IsCandidateAt (h : Classes) (c : ClassId) (s : Subobject) (signature : Signature) (t : Subobject) : Type 0 where
  pub function : FunctionId
  pub candidate : IsCandidate h c s signature (overrider t function)

pub decide_candidate : (h : Classes) → IsHierarchy h → (c : ClassId) (s : Subobject) (sig : Signature) (t : Subobject) → IsSubobject h c s → IsSubobject h c t → Decided (IsCandidateAt h c s sig t)
decide_candidate h keeps c s sig t valid there =
    let d = class_there h c t there in
    ⊎_elim
    (λ k. ⊎_elim
    (λ inside. inl (record {
      function = k.function;
      candidate = record { valid = there; contains = inside; class = d.1 ∙ ap (λ (x : ClassId). Some x) (sym k.class); same = k.same };
    }))
    (λ outside. inr (λ at. outside at.candidate.contains))
    (decide_inside h keeps c t s there valid))
    (λ none. inr (λ at. none.none at.function (let a = at.candidate.class in let b = d.1 in let f : at.function.class ≡ d.0 = cc in f) at.candidate.same))
    (decide_declares h d.0 sig)

pub candidate_order : (h : Classes) → IsHierarchy h → (c : ClassId) (s : Subobject) (sig : Signature) → IsSubobject h c s → IsOrderOn (IsCandidateAt h c s sig) (IsInside h) (preorder h c)
candidate_order h keeps c s sig valid = record {
  has = λ t listed. decide_candidate h keeps c s sig t valid (has_preorder h c t listed);
  over = λ t u a b. decide_inside h keeps c t u a.candidate.valid b.candidate.valid;
  itself = λ t a. inside_itself h c t a.candidate.valid;
  through = λ t u w a b. inside_through h t u w a b;
}

-- the two ends of the choice
pub over_all_top : (h : Classes) → IsHierarchy h → (c : ClassId) (s : Subobject) (sig : Signature) (t : Subobject) → (k : IsOverAll (IsCandidateAt h c s sig) (IsInside h) (preorder h c) t) → IsTopCandidate h c s sig (overrider t k.is.function)
over_all_top h keeps c s sig t k = record {
  candidate = k.is.candidate;
  all = λ p cand. k.all p.at (preorder_has h c keeps p.at cand.valid) (record { function = p.function; candidate = cand });
}

pub high_left : (h : Classes) → IsHierarchy h → (c : ClassId) (s : Subobject) (sig : Signature) (t : Subobject) → (k : IsHigh (IsCandidateAt h c s sig) (IsInside h) (preorder h c) t) → IsLeft h c s sig (overrider t k.is.function)
high_left h keeps c s sig t k = record {
  candidate = k.is.candidate;
  uncontained = λ p cand inside.
      let back = k.high p.at (preorder_has h c keeps p.at cand.valid) (record { function = p.function; candidate = cand }) inside in
      let same = inside_antisymmetric h keeps p.at t inside back in
      same_overrider p (overrider t k.is.function) same (same_class h keeps sig p.at t p.function k.is.function same cand.class k.is.candidate.class cand.same k.is.candidate.same);
}

-- a final overrider contains all candidates, since one that it does not contain lies in another one that is left
pub candidate_subobject : (h : Classes) (c : ClassId) (s : Subobject) (sig : Signature) (o : Overrider) → IsCandidate h c s sig o → IsSubobject h c s
candidate_subobject h c s sig o k = subst (λ (x : Subobject). IsSubobject h c x) (sym k.contains.joined) (join_valid h c k.contains.class o.at k.contains.part k.valid k.contains.of_class k.contains.valid)

pub final_top : (h : Classes) → IsHierarchy h → (c : ClassId) (s : Subobject) (f : FunctionId) (o : Overrider) → (k : IsFinalOverrider h c s f o) → IsTopCandidate h c s k.signature o
final_top h keeps c s f o k = record {
  candidate = k.left.candidate;
  all = λ p cand.
      let valid = candidate_subobject h c s k.signature p cand in
      let high = high_over (IsCandidateAt h c s k.signature) (IsInside h) (preorder h c) (candidate_order h keeps c s k.signature valid) p.at (record { function = p.function; candidate = cand }) in
      let one : overrider high.top high.high.is.function ≡ o = k.only (overrider high.top high.high.is.function) (high_left h keeps c s k.signature high.top high.high) in
      subst (λ (x : Overrider). IsInside h x.at p.at) one high.over;
}

pub contains_all : (h : Classes) → IsHierarchy h → (c : ClassId) (s : Subobject) (f : FunctionId) (sig : Signature) (o p : Overrider) → IsFinalOverrider h c s f o → signature_of h f ≡ Some sig → IsCandidate h c s sig p → IsInside h o.at p.at
contains_all h keeps c s f sig o p k same cand =
    let one : sig ≡ k.signature = let a = k.is in cc in
    (final_top h keeps c s f o k).all p (subst (λ (x : Signature). IsCandidate h c s x p) one cand)

-- a subobject of its class that contains the one asked is its own
pub one_of_class : (h : Classes) → IsHierarchy h → (c : ClassId) (s t : Subobject) (f : FunctionId) (o : Overrider) → IsFinalOverrider h c s f o → IsSubobject h c t → class_of t ≡ Some o.function.class → IsInside h t s → t ≡ o.at
one_of_class h keeps c s t f o k valid class inside =
    let cand : IsCandidate h c s k.signature (overrider t o.function) = record { valid = valid; contains = inside; class = class; same = k.left.candidate.same } in
    inside_same h keeps o.at t o.function.class k.left.candidate.class class ((final_top h keeps c s f o k).all (overrider t o.function) cand)

-- one at most
pub one_at_most : (h : Classes) (c : ClassId) (s : Subobject) (f : FunctionId) (o p : Overrider) → IsFinalOverrider h c s f o → IsFinalOverrider h c s f p → o ≡ p
one_at_most h c s f o p a b =
    let one : a.signature ≡ b.signature = let x = a.is in let y = b.is in cc in
    b.only o (subst (λ (x : Signature). IsLeft h c s x o) one a.left)

-- a class that has a subobject of a class that is known is known
bases_known : (h : Classes) (c : ClassId) (base : Base ClassId) (class : Option Class) → class_at h c ≡ class → Contains (bases_in class) base → (x : Class) × (class_at h c ≡ Some x)
bases_known h c base None e (k, lt, at) = absurd (omega arith)
bases_known h c base (Some x) e has = (x, e)

base_known : (h : Classes) (c b : ClassId) (w : _) → IsDirectBase h c w b → (x : Class) × (class_at h c ≡ Some x)
base_known h c b w d = bases_known h c d.base (class_at h c) refl d.listed

virtual_known : (h : Classes) (c v : ClassId) → HasVirtualBase h c v → (x : Class) × (class_at h c ≡ Some x)
virtual_known h _ _ (direct c v d) = base_known h c v _ d
virtual_known h _ _ (further c b v w d k) = base_known h c b w d

pub holder_known : (h : Classes) (c d : ClassId) (s : Subobject) → IsSubobject h c s → class_of s ≡ Some d → d.0 < length h → (x : Class) × (class_at h c ≡ Some x)
holder_known h c d _ (whole [] l) e lt = let same : c ≡ d = cc in get_within h c.0 (subst (λ (x : ClassId). x.0 < length h) (sym same) lt)
holder_known h c d _ (whole (b ∷ p) l) e lt = base_known h c b _ l.0
holder_known h c d _ (shared v p has l) e lt = virtual_known h c v has

pub two_known : (h : Classes) (c : ClassId) → HasTwoFinalOverriders h c → (x : Class) × (class_at h c ≡ Some x)
two_known h c two = holder_known h c two.function.class two.subobject two.of_class.valid two.of_class.class (signature_class h two.function two.signature two.is)

pub none_two : (h : Classes) → HasNoFault h → (c : ClassId) → HasTwoFinalOverriders h c → ⊥
none_two h fine c two = let k = two_known h c two in fine.none (spot c overrider_part 0 0) _ (two_overriders c k.0 k.1 two)

-- two candidates that are left
pub record AreTwoLeft (h : Classes) (c : ClassId) (s : Subobject) (signature : Signature) : Type 0 where
  pub one : Overrider
  pub other : Overrider
  pub one_left : IsLeft h c s signature one
  pub other_left : IsLeft h c s signature other
  pub differ : one ≢ other

-- of the candidates one contains all others, or two are left
pub top_or_two_left : (h : Classes) → IsHierarchy h → (c : ClassId) (s : Subobject) (f : FunctionId) (sig : Signature) → IsSubobject h c s → class_of s ≡ Some f.class → signature_of h f ≡ Some sig → ((o : Overrider) × IsTopCandidate h c s sig o) ⊎ AreTwoLeft h c s sig
top_or_two_left h keeps c s f sig valid class same =
    let own : IsCandidateAt h c s sig s = record { function = f; candidate = record { valid = valid; contains = inside_itself h c s valid; class = class; same = same } } in
    ⊎_elim
    (λ k. inl (overrider k.0 k.1.is.function, over_all_top h keeps c s sig k.0 k.1))
    (λ two. inr (record {
      one = overrider two.one two.one_high.is.function;
      other = overrider two.other two.other_high.is.function;
      one_left = high_left h keeps c s sig two.one two.one_high;
      other_left = high_left h keeps c s sig two.other two.other_high;
      differ = λ e. two.apart (subst (λ (x : Subobject). IsInside h two.one x) (ap (λ (x : Overrider). x.at) e) (inside_itself h c two.one two.one_high.is.candidate.valid));
    }))
    (top_or_two (IsCandidateAt h c s sig) (IsInside h) (preorder h c) (candidate_order h keeps c s sig valid) s own)

pub final_or_two : (h : Classes) → IsHierarchy h → (c : ClassId) (s : Subobject) (f : FunctionId) → IsVirtualIn h c s f → ((o : Overrider) × IsFinalOverrider h c s f o) ⊎ HasTwoFinalOverriders h c
final_or_two h keeps c s f is =
    let sig = is.is_virtual.signature in
    let same = is.is_virtual.is in
    ⊎_elim
    (λ k. inl (k.0, top_final h keeps c s f sig k.0 same k.1))
    (λ two. inr (record { subobject = s; function = f; of_class = is; signature = sig; is = same; one = two.one; other = two.other; one_left = two.one_left; other_left = two.other_left; differ = two.differ }))
    (top_or_two_left h keeps c s f sig is.valid is.class same)

-- two that are left are no final overrider
pub two_not_final : (h : Classes) (c : ClassId) (s : Subobject) (f : FunctionId) (sig : Signature) (o : Overrider) → signature_of h f ≡ Some sig → AreTwoLeft h c s sig → IsFinalOverrider h c s f o → ⊥
two_not_final h c s f sig o same two k =
    let one : sig ≡ k.signature = let a = k.is in cc in
    two.differ (k.only two.one (subst (λ (x : Signature). IsLeft h c s x two.one) one two.one_left) ∙ sym (k.only two.other (subst (λ (x : Signature). IsLeft h c s x two.other) one two.other_left)))

pub some_final : (h : Classes) → IsHierarchy h → HasNoFault h → (c : ClassId) (s : Subobject) (f : FunctionId) → IsVirtualIn h c s f → (o : Overrider) × IsFinalOverrider h c s f o
some_final h keeps fine c s f is = ⊎_elim (λ k. k) (λ two. absurd (none_two h fine c two)) (final_or_two h keeps c s f is)

-- it is the final overrider too of each function of the signature that it overrides
pub same_final : (h : Classes) → IsHierarchy h → HasNoFault h → (c : ClassId) (s t : Subobject) (f g : FunctionId) (o : Overrider) → IsFinalOverrider h c s f o → IsVirtualIn h c t g → IsInside h o.at t → signature_of h g ≡ signature_of h f → IsFinalOverrider h c t g o
same_final h keeps fine c s t f g o k is inside same =
    let other = some_final h keeps fine c t g is in
    let sig = k.signature in
    let mine : signature_of h g ≡ Some sig = same ∙ k.is in
    let cand = k.left.candidate in
    let here : IsCandidate h c t sig o = record { valid = cand.valid; contains = inside; class = cand.class; same = cand.same } in
    let down = contains_all h keeps c t g sig other.0 o other.1 mine here in
    let other_same : signature_of h other.0.function ≡ Some sig = let a = other.1.left.candidate.same in let b = other.1.is in cc in
    let there : IsCandidate h c s sig other.0 = record { valid = other.1.left.candidate.valid; contains = inside_through h other.0.at o.at s down cand.contains; class = other.1.left.candidate.class; same = other_same } in
    let up = contains_all h keeps c s f sig o other.0 k k.is there in
    let at = inside_antisymmetric h keeps other.0.at o.at down up in
    let one : other.0 ≡ o = same_overrider other.0 o at (same_class h keeps sig other.0.at o.at other.0.function o.function at other.1.left.candidate.class cand.class other_same cand.same) in
    subst (λ (x : Overrider). IsFinalOverrider h c t g x) one other.1
