-- The conditions of the class-meaning pass are decided.
use Rattle.std.proofs.Common.{◌≡◌, ◌≢◌, ◌+◌, ◌<◌, inl, inr, ⊎_elim, true, Option, Some, None, length, refl, ap, subst, sym, ◌∙◌, arith}
use Rattle.cxx_hierarchy.specs.declared.records.ClassId.{ClassId}
use Rattle.cxx_hierarchy.specs.declared.records.ReturnType.{ReturnType}
use Rattle.cxx_hierarchy.specs.Classes.{Classes, functions_of}
use Rattle.cxx_hierarchy.specs.Hierarchies.{IsHierarchy}
use Rattle.cxx_subobject.specs.declared.Subobject.{Subobject}
use Rattle.cxx_subobject.specs.Subobjects.{IsSubobject, class_of}
use Rattle.cxx_subobject.specs.Preorder.{preorder}
use Rattle.cxx_subobject.specs.Parts.{IsWithinLimits, parts_of}
use Rattle.foundation.proofs.Members.{Has}
use Rattle.cxx_subobject.proofs.TreeLemmas.{preorder_has, has_preorder}
use Rattle.cxx_subobject.proofs.PathLemmas.{class_there}
use Rattle.cxx_overrider.specs.declared.FunctionId.{FunctionId}
use Rattle.cxx_overrider.specs.declared.Overrider.{Overrider}
use Rattle.cxx_overrider.specs.Functions.{Signature, signature_of, says_virtual, is_pure, return_of}
use Rattle.cxx_overrider.specs.Overriding.{HasPart, HasVirtual, IsVirtual, IsFinalOverrider, HasTwoFinalOverriders, IsAbstract}
use Rattle.cxx_overrider.specs.Covariance.{Overrides, IsMismatch, IsIncompleteReturn, IsAmbiguousBase, IsAmbiguousReturn, HasOverridden, HasMismatch, HasIncompleteReturn, HasAmbiguousReturn}
use Rattle.cxx_overrider.specs.Virtuals.{function_at}
use Rattle.cxx_overrider.specs.Faults.{HasNoFault, too_large}
use Rattle.std.proofs.lemmas.Bool.{cases_lt}
use Rattle.cxx_overrider.proofs.Numbering.{signature_index}
use Rattle.cxx_overrider.proofs.CovarianceLemmas.{same_pointee}
use Rattle.cxx_overrider.proofs.Finals.{top_final}
use Rattle.foundation.proofs.Deciding.{Decided, decide_any, decide_below, decide_as, decide_both, decide_flag}
use Rattle.cxx_subobject.proofs.DecidingLemmas.{decide_class, decide_subobject, decide_class_of}
use Rattle.cxx_overrider.proofs.Deciding.{decide_return, decide_some}
use Rattle.cxx_overrider.proofs.FinalLaws.{AreTwoLeft, top_or_two_left, two_not_final, one_at_most}
use Rattle.cxx_overrider.proofs.ReturnLaws.{decide_covariant}

-- a function of the class of a subobject
pub record IsOf (s : Subobject) (f : FunctionId) : Type 0 where
  pub class : class_of s ≡ Some f.class

-- some function of the subobjects of c is as P says, or none is
pub record HasFunction (h : Classes) (c : ClassId) (P : Subobject → FunctionId → Type 0) : Type 0 where
  pub subobject : Subobject
  pub valid : IsSubobject h c subobject
  pub function : FunctionId
  pub class : class_of subobject ≡ Some function.class
  pub is : P subobject function

record HasAt (h : Classes) (P : Subobject → FunctionId → Type 0) (s : Subobject) : Type 0 where
  function : FunctionId
  class : class_of s ≡ Some function.class
  is : P s function

decide_at : (h : Classes) (c : ClassId) (P : Subobject → FunctionId → Type 0) → ((s : Subobject) (f : FunctionId) → IsSubobject h c s → class_of s ≡ Some f.class → Decided (P s f)) → ((s : Subobject) (f : FunctionId) → P s f → f.index < length (functions_of h f.class) + 1) → (s : Subobject) → IsSubobject h c s → Decided (HasAt h P s)
decide_at h c P decide within s valid =
    let d = class_there h c s valid in
    ⊎_elim
    (λ k. inl (record { function = function_at d.0 k.number; class = d.1; is = k.is }))
    (λ none. inr (λ k.
    let same : k.function.class ≡ d.0 = let a = k.class in let b = d.1 in cc in
    none k.function.index (subst (λ (x : ClassId). k.function.index < length (functions_of h x) + 1) same (within s k.function k.is))
    (subst (λ (x : ClassId). P s (function_at x k.function.index)) same k.is)))
    (decide_below (λ i. P s (function_at d.0 i)) (length (functions_of h d.0) + 1) (λ i lt. decide s (function_at d.0 i) valid d.1))

pub decide_function : (h : Classes) → IsHierarchy h → (c : ClassId) (P : Subobject → FunctionId → Type 0) → ((s : Subobject) (f : FunctionId) → IsSubobject h c s → class_of s ≡ Some f.class → Decided (P s f)) → ((s : Subobject) (f : FunctionId) → P s f → f.index < length (functions_of h f.class) + 1) → Decided (HasFunction h c P)
decide_function h keeps c P decide within = ⊎_elim
    (λ k. inl (record { subobject = k.item; valid = has_preorder h c k.item k.listed; function = k.is.function; class = k.is.class; is = k.is.is }))
    (λ none. inr (λ k. none k.subobject (preorder_has h c keeps k.subobject k.valid) (record { function = k.function; class = k.class; is = k.is })))
    (decide_any (HasAt h P) (preorder h c) (λ s listed. decide_at h c P decide within s (has_preorder h c s listed)))

-- virtual functions
record IsSource (h : Classes) (sig : Signature) (f : FunctionId) : Type 0 where
  same : signature_of h f ≡ Some sig
  says : says_virtual h f ≡ true

decide_source : (h : Classes) (sig : Signature) (f : FunctionId) → Decided (IsSource h sig f)
decide_source h sig f = decide_as (decide_both (decide_some (signature_of h f) sig) (decide_flag (says_virtual h f))) (λ k. record { same = k.0; says = k.1 }) (λ k. (k.same, k.says))

pub decide_virtual : (h : Classes) → IsHierarchy h → (c : ClassId) (sig : Signature) → Decided (HasVirtual h c sig)
decide_virtual h keeps c sig = decide_as (decide_function h keeps c (λ s f. IsSource h sig f) (λ s f valid class. decide_source h sig f) (λ s f k. signature_index h f sig k.same))
    (λ k. record { source = k.function; same = k.is.same; says = k.is.says; base = record { part = k.subobject; valid = k.valid; class = k.class } })
    (λ v. record { subobject = v.base.part; valid = v.base.valid; function = v.source; class = v.base.class; is = record { same = v.same; says = v.says } })

pub decide_is_virtual : (h : Classes) → IsHierarchy h → (f : FunctionId) → Decided (IsVirtual h f)
decide_is_virtual h keeps f = by_signature (signature_of h f) refl
  where
    by_signature : (o : Option Signature) → signature_of h f ≡ o → Decided (IsVirtual h f)
    by_signature None e = inr (λ v. let a = v.is in cc)
    by_signature (Some sig) e = decide_as (decide_virtual h keeps f.class sig)
        (λ source. record { signature = sig; is = e; source = source })
        (λ v. let same : v.signature ≡ sig = let a = v.is in cc in subst (λ (x : Signature). HasVirtual h f.class x) same v.source)

-- overridden functions
record IsOverriddenAs (h : Classes) (f : FunctionId) (P : ReturnType ClassId → ReturnType ClassId → Type 0) (g : FunctionId) : Type 0 where
  overrides : Overrides h f g
  t : ReturnType ClassId
  u : ReturnType ClassId
  returns : return_of h f ≡ Some t
  returned : return_of h g ≡ Some u
  is : P t u

decide_overrides : (h : Classes) → IsHierarchy h → (f g : FunctionId) → HasPart h f.class g.class → Decided (Overrides h f g)
decide_overrides h keeps f g part = by_signature (signature_of h f) refl
  where
    by_signature : (o : Option Signature) → signature_of h f ≡ o → Decided (Overrides h f g)
    by_signature None e = inr (λ k. let a = k.of_f in cc)
    by_signature (Some sig) e = ⊎_elim
        (λ same. inr (λ k. k.proper same))
        (λ proper. decide_as (decide_both (decide_some (signature_of h g) sig) (decide_is_virtual h keeps g))
        (λ k. record { signature = sig; of_f = e; of_g = k.0; base = part; proper = proper; is_virtual = k.1 })
        (λ k. (let same : k.signature ≡ sig = let a = k.of_f in cc in k.of_g ∙ ap (λ (x : Signature). Some x) same, k.is_virtual)))
        (decide_class g.class f.class)

decide_overridden_as : (h : Classes) → IsHierarchy h → (f : FunctionId) (P : ReturnType ClassId → ReturnType ClassId → Type 0) → ((t u : ReturnType ClassId) → Decided (P t u)) → (g : FunctionId) → HasPart h f.class g.class → Decided (IsOverriddenAs h f P g)
decide_overridden_as h keeps f P decide g part = ⊎_elim
    (λ overrides. by_returns (return_of h f) (return_of h g) refl refl overrides)
    (λ not. inr (λ k. not k.overrides))
    (decide_overrides h keeps f g part)
  where
    by_returns : (o p : Option (ReturnType ClassId)) → return_of h f ≡ o → return_of h g ≡ p → Overrides h f g → Decided (IsOverriddenAs h f P g)
    by_returns None p a b overrides = inr (λ k. let x = k.returns in cc)
    by_returns (Some t) None a b overrides = inr (λ k. let x = k.returned in cc)
    by_returns (Some t) (Some u) a b overrides = decide_as (decide t u)
        (λ is. record { overrides = overrides; t = t; u = u; returns = a; returned = b; is = is })
        (λ k.
        let one : k.t ≡ t = let x = k.returns in cc in
        let other : k.u ≡ u = let x = k.returned in cc in
        subst (λ (x : ReturnType ClassId). P t x) other (subst (λ (x : ReturnType ClassId). P x k.u) one k.is))

pub decide_overridden : (h : Classes) → IsHierarchy h → (f : FunctionId) (P : ReturnType ClassId → ReturnType ClassId → Type 0) → ((t u : ReturnType ClassId) → Decided (P t u)) → Decided (HasOverridden h f P)
decide_overridden h keeps f P decide = decide_as
    (decide_function h keeps f.class (λ s g. IsOverriddenAs h f P g) (λ s g valid class. decide_overridden_as h keeps f P decide g (record { part = s; valid = valid; class = class })) (λ s g k. signature_index h g k.overrides.signature k.overrides.of_g))
    (λ k. record { overridden = k.function; overrides = k.is.overrides; t = k.is.t; u = k.is.u; returns = k.is.returns; returned = k.is.returned; is = k.is.is })
    (λ k. record {
      subobject = k.overrides.base.part;
      valid = k.overrides.base.valid;
      function = k.overridden;
      class = k.overrides.base.class;
      is = record { overrides = k.overrides; t = k.t; u = k.u; returns = k.returns; returned = k.returned; is = k.is };
    })

-- the returns of two functions
decide_mismatch : (h : Classes) → IsHierarchy h → (t u : ReturnType ClassId) → Decided (IsMismatch h t u)
decide_mismatch h keeps t u = ⊎_elim
    (λ same. inr (λ k. k.differ same))
    (λ differ. ⊎_elim
    (λ k. inr (λ m. m.unrelated k.x k.y k.covariant))
    (λ none. inl (record { differ = differ; unrelated = λ x y k. none (record { x = x; y = y; covariant = k }) }))
    (decide_covariant h keeps t u))
    (decide_return t u)

decide_incomplete : (h : Classes) → IsHierarchy h → (c : ClassId) (t u : ReturnType ClassId) → Decided (IsIncompleteReturn h c t u)
decide_incomplete h keeps c t u = ⊎_elim
    (λ k. ⊎_elim
    (λ late. inl (record { x = k.x; y = k.y; covariant = k.covariant; late = late }))
    (λ early. inr (λ m. let same : m.x ≡ k.x = same_pointee t m.x k.x m.covariant.derived k.covariant.derived in let number : m.x.0 ≡ k.x.0 = ap (λ (x : ClassId). x.0) same in let late = m.late in omega arith))
    (cases_lt c.0 k.x.0))
    (λ none. inr (λ m. none (record { x = m.x; y = m.y; covariant = m.covariant })))
    (decide_covariant h keeps t u)

-- another subobject of the class
record IsAnother (y : ClassId) (s t : Subobject) : Type 0 where
  class : class_of t ≡ Some y
  differ : s ≢ t

decide_another : (y : ClassId) (s t : Subobject) → Decided (IsAnother y s t)
decide_another y s t = ⊎_elim
    (λ class. ⊎_elim (λ same. inr (λ k. k.differ same)) (λ differ. inl (record { class = class; differ = differ })) (decide_subobject s t))
    (λ not. inr (λ k. not k.class))
    (decide_class_of (class_of t) y)

decide_ambiguous_base : (h : Classes) → IsHierarchy h → (x y : ClassId) → HasPart h x y → Decided (IsAmbiguousBase h x y)
decide_ambiguous_base h keeps x y part = ⊎_elim
    (λ k. inl (record { one = part.part; other = k.item; one_valid = part.valid; other_valid = has_preorder h x k.item k.listed; one_class = part.class; other_class = k.is.class; differ = k.is.differ }))
    (λ none. inr (λ two. two.differ (sym (one none two.one two.one_valid two.one_class) ∙ one none two.other two.other_valid two.other_class)))
    (decide_any (IsAnother y part.part) (preorder h x) (λ s listed. decide_another y part.part s))
  where
    one : ((s : Subobject) → Has (preorder h x) s → IsAnother y part.part s → ⊥) → (s : Subobject) → IsSubobject h x s → class_of s ≡ Some y → part.part ≡ s
    one none s valid class = ⊎_elim (λ e. e) (λ differ. absurd (none s (preorder_has h x keeps s valid) (record { class = class; differ = differ }))) (decide_subobject part.part s)

decide_ambiguous : (h : Classes) → IsHierarchy h → (t u : ReturnType ClassId) → Decided (IsAmbiguousReturn h t u)
decide_ambiguous h keeps t u = ⊎_elim
    (λ k. decide_as (decide_ambiguous_base h keeps k.x k.y k.covariant.is_base)
    (λ two. record { x = k.x; y = k.y; covariant = k.covariant; ambiguous = two })
    (λ m.
    let one : m.x ≡ k.x = same_pointee t m.x k.x m.covariant.derived k.covariant.derived in
    let other : m.y ≡ k.y = same_pointee u m.y k.y m.covariant.base k.covariant.base in
    subst (λ (y : ClassId). IsAmbiguousBase h k.x y) other (subst (λ (x : ClassId). IsAmbiguousBase h x m.y) one m.ambiguous)))
    (λ none. inr (λ m. none (record { x = m.x; y = m.y; covariant = m.covariant })))
    (decide_covariant h keeps t u)

pub decide_has_mismatch : (h : Classes) → IsHierarchy h → (f : FunctionId) → Decided (HasMismatch h f)
decide_has_mismatch h keeps f = decide_overridden h keeps f (IsMismatch h) (decide_mismatch h keeps)

pub decide_has_incomplete : (h : Classes) → IsHierarchy h → (f : FunctionId) → Decided (HasIncompleteReturn h f)
decide_has_incomplete h keeps f = decide_overridden h keeps f (IsIncompleteReturn h f.class) (decide_incomplete h keeps f.class)

pub decide_has_ambiguous : (h : Classes) → IsHierarchy h → (f : FunctionId) → Decided (HasAmbiguousReturn h f)
decide_has_ambiguous h keeps f = decide_overridden h keeps f (IsAmbiguousReturn h) (decide_ambiguous h keeps)

-- final overriders
record IsTwoAt (h : Classes) (c : ClassId) (s : Subobject) (f : FunctionId) : Type 0 where
  is_virtual : IsVirtual h f
  signature : Signature
  is : signature_of h f ≡ Some signature
  two : AreTwoLeft h c s signature

decide_two_at : (h : Classes) → IsHierarchy h → (c : ClassId) (s : Subobject) (f : FunctionId) → IsSubobject h c s → class_of s ≡ Some f.class → Decided (IsTwoAt h c s f)
decide_two_at h keeps c s f valid class = ⊎_elim
    (λ v. ⊎_elim
    (λ top. inr (λ k. two_not_final h c s f k.signature top.0 k.is k.two (top_final h keeps c s f v.signature top.0 v.is top.1)))
    (λ two. inl (record { is_virtual = v; signature = v.signature; is = v.is; two = two }))
    (top_or_two_left h keeps c s f v.signature valid class v.is))
    (λ not. inr (λ k. not k.is_virtual))
    (decide_is_virtual h keeps f)

pub decide_two : (h : Classes) → IsHierarchy h → (c : ClassId) → Decided (HasTwoFinalOverriders h c)
decide_two h keeps c = decide_as (decide_function h keeps c (IsTwoAt h c) (decide_two_at h keeps c) (λ s f k. signature_index h f k.signature k.is))
    (λ k. record {
      subobject = k.subobject;
      function = k.function;
      of_class = record { valid = k.valid; class = k.class; is_virtual = k.is.is_virtual };
      signature = k.is.signature;
      is = k.is.is;
      one = k.is.two.one;
      other = k.is.two.other;
      one_left = k.is.two.one_left;
      other_left = k.is.two.other_left;
      differ = k.is.two.differ;
    })
    (λ k. record {
      subobject = k.subobject;
      valid = k.of_class.valid;
      function = k.function;
      class = k.of_class.class;
      is = record { is_virtual = k.of_class.is_virtual; signature = k.signature; is = k.is; two = record { one = k.one; other = k.other; one_left = k.one_left; other_left = k.other_left; differ = k.differ } };
    })

-- abstract classes
record IsPureAt (h : Classes) (c : ClassId) (s : Subobject) (f : FunctionId) : Type 0 where
  is_virtual : IsVirtual h f
  overrider : Overrider
  final : IsFinalOverrider h c s f overrider
  pure : is_pure h overrider.function ≡ true

decide_pure_at : (h : Classes) → IsHierarchy h → (c : ClassId) (s : Subobject) (f : FunctionId) → IsSubobject h c s → class_of s ≡ Some f.class → Decided (IsPureAt h c s f)
decide_pure_at h keeps c s f valid class = ⊎_elim
    (λ v. ⊎_elim
    (λ top.
    let final = top_final h keeps c s f v.signature top.0 v.is top.1 in
    decide_as (decide_flag (is_pure h top.0.function))
    (λ pure. record { is_virtual = v; overrider = top.0; final = final; pure = pure })
    (λ k. subst (λ (x : Overrider). is_pure h x.function ≡ true) (one_at_most h c s f k.overrider top.0 k.final final) k.pure))
    (λ two. inr (λ k. two_not_final h c s f v.signature k.overrider v.is two k.final))
    (top_or_two_left h keeps c s f v.signature valid class v.is))
    (λ not. inr (λ k. not k.is_virtual))
    (decide_is_virtual h keeps f)

pub decide_abstract : (h : Classes) → IsHierarchy h → (c : ClassId) → Decided (IsAbstract h c)
decide_abstract h keeps c = decide_as (decide_function h keeps c (IsPureAt h c) (decide_pure_at h keeps c) (λ s f k. signature_index h f k.final.signature k.final.is))
    (λ k. record { subobject = k.subobject; function = k.function; of_class = record { valid = k.valid; class = k.class; is_virtual = k.is.is_virtual }; overrider = k.is.overrider; final = k.is.final; pure = k.is.pure })
    (λ k. record { subobject = k.subobject; valid = k.of_class.valid; function = k.function; class = k.of_class.class; is = record { is_virtual = k.of_class.is_virtual; overrider = k.overrider; final = k.final; pure = k.pure } })

-- the limits
pub decide_within : (h : Classes) (c : ClassId) → Decided (IsWithinLimits h c)
decide_within h c = ⊎_elim
    (λ large. inr (λ k. let few = k.subobjects in omega arith))
    (λ subobjects. ⊎_elim (λ large. inr (λ k. let few = k.parts in omega arith)) (λ parts. inl (record { subobjects = subobjects; parts = parts })) (cases_lt 65536 (parts_of h c)))
    (cases_lt 1024 (length (preorder h c)))

-- in a hierarchy that no condition refuses each class is within the limits on parts
pub limits_hold : (h : Classes) → HasNoFault h → (c : ClassId) → c.0 < length h → IsWithinLimits h c
limits_hold h fine c known = ⊎_elim (λ is. is) (λ no_room. absurd (fine.none _ _ (too_large c known no_room))) (decide_within h c)
