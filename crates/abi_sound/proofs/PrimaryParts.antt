-- The primary base of a subobject: by cases, and what a sound layout says of it.
use Rattle.std.proofs.Common.{◌≡◌, ◌<◌, Bool, true, false, Option, Some, None, List, [], ◌∷◌, ◌++◌, length, refl, ap, subst, ◌∙◌, arith}
use Rattle.std.specs.Prelude.{if◌then◌else◌}
use Rattle.cxx_hierarchy.specs.declared.records.ClassId.{ClassId}
use Rattle.cxx_hierarchy.specs.Classes.{Classes}
use Rattle.cxx_hierarchy.specs.Hierarchies.{IsHierarchy}
use Rattle.cxx_subobject.specs.declared.Root.TheVariants.{Whole}
use Rattle.cxx_subobject.specs.declared.Subobject.{Subobject}
use Rattle.cxx_subobject.specs.Subobjects.{subobject, shared_base, whole, shared, IsSubobject, class_of}
use Rattle.cxx_subobject.specs.Inside.{IsInside}
use Rattle.cxx_subobject.proofs.PathLemmas.{class_of_longer, base_before, virtual_below, class_low}
use Rattle.cxx_subobject.proofs.InsideLemmas.{inside_valid}
use Rattle.cxx_subobject.proofs.TreeLemmas.{subobject_same, same_itself}
use Rattle.abi_primary.specs.declared.Primary.{Primary}
use Rattle.abi_primary.specs.declared.Primary.TheVariants.{None as NoPrimary, Direct, Virtual}
use Rattle.abi_primary.specs.Kinds.{IsDynamic}
use Rattle.abi_sound.specs.declared.class_layout.ClassLayout.{ClassLayout}
use Rattle.abi_sound.specs.Places.{Places, places_of}
use Rattle.abi_sound.specs.Chains.{is_subobject_in, primary_by, primary_of_class, primary_part}
use Rattle.abi_sound.specs.Sound.{IsSoundLayout}

-- in an object of class c, the second subobject is the primary base of the first: its direct non-virtual base, or the
-- virtual base that it holds
pub data IsPrimaryPart (l : Places) (c : ClassId) : Subobject → Subobject → Type 0 where
  by_direct : (s : Subobject) (d b : ClassId) → class_of s ≡ Some d → l.primary d ≡ Direct b → IsPrimaryPart l c s (subobject s.root (s.path ++ b ∷ []))
  by_holder : (s : Subobject) (d v : ClassId) → class_of s ≡ Some d → l.primary d ≡ Virtual v → l.holder c v ≡ Some s → IsPrimaryPart l c s (shared_base v)

pub is_in : (o : Option Subobject) (s : Subobject) → is_subobject_in o s ≡ true → o ≡ Some s
is_in None s e = cc
is_in (Some t) s e = ap Some (subobject_same t s e)

pub in_itself : (o : Option Subobject) (s : Subobject) → o ≡ Some s → is_subobject_in o s ≡ true
in_itself o s e = ap (λ (x : Option Subobject). is_subobject_in x s) e ∙ same_itself s

pub primary_cases : (l : Places) (c : ClassId) (s t : Subobject) → primary_part l c s ≡ Some t → IsPrimaryPart l c s t
primary_cases l c s t e = by_class (class_of s) refl e
  where
    by_test : (d v : ClassId) → class_of s ≡ Some d → l.primary d ≡ Virtual v → (b : Bool) → is_subobject_in (l.holder c v) s ≡ b → (if b then Some (shared_base v) else None) ≡ Some t → IsPrimaryPart l c s t
    by_test d v f p true test g = let same : shared_base v ≡ t = cc in subst (IsPrimaryPart l c s) same (by_holder s d v f p (is_in (l.holder c v) s test))
    by_test d v f p false test g = let h : None ≡ Some t = g in cc

    by_primary : (d : ClassId) → class_of s ≡ Some d → (p : Primary) → l.primary d ≡ p → primary_by l c s p ≡ Some t → IsPrimaryPart l c s t
    by_primary d f NoPrimary p g = let h : None ≡ Some t = g in cc
    by_primary d f (Direct b) p g = let same : subobject s.root (s.path ++ b ∷ []) ≡ t = cc in subst (IsPrimaryPart l c s) same (by_direct s d b f p)
    by_primary d f (Virtual v) p g = by_test d v f p (is_subobject_in (l.holder c v) s) refl g

    by_class : (o : Option ClassId) → class_of s ≡ o → primary_of_class l c s o ≡ Some t → IsPrimaryPart l c s t
    by_class None f g = let h : None ≡ Some t = g in cc
    by_class (Some d) f g = by_primary d f (l.primary d) refl g

pub primary_is : (l : Places) (c : ClassId) (s t : Subobject) → IsPrimaryPart l c s t → primary_part l c s ≡ Some t
primary_is l c _ _ (by_direct s d b e p) = ap (primary_of_class l c s) e ∙ ap (primary_by l c s) p
primary_is l c _ _ (by_holder s d v e p held) = ap (primary_of_class l c s) e ∙ (ap (primary_by l c s) p ∙ ap (λ b. if b then Some (shared_base v) else None) (in_itself (l.holder c v) s held))

-- what a primary base is, by a sound layout: a part of the subobject, of a dynamic class before the subobject's
pub record IsPrimaryBase (h : Classes) (s t : Subobject) : Type 0 where
  pub of : ClassId
  pub of_is : class_of s ≡ Some of
  pub class : ClassId
  pub class_is : class_of t ≡ Some class
  pub dynamic : IsDynamic h class
  pub falls : class.0 < of.0
  pub inside : IsInside h s t

pub primary_base : (h : Classes) (rows : List ClassLayout) → IsHierarchy h → IsSoundLayout h rows → (c : ClassId) (s t : Subobject) → c.0 < length h → IsSubobject h c s → primary_part (places_of h rows) c s ≡ Some t → IsPrimaryBase h s t
primary_base h rows keeps sound c s t lt valid e = by_cases s t valid (primary_cases (places_of h rows) c s t e)
  where
    within : (x : Subobject) (d : ClassId) → IsSubobject h c x → class_of x ≡ Some d → d.0 < length h
    within x d is f = let low = class_low h keeps c d x is f in omega arith

    by_cases : (x y : Subobject) → IsSubobject h c x → IsPrimaryPart (places_of h rows) c x y → IsPrimaryBase h x y
    by_cases _ _ is (by_direct x d b f p) =
        let base = (sound.each d (within x d is f)).direct b p in
        record {
          of = d;
          of_is = f;
          class = b;
          class_is = class_of_longer x.path (b ∷ []) d f;
          dynamic = base.1;
          falls = base_before h keeps d b false base.0;
          inside = record { class = d; of_class = f; part = subobject Whole (d ∷ b ∷ []); valid = whole (b ∷ []) (base.0, tt); joined = refl };
        }
    by_cases _ _ is (by_holder x d v f p held) =
        let base = (sound.each d (within x d is f)).virtual v p in
        record {
          of = d;
          of_is = f;
          class = v;
          class_is = refl;
          dynamic = base.1;
          falls = virtual_below h keeps d v base.0;
          inside = record { class = d; of_class = f; part = shared_base v; valid = shared v [] base.0 tt; joined = refl };
        }

pub primary_valid : (h : Classes) (rows : List ClassLayout) → IsHierarchy h → IsSoundLayout h rows → (c : ClassId) (s t : Subobject) → c.0 < length h → IsSubobject h c s → primary_part (places_of h rows) c s ≡ Some t → IsSubobject h c t
primary_valid h rows keeps sound c s t lt valid e = inside_valid h c s t valid (primary_base h rows keeps sound c s t lt valid e).inside
