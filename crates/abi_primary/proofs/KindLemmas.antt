-- When a class is dynamic or empty, by its bases.
use Rattle.std.proofs.Common.{◌≡◌, ℕ, zero, suc, ◌+◌, ◌<◌, ◌≤◌, ◌∷◌, arith, length, Bool, true, false, Option, Some, None, List, [], refl, ap, subst, sym, ◌∙◌}
use Rattle.std.specs.Prelude.{not, ◌&&◌, ◌==◌}
use Rattle.std.specs.List.{Contains, list_all}
use Rattle.std.proofs.lemmas.Bool.{eqb-true, and_parts}
use Rattle.foundation.proofs.Places.{contains_later}
use Rattle.cxx_hierarchy.specs.declared.records.Member.{Member}
use Rattle.cxx_hierarchy.specs.declared.records.ClassId.{ClassId}
use Rattle.cxx_hierarchy.specs.declared.records.Base.{Base}
use Rattle.cxx_hierarchy.specs.Classes.{Class, Classes, class_at, bases_of, bases_in}
use Rattle.cxx_hierarchy.specs.Hierarchies.{IsHierarchy}
use Rattle.cxx_hierarchy.specs.VirtualBases.{IsDirectBase, HasVirtualBase, direct, further}
use Rattle.abi_primary.proofs.Nth.{nth, nth_in}
use Rattle.cxx_hierarchy.specs.Declarations.{has_virtual_function}
use Rattle.abi_primary.specs.Kinds.{Kind, in_class, is_kind_in, is_kind, empty_kind, is_empty, IsDynamic, declares, shares, inherits}

clash : {b : Bool} → b ≡ true → b ≡ false → ⊥
clash t f = let e : true ≡ false = sym t ∙ f in cc

pub bases_are : (h : Classes) (c : ClassId) (class : Class) → class_at h c ≡ Some class → bases_of h c ≡ class.bases
bases_are h c class e = ap bases_in e

-- a base that makes its class dynamic, neither by itself nor by its way
pub record IsStill (h : Classes) (base : Base ClassId) : Type 0 where
  pub way : base.is_virtual ≡ false
  pub still : IsDynamic h base.class → ⊥

pub never_dynamic : (h : Classes) (c : ClassId) (class : Class) → class_at h c ≡ Some class → has_virtual_function class ≡ false → ((base : Base ClassId) → Contains class.bases base → IsStill h base) → IsDynamic h c → ⊥
never_dynamic h _ class e none each (declares c other f t) = let same : other ≡ class = cc in clash (ap has_virtual_function (sym same) ∙ t) none
never_dynamic h _ class e none each (shares c b d) = clash d.way (each d.base (subst (λ (xs : List (Base ClassId)). Contains xs d.base) (bases_are h c class e) d.listed)).way
never_dynamic h _ class e none each (inherits c b way d x) = (each d.base (subst (λ (xs : List (Base ClassId)). Contains xs d.base) (bases_are h c class e) d.listed)).still (subst (IsDynamic h) (sym d.class) x)

pub direct_base : (h : Classes) (c : ClassId) (class : Class) (base : Base ClassId) → class_at h c ≡ Some class → Contains class.bases base → IsDirectBase h c base.is_virtual base.class
direct_base h c class base e has = record { base = base; listed = subst (λ (xs : List (Base ClassId)). Contains xs base) (sym (bases_are h c class e)) has; class = refl; way = refl }

-- a virtual base, or a dynamic one, makes its class dynamic
pub by_virtual : (h : Classes) (c : ClassId) (class : Class) (base : Base ClassId) → class_at h c ≡ Some class → Contains class.bases base → base.is_virtual ≡ true → IsDynamic h c
by_virtual h c class base e has v = shares c base.class (subst (λ w. IsDirectBase h c w base.class) v (direct_base h c class base e has))

pub by_dynamic : (h : Classes) (c : ClassId) (class : Class) (base : Base ClassId) → class_at h c ≡ Some class → Contains class.bases base → IsDynamic h base.class → IsDynamic h c
by_dynamic h c class base e has x = inherits c base.class base.is_virtual (direct_base h c class base e has) x

-- a class with a virtual base is dynamic
pub base_dynamic : (h : Classes) (c v : ClassId) → HasVirtualBase h c v → IsDynamic h c
base_dynamic h _ _ (direct c v edge) = shares c v edge
base_dynamic h _ _ (further c b v way edge has) = inherits c b way edge (base_dynamic h b v has)

-- a kind that depends on the classes of smaller numbers alone
pub record IsByEarlier (h : Classes) (kind : Kind) : Type 0 where
  pub agrees : (c : ClassId) (class : Class) (f g : ClassId → Bool) → class_at h c ≡ Some class → ((d : ClassId) → d.0 < c.0 → f d ≡ g d) → kind f class ≡ kind g class

-- as many steps as the number of a class, and more, say one thing of it
kind_by_steps : (kind : Kind) (h : Classes) → IsByEarlier h kind → (n m : ℕ) (c : ClassId) → c.0 < n → c.0 < m → is_kind_in kind h n c ≡ is_kind_in kind h m c
kind_by_steps kind h by zero m c lt gt = absurd (omega arith)
kind_by_steps kind h by (suc n) zero c lt gt = absurd (omega arith)
kind_by_steps kind h by (suc n) (suc m) c lt gt = by_cases (class_at h c) refl (λ b below. kind_by_steps kind h by n m b (omega arith) (omega arith))
  where
    by_cases : (o : Option Class) → class_at h c ≡ o → ((b : ClassId) → b.0 < c.0 → is_kind_in kind h n b ≡ is_kind_in kind h m b) → in_class (kind (is_kind_in kind h n)) o ≡ in_class (kind (is_kind_in kind h m)) o
    by_cases None e low = refl
    by_cases (Some class) e low = by.agrees c class (is_kind_in kind h n) (is_kind_in kind h m) e low

-- a class is of the kind by the kinds of the classes before it
pub kind_here : (kind : Kind) (h : Classes) → IsByEarlier h kind → (c : ClassId) (class : Class) → class_at h c ≡ Some class → is_kind kind h c ≡ kind (is_kind kind h) class
kind_here kind h by c class e = steps (c.0 + 1) (omega arith) ∙ by.agrees c class (is_kind_in kind h c.0) (is_kind kind h) e (λ d lt. kind_by_steps kind h by c.0 (d.0 + 1) d lt (omega arith))
  where
    steps : (n : ℕ) → n ≡ suc c.0 → is_kind_in kind h n c ≡ kind (is_kind_in kind h c.0) class
    steps n same = rw same (ap (in_class (kind (is_kind_in kind h c.0))) e)

pub same_all : {X : Type 0} (p q : X → Bool) (xs : List X) → ((x : X) → Contains xs x → p x ≡ q x) → list_all p xs ≡ list_all q xs
same_all p q [] each = refl
same_all p q (x ∷ xs) each = let a = each x (0, omega arith, refl) in let b = same_all p q xs (λ y h. each y (contains_later x xs y h)) in cc

pub empty_by_earlier : (h : Classes) → IsHierarchy h → IsByEarlier h empty_kind
empty_by_earlier h keeps = record {
  agrees = λ c class f g e agree. ap (λ b. (length class.members == 0) && (not (has_virtual_function class) && b))
      (same_all (λ (base : Base ClassId). not base.is_virtual && f base.class) (λ (base : Base ClassId). not base.is_virtual && g base.class) class.bases
      (λ base has. ap (λ b. not base.is_virtual && b) (agree base.class (keeps.bases c base (subst (λ (xs : List (Base ClassId)). Contains xs base) (sym (bases_are h c class e)) has)))));
}

pub empty_here : (h : Classes) (c : ClassId) (class : Class) → IsHierarchy h → class_at h c ≡ Some class → is_empty h c ≡ empty_kind (is_empty h) class
empty_here h c class keeps e = kind_here empty_kind h (empty_by_earlier h keeps) c class e

-- a base that leaves its class empty
pub record IsEmptyBase (h : Classes) (base : Base ClassId) : Type 0 where
  pub way : base.is_virtual ≡ false
  pub empty_is : is_empty h base.class ≡ true

abbrev leaves_empty : Classes → Base ClassId → Bool
leaves_empty h base = not base.is_virtual && is_empty h base.class

-- what an empty class has
pub record HasEmptyParts (h : Classes) (class : Class) : Type 0 where
  pub no_member : class.members ≡ []
  pub no_function : has_virtual_function class ≡ false
  pub bases : (base : Base ClassId) → Contains class.bases base → IsEmptyBase h base

not_true : (b : Bool) → not b ≡ true → b ≡ false
not_true true e = let f : false ≡ true = e in cc
not_true false e = refl

none_counted : {X : Type 0} (xs : List X) → (length xs == 0) ≡ true → xs ≡ []
none_counted [] e = refl
none_counted (x ∷ xs) e = let z : length (x ∷ xs) ≡ 0 = eqb-true (length (x ∷ xs)) 0 e in absurd (omega arith)

each_passes : {X : Type 0} (p : X → Bool) (xs : List X) → list_all p xs ≡ true → (x : X) → Contains xs x → p x ≡ true
each_passes p [] e x (k, lt, same) = absurd (omega arith)
each_passes p (y ∷ xs) e x (zero, lt, same) = ap p (sym same) ∙ (and_parts (p y) (list_all p xs) e).0
each_passes p (y ∷ xs) e x (suc k, lt, same) = each_passes p xs (and_parts (p y) (list_all p xs) e).1 x (k, omega arith, same)

all_pass : {X : Type 0} (p : X → Bool) (xs : List X) → ((x : X) → Contains xs x → p x ≡ true) → list_all p xs ≡ true
all_pass p [] each = refl
all_pass p (x ∷ xs) each = let a = each x (0, omega arith, refl) in let b = all_pass p xs (λ y h. each y (contains_later x xs y h)) in cc

pub empty_parts : (h : Classes) (c : ClassId) (class : Class) → IsHierarchy h → class_at h c ≡ Some class → is_empty h c ≡ true → HasEmptyParts h class
empty_parts h c class keeps e empty =
    let k = and_parts (length class.members == 0) (not (has_virtual_function class) && list_all (leaves_empty h) class.bases) (sym (empty_here h c class keeps e) ∙ empty) in
    let l = and_parts (not (has_virtual_function class)) (list_all (leaves_empty h) class.bases) k.1 in
    record {
      no_member = none_counted class.members k.0;
      no_function = not_true (has_virtual_function class) l.0;
      bases = λ base has. let b = and_parts (not base.is_virtual) (is_empty h base.class) (each_passes (leaves_empty h) class.bases l.1 base has) in record { way = not_true base.is_virtual b.0; empty_is = b.1 };
    }

pub empty_by : (h : Classes) (c : ClassId) (class : Class) → IsHierarchy h → class_at h c ≡ Some class → HasEmptyParts h class → is_empty h c ≡ true
empty_by h c class keeps e parts =
    let a : (length class.members == 0) ≡ true = ap (λ (xs : List (Member ClassId)). length xs == 0) parts.no_member in
    let b : not (has_virtual_function class) ≡ true = ap not parts.no_function in
    let all : list_all (leaves_empty h) class.bases ≡ true = all_pass (leaves_empty h) class.bases (λ base has. let way : not base.is_virtual ≡ true = ap not (parts.bases base has).way in let empty = (parts.bases base has).empty_is in cc) in
    let here : empty_kind (is_empty h) class ≡ true = cc in
    empty_here h c class keeps e ∙ here

by_test : (b : Bool) → (b ≡ true → ⊥) → b ≡ false
by_test true f = absurd (f refl)
by_test false f = refl

-- a class with something else is not empty
pub not_empty : (h : Classes) (c : ClassId) (class : Class) → IsHierarchy h → class_at h c ≡ Some class → (HasEmptyParts h class → ⊥) → is_empty h c ≡ false
not_empty h c class keeps e other = by_test (is_empty h c) (λ t. other (empty_parts h c class keeps e t))

pub some_member : {X : Type 0} (xs : List X) → 0 < length xs → xs ≡ [] → ⊥
some_member xs gt e = let z = ap length e in omega arith

none_listed : {X : Type 0} (xs : List X) (x : X) → xs ≡ [] → Contains xs x → ⊥
none_listed xs x e (k, lt, same) = let z = ap length e in omega arith

-- a dynamic class is not empty
pub dynamic_not_empty : (h : Classes) → IsHierarchy h → (c : ClassId) → IsDynamic h c → is_empty h c ≡ true → ⊥
dynamic_not_empty h keeps _ (declares c class at t) empty = clash t (empty_parts h c class keeps at empty).no_function
dynamic_not_empty h keeps _ (shares c v way) empty = of_class (class_at h c) refl
  where
    of_class : (o : Option Class) → class_at h c ≡ o → ⊥
    of_class None at = none_listed (bases_of h c) way.base (ap bases_in at) way.listed
    of_class (Some class) at = clash way.way ((empty_parts h c class keeps at empty).bases way.base (subst (λ (xs : List (Base ClassId)). Contains xs way.base) (bases_are h c class at) way.listed)).way
dynamic_not_empty h keeps _ (inherits c d k way x) empty = of_class (class_at h c) refl (dynamic_not_empty h keeps d x)
  where
    of_class : (o : Option Class) → class_at h c ≡ o → (is_empty h d ≡ true → ⊥) → ⊥
    of_class None at never = none_listed (bases_of h c) way.base (ap bases_in at) way.listed
    of_class (Some class) at never = never (ap (is_empty h) (sym way.class) ∙ ((empty_parts h c class keeps at empty).bases way.base (subst (λ (xs : List (Base ClassId)). Contains xs way.base) (bases_are h c class at) way.listed)).empty_is)

pub listed_base : (h : Classes) (c : ClassId) (class : Class) (xs : List (Base ClassId)) (i : ℕ) → class_at h c ≡ Some class → xs ≡ class.bases → i < length xs → Contains (bases_of h c) (nth xs i)
listed_base h c class xs i e same lt = subst (λ (ys : List (Base ClassId)). Contains ys (nth xs i)) (sym (bases_are h c class e)) (nth_in xs class.bases i same lt)

pub none_of : {X : Type 0} (xs : List X) → length xs ≤ 0 → xs ≡ []
none_of [] le = refl
none_of (x ∷ xs) le = absurd (omega arith)

-- a direct base of a class of the hierarchy is one too
pub base_within : (h : Classes) (c : ClassId) (class : Class) (xs : List (Base ClassId)) → IsHierarchy h → c.0 < length h → class_at h c ≡ Some class → xs ≡ class.bases → (base : Base ClassId) → Contains xs base → base.class.0 < length h
base_within h c class xs keeps lt e same base has =
    let before = keeps.bases c base (subst (λ (ys : List (Base ClassId)). Contains ys base) (same ∙ sym (bases_are h c class e)) has) in
    omega arith
