-- Pure functions that the non-virtual part of a class leaves.
use Rattle.std.proofs.Common.{◌≡◌, ◌<◌, ℕ, ◌↔◌, Bool, true, false, Option, Some, None, List, [], ◌∷◌, length, refl, ap, subst, sym, ◌∙◌, arith}
use Rattle.std.specs.List.{slice_get}
use Rattle.cxx_hierarchy.specs.declared.records.ClassId.{ClassId}
use Rattle.cxx_hierarchy.specs.declared.records.Function.{Function}
use Rattle.cxx_hierarchy.specs.Classes.{Classes, functions_of}
use Rattle.cxx_hierarchy.specs.Hierarchies.{IsHierarchy}
use Rattle.cxx_hierarchy.specs.VirtualBases.{IsDirectBase}
use Rattle.cxx_overrider.specs.declared.FunctionId.{FunctionId}
use Rattle.cxx_overrider.specs.Functions.{Signature, signature_of, is_pure, is_pure_at}
use Rattle.cxx_overrider.specs.Overriding.{HasVirtual, IsVirtual}
use Rattle.cxx_overrider.specs.invariants.Numbers.{number_of, IsNumbering, IsNumberOf}
use Rattle.cxx_overrider.specs.invariants.Marks.{mark_of, AreMarks, HasMarkedPart}
use Rattle.cxx_overrider.specs.declared.parts.NextClass.{NextClass}
use Rattle.cxx_overrider.specs.invariants.Parts.{numbers_of, AreSignatures}
use Rattle.cxx_overrider.specs.invariants.Pure.{DeclaresNone, StandsFirst, here, below, LeavesPure}
use Rattle.cxx_overrider.proofs.Numbering.{same_function, signature_class}
use Rattle.cxx_overrider.proofs.MarkLemmas.{says_number}

pub none_declared : (h : Classes) (rows : List (List ℕ)) (count n : ℕ) (c : ClassId) (s : Signature) → IsNumbering h rows count → IsNumberOf h rows n s → ((f : FunctionId) → f.class ≡ c → number_of rows f ≡ Some n → ⊥) → DeclaresNone h c s
none_declared h rows count n c s is k none = record { none = λ f class e. none f class (says_number h rows count n s f is k e) }

-- the same for numbers that a call was lent
pub none_lent : (h : Classes) (rows lent : List (List ℕ)) (count n : ℕ) (c : ClassId) (s : Signature) → IsNumbering h rows count → IsNumberOf h rows n s → lent ≡ rows → ((f : FunctionId) → f.class ≡ c → number_of lent f ≡ Some n → ⊥) → DeclaresNone h c s
none_lent h rows lent count n c s is k same none = none_declared h rows count n c s is k (λ f class number. none f class (ap (λ (r : List (List ℕ)). number_of r f) same ∙ number))

pub next_none : (next : NextClass) (n : ℕ) (s : Signature) (lent : List (List ℕ)) → AreSignatures next.signatures.now → IsNumberOf next.signatures.now.h.now (numbers_of next.signatures.now) n s → lent ≡ numbers_of next.signatures.now → ((f : FunctionId) → f.class ≡ next.c → number_of lent f ≡ Some n → ⊥) → DeclaresNone next.signatures.now.h.now next.c s
next_none next n s lent are k same none = none_lent next.signatures.now.h.now (numbers_of next.signatures.now) lent next.signatures.now.numbering.now.count n next.c s are.numbering k same none

-- the class declares one: it stands first there
first_own : (h : Classes) → IsHierarchy h → (s : Signature) (c : ClassId) (path : List ClassId) (f g : FunctionId) → StandsFirst h s c path g → f.class ≡ c → signature_of h f ≡ Some s → g ≡ f
first_own h keeps s _ _ f _ (here g e) class same = same_function h keeps g f s (sym class) e same
first_own h keeps s _ _ f _ (below c b path g none d rest) class same = absurd (none.none f class same)

pub pure_own : (h : Classes) → IsHierarchy h → (c : ClassId) (s : Signature) (f : FunctionId) (b m : Bool) → f.class ≡ c → signature_of h f ≡ Some s → (b ≡ true) ↔ ((is_pure h f ≡ true) × (m ≡ true)) → (m ≡ true) ↔ HasVirtual h c s → (b ≡ true) ↔ LeavesPure h c s
pure_own h keeps c s f b m class same is mark = (
  λ e. let p = is.0 e in record {
    path = [];
    function = f;
    first = subst (λ (x : ClassId). StandsFirst h s x [] f) class (here f same);
    pure = p.0;
    is_virtual = record { signature = s; is = same; source = subst (λ (x : ClassId). HasVirtual h x s) (sym class) (mark.0 p.1) };
  },
  λ k.
      let one : k.function ≡ f = first_own h keeps s c k.path f k.function k.first class same in
      let pure : is_pure h f ≡ true = sym (ap (is_pure h) one) ∙ k.pure in
      let v : IsVirtual h f = subst (λ (x : FunctionId). IsVirtual h x) one k.is_virtual in
      let signature : v.signature ≡ s = let x = v.is in cc in
      is.1 (pure, mark.1 (subst (λ (x : ClassId). HasVirtual h x s) class (subst (λ (x : Signature). HasVirtual h f.class x) signature v.source))),
)

pub record FirstBelow (h : Classes) (s : Signature) (c : ClassId) (g : FunctionId) : Type 0 where
  pub b : ClassId
  pub path : List ClassId
  pub direct : IsDirectBase h c false b
  pub first : StandsFirst h s b path g

first_below : (h : Classes) (s : Signature) (c : ClassId) (path : List ClassId) (g : FunctionId) → StandsFirst h s c path g → DeclaresNone h c s → FirstBelow h s c g
first_below h s _ _ _ (here g e) none = absurd (none.none g refl e)
first_below h s _ _ _ (below c b path g other d rest) none = record { b = b; path = path; direct = d; first = rest }

pub pure_below : (h : Classes) → IsHierarchy h → (numbers : List (List ℕ)) (rows : List (List Bool)) (c : ClassId) (n : ℕ) (s : Signature) (b : Bool) → AreMarks h numbers (LeavesPure h) rows → length rows ≡ c.0 → IsNumberOf h numbers n s → DeclaresNone h c s → (b ≡ true) ↔ HasMarkedPart h rows c n → (b ≡ true) ↔ LeavesPure h c s
pure_below h keeps numbers rows c n s b are size k none is = (
  λ e.
      let m = is.0 e in
      let lt = keeps.bases c m.base m.listed in
      let p = (are.each m.base.class n s (omega arith) k).0 m.marked in
      let d : IsDirectBase h c false m.base.class = record { base = m.base; listed = m.listed; class = refl; way = m.plain } in
      record { path = m.base.class ∷ p.path; function = p.function; first = below c m.base.class p.path p.function none d p.first; pure = p.pure; is_virtual = p.is_virtual },
  λ p.
      let f = first_below h s c p.path p.function p.first none in
      let base = f.direct.base in
      let lt = keeps.bases c base f.direct.listed in
      let leaves : LeavesPure h base.class s = subst (λ (x : ClassId). LeavesPure h x s) (sym f.direct.class) (record { path = f.path; function = p.function; first = f.first; pure = p.pure; is_virtual = p.is_virtual }) in
      is.1 (record { base = base; listed = f.direct.listed; plain = f.direct.way; marked = (are.each base.class n s (omega arith) k).1 leaves }),
)

-- no function of a class is pure
none_pure_at : (o : Option (Function ClassId)) → ((x : Function ClassId) → o ≡ Some x → x.is_pure ≡ false) → is_pure_at o ≡ false
none_pure_at (Some x) all = all x refl
none_pure_at None all = refl

pub none_pure_in : (h : Classes) (c : ClassId) (list : List (Function ClassId)) → list ≡ functions_of h c → ((i : ℕ) (x : Function ClassId) → slice_get list i ≡ Some x → x.is_pure ≡ false) → (f : FunctionId) → f.class ≡ c → is_pure h f ≡ false
none_pure_in h c list is all f class = none_pure_at (slice_get (functions_of h f.class) f.index)
    (λ x e. all f.index x (subst (λ (xs : List (Function ClassId)). slice_get xs f.index ≡ Some x) (sym is) (subst (λ (d : ClassId). slice_get (functions_of h d) f.index ≡ Some x) class e)))

-- where no function is pure, rows without a mark are right
pub blank_pure : (h : Classes) (numbers : List (List ℕ)) (rows : List (List Bool)) → ((c : ClassId) (n : ℕ) → mark_of rows c n ≡ false) → ((f : FunctionId) → f.class.0 < length h → is_pure h f ≡ false) → AreMarks h numbers (LeavesPure h) rows
blank_pure h numbers rows blank none = record {
  each = λ c n s lt k. (
    λ e. let b = blank c n in cc,
    λ p. let a = none p.function (signature_class h p.function p.is_virtual.signature p.is_virtual.is) in let b = p.pure in cc,
  );
}
