-- Marks, and which signatures are virtual.
use Rattle.std.proofs.Common.{◌≡◌, ℕ, ◌+◌, ◌⊎◌, ◌↔◌, inl, inr, ⊎_elim, Bool, true, false, Some, List, [], ◌∷◌, ◌++◌, length, get_or, refl, ap, subst, sym, ◌∙◌, arith, length-append}
use Rattle.std.specs.List.{Contains}
use Rattle.cxx_hierarchy.specs.declared.records.ClassId.{ClassId}
use Rattle.cxx_hierarchy.specs.declared.records.Base.{Base}
use Rattle.cxx_hierarchy.specs.Classes.{Classes, bases_of}
use Rattle.cxx_hierarchy.specs.Hierarchies.{IsHierarchy}
use Rattle.cxx_subobject.specs.Subobjects.{whole, class_of, whole_of, join}
use Rattle.cxx_subobject.proofs.PathLemmas.{same_id}
use Rattle.cxx_overrider.specs.declared.FunctionId.{FunctionId}
use Rattle.cxx_overrider.specs.Functions.{Signature, signature_of, says_virtual}
use Rattle.cxx_overrider.specs.Overriding.{HasPart, HasVirtual}
use Rattle.cxx_overrider.specs.invariants.Numbers.{number_of, IsNumbering, IsNumberOf}
use Rattle.cxx_overrider.specs.invariants.Places.{base_of, IsThrough}
use Rattle.cxx_overrider.specs.invariants.Marks.{IsMarkRow, AreMarks, MarksNext, HasMarkedBase, SaysVirtual}
use Rattle.cxx_overrider.proofs.Lists.{or_front, or_last}
use Rattle.std.proofs.lemmas.Bool.{cases_lt}
use Rattle.cxx_overrider.proofs.Numbering.{same_function}
use Rattle.cxx_overrider.proofs.Paths.{through_cases, through_valid, through_class, through_join}

-- the functions of a number are those of its signature
pub number_says : (h : Classes) (rows : List (List ℕ)) (count n : ℕ) (s : Signature) (f : FunctionId) → IsNumbering h rows count → IsNumberOf h rows n s → number_of rows f ≡ Some n → signature_of h f ≡ Some s
number_says h rows count n s f is k e = is.same f k.function n e k.number ∙ k.is

pub says_number : (h : Classes) (rows : List (List ℕ)) (count n : ℕ) (s : Signature) (f : FunctionId) → IsNumbering h rows count → IsNumberOf h rows n s → signature_of h f ≡ Some s → number_of rows f ≡ Some n
says_number h rows count n s f is k e =
    let r = is.numbered f s e in
    let same : r.0 ≡ n = is.apart f k.function r.0 n r.1 k.number (e ∙ sym k.is) in
    r.1 ∙ ap (λ x. Some x) same

-- a base of the class or of a direct base
pub part_itself : (h : Classes) (c : ClassId) → HasPart h c c
part_itself h c = record { part = whole_of c; valid = whole [] tt; class = refl }

pub part_up : (h : Classes) (c d : ClassId) (base : Base ClassId) → Contains (bases_of h c) base → HasPart h base.class d → HasPart h c d
part_up h c d base listed k =
    let s = join (base_of c base) k.part in
    let t : IsThrough h c base s = through_join h c base k.part k.valid in
    record { part = s; valid = through_valid h c base s listed t; class = through_class h c base s t ∙ k.class }

abbrev pub PartBelow : Classes → (c d : ClassId) → Type 0
PartBelow h c d = (base : Base ClassId) × Contains (bases_of h c) base × HasPart h base.class d

pub part_down : (h : Classes) (c d : ClassId) → HasPart h c d → (c ≡ d) ⊎ PartBelow h c d
part_down h c d k = ⊎_elim
    (λ e. inl (let same : Some c ≡ Some d = sym (ap class_of e) ∙ k.class in cc))
    (λ b. inr (b.0, b.1, record { part = b.2.part; valid = b.2.valid; class = sym (through_class h c b.0 k.part b.2) ∙ k.class }))
    (through_cases h c k.part k.valid)

-- the class says so, or a direct base has it
pub virtual_own : (h : Classes) (c : ClassId) (s : Signature) → SaysVirtual h c s → HasVirtual h c s
virtual_own h c s k = record { source = k.source; same = k.same; says = k.says; base = subst (λ (x : ClassId). HasPart h c x) (sym k.class) (part_itself h c) }

pub virtual_up : (h : Classes) (c : ClassId) (s : Signature) (base : Base ClassId) → Contains (bases_of h c) base → HasVirtual h base.class s → HasVirtual h c s
virtual_up h c s base listed k = record { source = k.source; same = k.same; says = k.says; base = part_up h c k.source.class base listed k.base }

pub virtual_down : (h : Classes) (c : ClassId) (s : Signature) → HasVirtual h c s → SaysVirtual h c s ⊎ ((base : Base ClassId) × Contains (bases_of h c) base × HasVirtual h base.class s)
virtual_down h c s k = ⊎_elim
    (λ e. inl (record { source = k.source; class = sym e; same = k.same; says = k.says }))
    (λ b. inr (b.0, b.1, record { source = k.source; same = k.same; says = k.says; base = b.2 }))
    (part_down h c k.source.class k.base)

pub marked_virtual : (h : Classes) → IsHierarchy h → (numbers : List (List ℕ)) (rows : List (List Bool)) (c : ClassId) (n : ℕ) (s : Signature) → AreMarks h numbers (HasVirtual h) rows → length rows ≡ c.0 → IsNumberOf h numbers n s → HasMarkedBase h rows c n → HasVirtual h c s
marked_virtual h keeps numbers rows c n s are size k m = let lt = keeps.bases c m.base m.listed in virtual_up h c s m.base m.listed ((are.each m.base.class n s (omega arith) k).0 m.marked)

pub virtual_inherited : (h : Classes) → IsHierarchy h → (numbers : List (List ℕ)) (rows : List (List Bool)) (c : ClassId) (n : ℕ) (s : Signature) (inherited : Bool) → inherited ≡ true → AreMarks h numbers (HasVirtual h) rows → length rows ≡ c.0 → IsNumberOf h numbers n s → (inherited ≡ true) ↔ HasMarkedBase h rows c n → (true ≡ true) ↔ HasVirtual h c s
virtual_inherited h keeps numbers rows c n s inherited t are size k b = (λ e. marked_virtual h keeps numbers rows c n s are size k (b.0 t), λ v. refl)

pub virtual_otherwise : (h : Classes) → IsHierarchy h → (numbers : List (List ℕ)) (rows : List (List Bool)) (c : ClassId) (n : ℕ) (s : Signature) (own inherited : Bool) → inherited ≡ false → AreMarks h numbers (HasVirtual h) rows → length rows ≡ c.0 → IsNumberOf h numbers n s → (own ≡ true) ↔ SaysVirtual h c s → (inherited ≡ true) ↔ HasMarkedBase h rows c n → (own ≡ true) ↔ HasVirtual h c s
virtual_otherwise h keeps numbers rows c n s own inherited f are size k a b = (
  λ e. virtual_own h c s (a.0 e),
  λ v. ⊎_elim (λ o. a.1 o)
      (λ i. let lt = keeps.bases c i.0 i.1 in let t : inherited ≡ true = b.1 (record { base = i.0; listed = i.1; marked = (are.each i.0.class n s (omega arith) k).1 i.2 }) in cc)
      (virtual_down h c s v),
)

-- rows of marks
pub no_marks : (h : Classes) (numbers : List (List ℕ)) (P : Signature → Type 0) → IsMarkRow h numbers 0 P []
no_marks h numbers P = record { short = omega arith; each = λ n s lt k. absurd (omega arith) }

pub one_more : {X : Type 0} (xs ys : List X) (x : X) (n : ℕ) → length xs ≡ n → ys ≡ xs ++ x ∷ [] → length ys ≡ n + 1
one_more {X} xs ys x n size e = omega (arith, ap length e, length-append {A = X})

pub marks_more : (h : Classes) (numbers : List (List ℕ)) (P : Signature → Type 0) (row grown : List Bool) (n : ℕ) (b : Bool) → IsMarkRow h numbers n P row → ((s : Signature) → IsNumberOf h numbers n s → (b ≡ true) ↔ P s) → MarksNext row n b grown → IsMarkRow h numbers (n + 1) P grown
marks_more h numbers P row grown n b has new put = record {
  short = put.short;
  each = λ m s lt k. ⊎_elim
      (λ small. subst (λ (x : Bool). (x ≡ true) ↔ P s) (sym (put.kept m small)) (has.each m s small k))
      (λ past. let at : m ≡ n = omega arith in
      let value : get_or grown m false ≡ b = ap (λ i. get_or grown i false) at ∙ put.told in
      subst (λ (x : Bool). (x ≡ true) ↔ P s) (sym value) (new s (subst (λ (i : ℕ). IsNumberOf h numbers i s) at k)))
      (cases_lt m n);
}

pub no_mark_rows : (h : Classes) (numbers : List (List ℕ)) (P : ClassId → Signature → Type 0) → AreMarks h numbers P []
no_mark_rows h numbers P = record { each = λ c n s lt k. absurd (omega arith) }

pub mark_rows_more : (h : Classes) (numbers : List (List ℕ)) (count : ℕ) (P : ClassId → Signature → Type 0) (rows grown : List (List Bool)) (c : ClassId) (row : List Bool) → IsNumbering h numbers count → AreMarks h numbers P rows → length rows ≡ c.0 → IsMarkRow h numbers count (P c) row → grown ≡ rows ++ row ∷ [] → AreMarks h numbers P grown
mark_rows_more h numbers count P rows grown c row is has size new e = subst (AreMarks h numbers P) (sym e) (record {
  each = λ x n s lt k. ⊎_elim
      (λ small. subst (λ (r : List Bool). (get_or r n false ≡ true) ↔ P x s) (sym (or_front rows (row ∷ []) x.0 [] small)) (has.each x n s small k))
      (λ past. let at : x.0 ≡ length rows = let l : length (rows ++ row ∷ []) ≡ length rows + 1 = length-append rows (row ∷ []) in omega arith in
      let same : c ≡ x = same_id c x (omega arith) in
      let value : get_or (rows ++ row ∷ []) x.0 [] ≡ row = ap (λ i. get_or (rows ++ row ∷ []) i []) at ∙ or_last rows row [] in
      let few = is.few k.function n k.number in
      subst (λ (r : List Bool). (get_or r n false ≡ true) ↔ P x s) (sym value) (subst (λ (y : ClassId). (get_or row n false ≡ true) ↔ P y s) same (new.each n s few k)))
      (cases_lt x.0 (length rows));
})

pub own_decided : (h : Classes) → IsHierarchy h → (c : ClassId) (s : Signature) (f : FunctionId) (b : Bool) → f.class ≡ c → signature_of h f ≡ Some s → b ≡ says_virtual h f → (b ≡ true) ↔ SaysVirtual h c s
own_decided h keeps c s f b class same is = (
  λ e. record { source = f; class = class; same = same; says = sym is ∙ e },
  λ k. let one : k.source ≡ f = same_function h keeps k.source f s (k.class ∙ sym class) k.same same in is ∙ sym (ap (says_virtual h) one) ∙ k.says,
)
