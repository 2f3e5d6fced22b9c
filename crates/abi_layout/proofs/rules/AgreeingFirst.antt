-- Layouts of the first classes: of one class more, and of fewer.
use Rattle.std.proofs.Common.{◌≡◌, ℕ, zero, suc, ◌+◌, ◌<◌, ◌≤◌, ⊎_elim, Bool, false, Some, None, List, [], ◌∷◌, ◌++◌, take, length, get_or, refl, ap, subst, sym, ◌∙◌, arith}
use Rattle.std.specs.Prelude.{IsTrue, ◌↔◌}
use Rattle.std.specs.List.{slice_get}
use Rattle.std.proofs.lemmas.Bool.{cases_order}
use Rattle.std.proofs.lemmas.List.{length-take-le}
use Rattle.std.proofs.lemmas.Option.{slice_get_within, get_or_from_slice_get}
use Rattle.cxx_hierarchy.specs.declared.records.ClassId.{ClassId}
use Rattle.cxx_hierarchy.specs.Classes.{Class, Classes, class_at}
use Rattle.cxx_hierarchy.specs.Hierarchies.{IsHierarchy}
use Rattle.abi_primary.specs.declared.Primary.{Primary}
use Rattle.abi_primary.specs.NearlyEmpty.{IsNearlyEmpty}
use Rattle.abi_primary.specs.PrimaryBase.{IsPrimary}
use Rattle.abi_sound.specs.declared.class_layout.ClassLayout.{ClassLayout}
use Rattle.abi_layout.specs.Layouts.{primary_of, IsLaidRow, is_shifted, IsLaidBy}
use Rattle.abi_layout.specs.Refusals.{IsNextToLayOut}
use Rattle.abi_layout.proofs.lists.Lists.{number, get_within}
use Rattle.abi_layout.proofs.lists.LastItems.{longer, last_one, old_or_last}
use Rattle.abi_layout.proofs.rules.AgreeingRows.{AgreeTo, agree_less, agree_turned, agree_item, agree_push, agree_take, primary_agrees, take_agrees}
use Rattle.abi_layout.proofs.rules.AgreeingClasses.{laid_possible, is_primary_agrees, nearly_empty_agrees, shifted_agrees, pointer_agrees, row_agrees}

-- what a list tells of a class, by lists and rows that agree
tells_agrees : (h : Classes) (n : ℕ) (rows others : List ClassLayout) (near other : List Bool) (c : ClassId) → IsHierarchy h → c.0 < n → AgreeTo n rows others → AgreeTo n near other → (IsTrue (get_or near c.0 false) ↔ IsNearlyEmpty h near (is_shifted h rows c) c) → (IsTrue (get_or other c.0 false) ↔ IsNearlyEmpty h other (is_shifted h others c) c)
tells_agrees h n rows others near other c keeps lt agree nearly told =
    let here = agree_item n near other c.0 false nearly lt in
    let shifted = shifted_agrees h rows others c keeps (agree_less (c.0 + 1) n rows others (omega arith) agree) in
    let before = agree_less c.0 n near other (omega arith) nearly in (
      λ t. subst (λ b. IsNearlyEmpty h other b c) shifted (nearly_empty_agrees h near other (is_shifted h rows c) c keeps before (told.0 (subst IsTrue (sym here) t))),
      λ e. subst IsTrue here (told.1 (nearly_empty_agrees h other near (is_shifted h rows c) c keeps (agree_turned c.0 near other before) (subst (λ b. IsNearlyEmpty h other b c) (sym shifted) e))),
    )

-- one class more is laid out
pub one_more : (h : Classes) (n : ℕ) (rows : List ClassLayout) (nearly : List Bool) (ps : List Primary) (c : ClassId) (class : Class) (row : ClassLayout) (is : Bool) (primary : Primary) → IsHierarchy h → IsLaidBy h n rows nearly ps → class_at h c ≡ Some class → c.0 ≡ n
    → IsLaidRow h (rows ++ row ∷ []) (nearly ++ is ∷ []) (ps ++ primary ∷ []) c class row → (IsTrue is ↔ IsNearlyEmpty h (nearly ++ is ∷ []) (is_shifted h (rows ++ row ∷ []) c) c)
    → IsLaidBy h (n + 1) (rows ++ row ∷ []) (nearly ++ is ∷ []) (ps ++ primary ∷ [])
one_more h n rows nearly ps c class row is primary keeps laid there same of_row told = record {
  one_each = let a = longer rows row in let b = laid.one_each in omega arith;
  tells = record {
    one_each = let a = longer nearly is in let b = laid.tells.one_each in omega arith;
    each = λ d lt. ⊎_elim
        (λ e. here d e)
        (λ o. ⊎_elim (λ l. tells_agrees h n rows (rows ++ row ∷ []) nearly (nearly ++ is ∷ []) d keeps l agree near (laid.tells.each d l)) (λ g. absurd (omega arith)) o)
        (cases_order d.0 n);
  };
  primary_each = let a = longer ps primary in let b = laid.primary_each in omega arith;
  row = λ d k r at_d at_r. ⊎_elim
      (λ old.
      let a = laid.one_each in
      let lt = slice_get_within rows d.0 r old in
      let less = slice_get_within h d.0 k at_d in
      row_agrees h rows (rows ++ row ∷ []) nearly (nearly ++ is ∷ []) ps (ps ++ primary ∷ []) d k r keeps at_d (agree_less (d.0 + 1) n rows (rows ++ row ∷ []) (omega arith) agree) (agree_less d.0 n nearly (nearly ++ is ∷ []) (omega arith) near) (agree_less (d.0 + 1) n ps (ps ++ primary ∷ []) (omega arith) alike)
      (laid_possible h n (d.0 + 1) rows nearly ps (omega arith) (omega arith) laid) (laid.row d k r at_d old))
      (λ new.
      let a = laid.one_each in
      let position : c.0 ≡ d.0 = same ∙ (sym a ∙ sym new.0) in
      let id : c ≡ d = ap number position in
      let kind : class ≡ k = let f : class_at h d ≡ Some class = subst (λ (x : ClassId). class_at h x ≡ Some class) id there in cc in
      subst (λ (z : ClassLayout). IsLaidRow h (rows ++ row ∷ []) (nearly ++ is ∷ []) (ps ++ primary ∷ []) d k z) new.1
      (subst (λ (z : Class). IsLaidRow h (rows ++ row ∷ []) (nearly ++ is ∷ []) (ps ++ primary ∷ []) d z row) kind
      (subst (λ (x : ClassId). IsLaidRow h (rows ++ row ∷ []) (nearly ++ is ∷ []) (ps ++ primary ∷ []) x class row) id of_row)))
      (old_or_last rows row d.0 r at_r);
}
  where
    agree : AgreeTo n rows (rows ++ row ∷ [])
    agree = let a = laid.one_each in agree_push n rows row (omega arith)

    near : AgreeTo n nearly (nearly ++ is ∷ [])
    near = let a = laid.tells.one_each in agree_push n nearly is (omega arith)

    alike : AgreeTo n ps (ps ++ primary ∷ [])
    alike = let a = laid.primary_each in agree_push n ps primary (omega arith)

    here : (d : ClassId) → d.0 ≡ n → IsTrue (get_or (nearly ++ is ∷ []) d.0 false) ↔ IsNearlyEmpty h (nearly ++ is ∷ []) (is_shifted h (rows ++ row ∷ []) d) d
    here d e =
        let a = laid.tells.one_each in
        let id : c ≡ d = ap number (same ∙ sym e) in
        let last : get_or (nearly ++ is ∷ []) d.0 false ≡ is = get_or_from_slice_get (nearly ++ is ∷ []) d.0 is false (ap (slice_get (nearly ++ is ∷ [])) (e ∙ sym a) ∙ last_one nearly is) in
        subst (λ b. IsTrue b ↔ IsNearlyEmpty h (nearly ++ is ∷ []) (is_shifted h (rows ++ row ∷ []) d) d) (sym last)
        (subst (λ (x : ClassId). IsTrue is ↔ IsNearlyEmpty h (nearly ++ is ∷ []) (is_shifted h (rows ++ row ∷ []) x) x) id told)

-- an item of a front is that of the list
pub taken_item : {X : Type 0} (n : ℕ) (xs : List X) (i : ℕ) (x : X) → slice_get (take n xs) i ≡ Some x → (i < n) × (slice_get xs i ≡ Some x)
taken_item zero xs i x e = let f : None ≡ Some x = e in cc
taken_item (suc n) [] i x e = let f : None ≡ Some x = e in cc
taken_item (suc n) (y ∷ xs) zero x e = (omega arith, e)
taken_item (suc n) (y ∷ xs) (suc i) x e = let r = taken_item n xs i x e in let lt = r.0 in (omega arith, r.1)

-- the first n of the classes that are laid out
pub taken : (h : Classes) (count n : ℕ) (rows : List ClassLayout) (nearly : List Bool) (ps : List Primary) → IsHierarchy h → IsLaidBy h count rows nearly ps → n ≤ count → IsLaidBy h n (take n rows) (take n nearly) (take n ps)
taken h count n rows nearly ps keeps laid le = record {
  one_each = let a = laid.one_each in length-take-le n rows (omega arith);
  tells = record {
    one_each = let a = laid.tells.one_each in length-take-le n nearly (omega arith);
    each = λ d lt. tells_agrees h n rows (take n rows) nearly (take n nearly) d keeps lt (agree_take n rows) (agree_take n nearly) (laid.tells.each d (omega arith));
  };
  primary_each = let a = laid.primary_each in length-take-le n ps (omega arith);
  row = λ d k r at_d at_r.
      let old = taken_item n rows d.0 r at_r in
      let lt = old.0 in
      let less = slice_get_within h d.0 k at_d in
      row_agrees h rows (take n rows) nearly (take n nearly) ps (take n ps) d k r keeps at_d (agree_less (d.0 + 1) n rows (take n rows) (omega arith) (agree_take n rows)) (agree_less d.0 n nearly (take n nearly) (omega arith) (agree_take n nearly)) (agree_less (d.0 + 1) n ps (take n ps) (omega arith) (agree_take n ps))
      (laid_possible h count (d.0 + 1) rows nearly ps (omega arith) (omega arith) laid) (laid.row d k r at_d old.1);
}

-- what a layout says of one of its classes, as the next one of those before it
pub record IsOneOf (h : Classes) (rows : List ClassLayout) (ps : List Primary) (c : ClassId) : Type 0 where
  pub next : IsNextToLayOut h c
  pub row : ClassLayout
  pub there : slice_get rows c.0 ≡ Some row
  pub rows_are : next.rows ≡ take c.0 rows
  pub primaries_are : next.primaries ≡ take (c.0 + 1) ps

pub one_of : (h : Classes) (count : ℕ) (rows : List ClassLayout) (nearly : List Bool) (ps : List Primary) (c : ClassId) → IsHierarchy h → count ≤ length h → c.0 < count → IsLaidBy h count rows nearly ps → IsOneOf h rows ps c
one_of h count rows nearly ps c keeps within lt laid =
    let a = laid.one_each in
    let b = laid.primary_each in
    let class = get_within h c.0 (omega arith) in
    let row = get_within rows c.0 (omega arith) in
    let is = laid.row c class.0 row.0 class.1 row.1 in
    let alike : AgreeTo (c.0 + 1) ps (take (c.0 + 1) ps) = agree_take (c.0 + 1) ps in
    let front : take c.0 ps ≡ take c.0 (take (c.0 + 1) ps) = take_agrees c.0 ps (take (c.0 + 1) ps) (agree_less c.0 (c.0 + 1) ps (take (c.0 + 1) ps) (omega arith) alike) in
    let first : primary_of ps c ≡ primary_of (take (c.0 + 1) ps) c = primary_agrees (c.0 + 1) ps (take (c.0 + 1) ps) c alike (omega arith) in
    record {
      next = record {
        class = class.0;
        there = class.1;
        rows = take c.0 rows;
        nearly = take c.0 nearly;
        primaries = take (c.0 + 1) ps;
        laid = subst (IsLaidBy h c.0 (take c.0 rows) (take c.0 nearly)) front (taken h count c.0 rows nearly ps keeps laid (omega arith));
        primary_each = length-take-le (c.0 + 1) ps (omega arith);
        is_primary = subst (IsPrimary h (take c.0 nearly) (take c.0 (take (c.0 + 1) ps)) c) first
            (subst (λ (earlier : List Primary). IsPrimary h (take c.0 nearly) earlier c (primary_of ps c)) front
            (is_primary_agrees h nearly (take c.0 nearly) (take c.0 ps) c (primary_of ps c) keeps (agree_take c.0 nearly) is.is_primary));
        has_pointer = is.has_pointer;
        pointer = pointer_agrees h ps (take (c.0 + 1) ps) c is.has_pointer alike is.pointer;
      };
      row = row.0;
      there = row.1;
      rows_are = refl;
      primaries_are = refl;
    }
