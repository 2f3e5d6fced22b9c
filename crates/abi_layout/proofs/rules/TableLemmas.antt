-- A table of the places of virtual bases, which is made from the greatest class number down: what is held lies where its holder does.
use Rattle.std.proofs.Common.{◌≡◌, ℕ, zero, suc, ◌+◌, ◌-◌, ◌<◌, ◌≤◌, ⊎_elim, Option, Some, None, List, length, get_or, refl, ap, subst, sym, ◌∙◌, arith}
use Rattle.std.specs.Prelude.{slice_set}
use Rattle.std.proofs.lemmas.Bool.{cases_order}
use Rattle.std.proofs.lemmas.List.{get_or-set_same, get_or-set_other, length-set}
use Rattle.cxx_hierarchy.specs.declared.records.ClassId.{ClassId}
use Rattle.cxx_hierarchy.specs.Classes.{Classes}
use Rattle.cxx_subobject.specs.declared.Root.{Root}
use Rattle.cxx_subobject.specs.declared.Root.TheVariants.{Whole, Shared}
use Rattle.cxx_subobject.specs.declared.Subobject.{Subobject}
use Rattle.abi_sound.specs.declared.class_layout.ClassLayout.{ClassLayout}
use Rattle.abi_layout.specs.Layouts.{place_from}
use Rattle.abi_layout.specs.invariants.Settled.{root_by, place_by, with_place}

-- a write elsewhere leaves the place of a subobject
root_stays : (table : List ℕ) (v place : ℕ) (root : Root) → ((w : ClassId) → root ≡ Shared w → v < w.0) → root_by (slice_set table v place) root ≡ root_by table root
root_stays table v place Whole above = refl
root_stays table v place (Shared w) above = let lt = above w refl in get_or-set_other table v w.0 place 0 (λ same. absurd (omega arith))

place_stays : (h : Classes) (rows : List ClassLayout) (table : List ℕ) (v place : ℕ) (t : Subobject) → ((w : ClassId) → t.root ≡ Shared w → v < w.0) → place_by h rows (slice_set table v place) t ≡ place_by h rows table t
place_stays h rows table v place t above = ap (λ n. n + place_from h rows t.path) (root_stays table v place t.root above)

-- what holds a virtual base lies in the class itself or in a virtual base of a greater number
pub record DoesRise (holder : ℕ → Option Subobject) : Type 0 where
  pub rises : (v : ℕ) (t : Subobject) (w : ClassId) → holder v ≡ Some t → t.root ≡ Shared w → v < w.0

-- the table after the i greatest numbers: each of these that is held lies where its holder does
pub record IsTableFrom (h : Classes) (rows : List ClassLayout) (holder : ℕ → Option Subobject) (count i : ℕ) (old new : List ℕ) : Type 0 where
  pub one_each : length new ≡ count
  pub held : (v : ℕ) (t : Subobject) → v < count → count ≤ v + i → holder v ≡ Some t → get_or new v 0 ≡ place_by h rows new t
  pub kept : (v : ℕ) → holder v ≡ None → get_or new v 0 ≡ get_or old v 0

pub table_more : (h : Classes) (rows : List ClassLayout) (holder : ℕ → Option Subobject) (count i u : ℕ) (old new : List ℕ) → DoesRise holder → i < count → u ≡ count - 1 - i → IsTableFrom h rows holder count i old new
    → IsTableFrom h rows holder count (i + 1) old (with_place h rows new u (holder u))
table_more h rows holder count i u old new rising lt u_is before = at (holder u) refl
  where
    at : (o : Option Subobject) → holder u ≡ o → IsTableFrom h rows holder count (i + 1) old (with_place h rows new u o)
    at None free = record {
      one_each = before.one_each;
      held = λ v t less le held. ⊎_elim
          (λ same. absurd (clash t (subst (λ n. holder n ≡ Some t) same held)))
          (λ o. before.held v t less (⊎_elim (λ l. absurd (omega arith)) (λ g. omega arith) o) held)
          (cases_order v u);
      kept = before.kept;
    }
      where
        clash : (t : Subobject) → holder u ≡ Some t → ⊥
        clash t a = let e : None ≡ Some t = sym free ∙ a in cc
    at (Some s) here = record {
      one_each = length-set new u (place_by h rows new s) ∙ before.one_each;
      held = λ v t less le held. ⊎_elim
          (λ same. at_this v t same held)
          (λ o. later v t less (⊎_elim (λ l. absurd (omega arith)) (λ g. omega arith) o) held)
          (cases_order v u);
      kept = λ v free. get_or-set_other new u v (place_by h rows new s) 0 (λ same. differ (subst (λ n. holder n ≡ None) same free)) ∙ before.kept v free;
    }
      where
        within : u < length new
        within = let e = before.one_each in omega arith

        written : get_or (slice_set new u (place_by h rows new s)) u 0 ≡ place_by h rows new s
        written = get_or-set_same new u (place_by h rows new s) 0 within

        differ : holder u ≡ None → ⊥
        differ free = let e : None ≡ Some s = sym free ∙ here in cc

        at_this : (v : ℕ) (t : Subobject) → v ≡ u → holder v ≡ Some t → get_or (slice_set new u (place_by h rows new s)) v 0 ≡ place_by h rows (slice_set new u (place_by h rows new s)) t
        at_this v t same held =
            let e : Some t ≡ Some s = sym held ∙ (ap holder same ∙ here) in
            let is : t ≡ s = cc in
            ap (λ n. get_or (slice_set new u (place_by h rows new s)) n 0) same
            ∙ (written
            ∙ (sym (place_stays h rows new u (place_by h rows new s) s (λ w root. rising.rises u s w here root))
            ∙ ap (place_by h rows (slice_set new u (place_by h rows new s))) (sym is)))

        later : (v : ℕ) (t : Subobject) → v < count → count ≤ v + i → holder v ≡ Some t → get_or (slice_set new u (place_by h rows new s)) v 0 ≡ place_by h rows (slice_set new u (place_by h rows new s)) t
        later v t less le held =
            get_or-set_other new u v (place_by h rows new s) 0 (λ same. absurd (omega arith))
            ∙ (before.held v t less le held
            ∙ sym (place_stays h rows new u (place_by h rows new s) t (λ w root. let rises = rising.rises v t w held root in omega arith)))

-- a table in which each virtual base that is held lies where its holder does, and each other one where it lay
pub record HasTable (h : Classes) (rows : List ClassLayout) (holder : ℕ → Option Subobject) (count i : ℕ) (old : List ℕ) : Type 0 where
  pub table : List ℕ
  pub is : IsTableFrom h rows holder count i old table

-- there is one
pub table_exists : (h : Classes) (rows : List ClassLayout) (holder : ℕ → Option Subobject) (count : ℕ) (old : List ℕ) → DoesRise holder → length old ≡ count → (i : ℕ) → i ≤ count → HasTable h rows holder count i old
table_exists h rows holder count old rising e zero le = record { table = old; is = record { one_each = e; held = λ v t lt less held. absurd (omega arith); kept = λ v free. refl } }
table_exists h rows holder count old rising e (suc i) le =
    let before = table_exists h rows holder count old rising e i (omega arith) in
    let more = table_more h rows holder count i (count - 1 - i) old before.table rising (omega arith) refl before.is in
    let next : i + 1 ≡ suc i = omega arith in
    record { table = with_place h rows before.table (count - 1 - i) (holder (count - 1 - i)); is = subst (λ n. IsTableFrom h rows holder count n old (with_place h rows before.table (count - 1 - i) (holder (count - 1 - i)))) next more }
