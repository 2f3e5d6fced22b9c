-- Lemmas on the table of the places of virtual bases.
use Rattle.std.proofs.Common.{◌≡◌, ℕ, ◌+◌, ◌-◌, ◌<◌, ◌≤◌, ⊎_elim, false, Option, Some, None, List, length, get_or, refl, ap, subst, sym, ◌∙◌, arith}
use Rattle.std.specs.Prelude.{slice_set}
use Rattle.std.specs.List.{slice_get}
use Rattle.std.proofs.lemmas.Bool.{cases_order}
use Rattle.std.proofs.lemmas.List.{get_or-set_same, get_or-set_other}
use Rattle.cxx_hierarchy.specs.declared.records.ClassId.{ClassId}
use Rattle.std.proofs.lemmas.Option.{slice_get_read}
use Rattle.cxx_hierarchy.specs.Classes.{Classes}
use Rattle.cxx_hierarchy.specs.Hierarchies.{IsHierarchy}
use Rattle.cxx_hierarchy.specs.VirtualBases.{IsDirectBase}
use Rattle.cxx_subobject.specs.declared.Subobject.{Subobject}
use Rattle.abi_sound.specs.declared.class_layout.ClassLayout.{ClassLayout}
use Rattle.abi_layout.specs.Limits.{size_limit}
use Rattle.abi_layout.specs.Placements.{nvsize_in}
use Rattle.abi_layout.specs.invariants.Settled.{place_by, held_at, with_place, EndsWithinLimit, CanSettle, AreSettled}
use Rattle.abi_layout.proofs.rules.TableLemmas.{IsTableFrom, table_more}

-- a direct base stands before its class
pub base_below : (h : Classes) (d b : ClassId) → IsHierarchy h → IsDirectBase h d false b → b.0 < d.0
base_below h d b keeps direct =
    let falls = keeps.bases d direct.base direct.listed in
    let same : direct.base.class.0 ≡ b.0 = ap (λ (x : ClassId). x.0) direct.class in omega arith

pub held_here : (list : List Subobject) (holders : List (Option ℕ)) (v n : ℕ) (t : Subobject) → Some n ≡ get_or holders v None → n < length list → t ≡ get_or list n t → held_at list (get_or holders v None) ≡ Some t
held_here list holders v n t e lt is = ap (held_at list) (sym e) ∙ slice_get_read list (length list) n t refl lt is

pub put_here : (h : Classes) (rows : List ClassLayout) (table : List ℕ) (v place : ℕ) (t : Subobject) (o : Option Subobject) → place ≡ place_by h rows table t → o ≡ Some t → slice_set table v place ≡ with_place h rows table v o
put_here h rows table v place t o e is = ap (slice_set table v) e ∙ ap (with_place h rows table v) (sym is)

-- the table after the i greatest numbers
pub record SettledFrom (h : Classes) (rows : List ClassLayout) (list : List Subobject) (holders : List (Option ℕ)) (count i : ℕ) (old new : List ℕ) : Type 0 where
  pub one_each : length new ≡ count
  pub held : (v : ℕ) (t : Subobject) → v < count → count ≤ v + i → held_at list (get_or holders v None) ≡ Some t → get_or new v 0 ≡ place_by h rows new t
  pub kept : (v : ℕ) → held_at list (get_or holders v None) ≡ None → get_or new v 0 ≡ get_or old v 0
  pub room : EndsWithinLimit rows new

pub settled_none : (h : Classes) (rows : List ClassLayout) (list : List Subobject) (holders : List (Option ℕ)) (count : ℕ) (table : List ℕ) → length table ≡ count → EndsWithinLimit rows table → SettledFrom h rows list holders count 0 table table
settled_none h rows list holders count table e room = record { one_each = e; held = λ v t lt le held. absurd (omega arith); kept = λ v free. refl; room = room }

pub settled_more : (h : Classes) (rows : List ClassLayout) (list : List Subobject) (holders : List (Option ℕ)) (count i u : ℕ) (old new : List ℕ) → CanSettle h rows list holders → i < count → u ≡ count - 1 - i → SettledFrom h rows list holders count i old new
    → SettledFrom h rows list holders count (i + 1) old (with_place h rows new u (held_at list (get_or holders u None)))
settled_more h rows list holders count i u old new can lt u_is before = record {
  one_each = more.one_each;
  held = more.held;
  kept = more.kept;
  room = room (held_at list (get_or holders u None)) refl;
}
  where
    more : IsTableFrom h rows (λ v. held_at list (get_or holders v None)) count (i + 1) old (with_place h rows new u (held_at list (get_or holders u None)))
    more = table_more h rows (λ v. held_at list (get_or holders v None)) count i u old new (record { rises = can.rises }) lt u_is (record { one_each = before.one_each; held = before.held; kept = before.kept })

    room : (o : Option Subobject) → held_at list (get_or holders u None) ≡ o → EndsWithinLimit rows (with_place h rows new u o)
    room None free = before.room
    room (Some s) here = record {
      each = λ v. ⊎_elim
          (λ same. let e : get_or (slice_set new u (place_by h rows new s)) v 0 ≡ place_by h rows new s = ap (λ n. get_or (slice_set new u (place_by h rows new s)) n 0) same ∙ get_or-set_same new u (place_by h rows new s) 0 (let e = before.one_each in omega arith) in
          let r : place_by h rows new s + nvsize_in (slice_get rows v) ≤ size_limit = subst (λ n. place_by h rows new s + nvsize_in (slice_get rows n) ≤ size_limit) (sym same) (can.roomy u s new here before.room) in omega arith)
          (λ o. let e : get_or (slice_set new u (place_by h rows new s)) v 0 ≡ get_or new v 0 = get_or-set_other new u v (place_by h rows new s) 0 (λ same. ⊎_elim (λ l. absurd (omega arith)) (λ g. absurd (omega arith)) o) in
          let r = before.room.each v in omega arith)
          (cases_order v u);
    }

pub settled_all : (h : Classes) (rows : List ClassLayout) (list : List Subobject) (holders : List (Option ℕ)) (count i : ℕ) (old new : List ℕ) → length old ≡ count → count ≤ i → SettledFrom h rows list holders count i old new → AreSettled h rows list holders old new
settled_all h rows list holders count i old new e le from = record {
  one_each = from.one_each ∙ sym e;
  held = λ v t lt held. from.held v t (omega arith) (omega arith) held;
  kept = from.kept;
  room = from.room;
}
