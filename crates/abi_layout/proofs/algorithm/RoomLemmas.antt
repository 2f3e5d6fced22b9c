-- The virtual bases that no subobject holds end within the limit of sizes.
use Rattle.std.proofs.Common.{◌≡◌, ℕ, zero, suc, ◌+◌, ◌<◌, ◌≤◌, ⊎_elim, None, List, [], ◌∷◌, map, length, get_or, replicate, refl, subst, sym, arith}
use Rattle.std.specs.Prelude.{All, slice_set}
use Rattle.std.specs.List.{slice_get}
use Rattle.std.proofs.lemmas.Bool.{cases_order}
use Rattle.std.proofs.lemmas.List.{get_or-set_same, get_or-set_other, get_or_past, length-set}
use Rattle.std.proofs.lemmas.List.Elements.{All-head, All-tail}
use Rattle.cxx_hierarchy.specs.declared.records.ClassId.{ClassId}
use Rattle.abi_layout.specs.Limits.{size_limit}
use Rattle.abi_layout.specs.declared.component.Component.{Component}
use Rattle.abi_layout.specs.declared.component.Stage.{Stage}
use Rattle.abi_sound.specs.declared.class_layout.ClassLayout.{ClassLayout}
use Rattle.abi_layout.specs.declared.placed_bases.PlacedBase.{PlacedBase}
use Rattle.abi_layout.specs.declared.placed_bases.PlacedBase.TheVariants.{Own, VirtualBase}
use Rattle.abi_layout.specs.Placements.{nvsize_in, ArePlaced, stage_after, stage_after_all}
use Rattle.abi_layout.specs.PlacedBases.{class_of_placed}
use Rattle.abi_layout.specs.invariants.Settled.{with_free, with_frees, free_table, EndsWithinLimit}
use Rattle.abi_layout.proofs.rules.PlacingLemmas.{size_grows, whole_end}

room_set : (rows : List ClassLayout) (table : List ℕ) (v place : ℕ) → place + nvsize_in (slice_get rows v) ≤ size_limit → EndsWithinLimit rows table → EndsWithinLimit rows (slice_set table v place)
room_set rows table v place fits room = record {
  each = λ n. ⊎_elim
      (λ same. subst (λ k. get_or (slice_set table v place) k 0 + nvsize_in (slice_get rows k) ≤ size_limit) (sym same) here)
      (λ o. let e : get_or (slice_set table v place) n 0 ≡ get_or table n 0 = get_or-set_other table v n place 0 (λ same. ⊎_elim (λ l. absurd (omega arith)) (λ g. absurd (omega arith)) o) in let r = room.each n in omega arith)
      (cases_order n v);
}
  where
    here : get_or (slice_set table v place) v 0 + nvsize_in (slice_get rows v) ≤ size_limit
    here = ⊎_elim
        (λ same. let le : length (slice_set table v place) ≤ v = let m = length-set table v place in omega arith in
        let e : get_or (slice_set table v place) v 0 ≡ 0 = get_or_past (slice_set table v place) v 0 le in omega arith)
        (λ o. ⊎_elim
        (λ lt. let e : get_or (slice_set table v place) v 0 ≡ place = get_or-set_same table v place 0 lt in omega arith)
        (λ gt. let le : length (slice_set table v place) ≤ v = let m = length-set table v place in omega arith in
        let e : get_or (slice_set table v place) v 0 ≡ 0 = get_or_past (slice_set table v place) v 0 le in omega arith)
        o)
        (cases_order v (length table))

room_one : (f : PlacedBase → Component) (rows : List ClassLayout) (c : ClassId) (base : PlacedBase) (table : List ℕ) (place : ℕ) → ((v : ClassId) → v.0 < c.0 → nvsize_in (slice_get rows v.0) ≤ (f (VirtualBase v)).takes) → (class_of_placed base).0 < c.0 → place + (f base).takes ≤ size_limit → EndsWithinLimit rows table → EndsWithinLimit rows (with_free table base place)
room_one f rows c (Own b) table place takes lt fits room = room
room_one f rows c (VirtualBase v) table place takes lt fits room = room_set rows table v.0 place (let t = takes v lt in omega arith) room

-- those that are placed
pub room_frees : (f : PlacedBase → Component) (rows : List ClassLayout) (c : ClassId) (stage : Stage) (bs : List PlacedBase) (places table : List ℕ) → ((base : PlacedBase) → (f base).width ≡ None) → ((v : ClassId) → v.0 < c.0 → nvsize_in (slice_get rows v.0) ≤ (f (VirtualBase v)).takes) → All (λ (base : PlacedBase). (class_of_placed base).0 < c.0) bs
    → ArePlaced stage (map f bs) places → (stage_after_all stage (map f bs) places).size ≤ size_limit → EndsWithinLimit rows table → EndsWithinLimit rows (with_frees table bs places)
room_frees f rows c stage [] places table whole takes all placed small room = room
room_frees f rows c stage (base ∷ bs) [] table whole takes all placed small room = room
room_frees f rows c stage (base ∷ bs) (p ∷ places) table whole takes all placed small room =
    let e = whole_end stage (f base) p (whole base) in
    let g = size_grows (stage_after stage (f base) p) (map f bs) places in
    room_frees f rows c (stage_after stage (f base) p) bs places (with_free table base p) whole takes (All-tail (λ (b : PlacedBase). (class_of_placed b).0 < c.0) base bs all) placed.1 small
    (room_one f rows c base table p takes (All-head (λ (b : PlacedBase). (class_of_placed b).0 < c.0) base bs all) (omega arith) room)

zeros : (count n : ℕ) → (let z : ℕ = get_or (replicate count 0) n 0 in z) ≡ 0
zeros zero n = refl
zeros (suc count) zero = refl
zeros (suc count) (suc n) = zeros count n

-- and each other one at 0
pub free_room : (f : PlacedBase → Component) (rows : List ClassLayout) (c : ClassId) (stage : Stage) (bs : List PlacedBase) (places : List ℕ) → ((base : PlacedBase) → (f base).width ≡ None) → ((v : ClassId) → v.0 < c.0 → nvsize_in (slice_get rows v.0) ≤ (f (VirtualBase v)).takes) → All (λ (base : PlacedBase). (class_of_placed base).0 < c.0) bs
    → ArePlaced stage (map f bs) places → (stage_after_all stage (map f bs) places).size ≤ size_limit → ((n : ℕ) → nvsize_in (slice_get rows n) ≤ size_limit) → EndsWithinLimit rows (free_table c.0 bs places)
free_room f rows c stage bs places whole takes all placed small each =
    room_frees f rows c stage bs places (replicate c.0 0) whole takes all placed small
    (record { each = λ n. let z = zeros c.0 n in let e = each n in omega arith })
