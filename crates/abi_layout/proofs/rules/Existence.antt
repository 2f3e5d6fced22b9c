-- There is a place for each component, and a layout for each class.
use Rattle.std.proofs.Common.{◌≡◌, ℕ, zero, suc, ◌+◌, ◌-◌, ◌*◌, ◌/◌, ◌%◌, ◌≤◌, Bool, true, false, Option, Some, None, List, [], ◌∷◌, refl, subst, sym, arith}
use Rattle.std.specs.Prelude.{max, ◌&&◌, nat_eq, nat_le}
use Rattle.std.proofs.lemmas.Bool.{eqb-true}
use Rattle.std.proofs.lemmas.Bool.Decides.{nat_tests}
use Rattle.std.proofs.lemmas.Nat.{div-add-mod'}
use Rattle.std.proofs.Math.Nat.{mul-le-mul_right}
use Rattle.abi_emptybase.specs.declared.Part.{Part}
use Rattle.abi_emptybase.specs.Table.{same_placed_part, holds, moved_part, has_conflict}
use Rattle.abi_layout.specs.declared.component.Component.{Component}
use Rattle.abi_layout.specs.declared.component.Stage.{Stage}
use Rattle.abi_sound.specs.Sound.{Divides}
use Rattle.abi_layout.specs.Placements.{IsNextMultiple, IsCandidatePlace, IsLeastFreePlace, IsBitPlace, IsPlacedBy, IsComponentAt, ArePlaced, stage_after, stage_after_all}
use Rattle.abi_layout.proofs.rules.Parts.{split, opposed}
use Rattle.abi_layout.proofs.rules.PlacingLemmas.{place_at_start, first_least, place_behind, next_least, multiple_more, bit_place_here, bit_place_next}

abbrev pub rounded : ℕ → ℕ → ℕ
rounded start align = (start + (align - 1)) / align * align

pub rounded_is_next : (start align : ℕ) → 1 ≤ align → IsNextMultiple start align (rounded start align)
rounded_is_next start align positive =
    let h = div-add-mod' (start + (align - 1)) align in
    let lt : (start + (align - 1)) / align * align ≤ start + (align - 1) = omega (arith, h) in
    record {
      behind = omega (arith, h);
      multiple = record { times = (start + (align - 1)) / align; is = refl };
      least = λ other le divides. least other divides.times le divides.is lt;
    }
  where
    least : (other times : ℕ) → start ≤ other → other ≡ times * align → (start + (align - 1)) / align * align ≤ start + (align - 1) → (start + (align - 1)) / align * align ≤ other
    least other times le is lt = by_order ((start + (align - 1)) / align) lt
      where
        by_order : (q : ℕ) → q * align ≤ start + (align - 1) → q * align ≤ other
        by_order q below = grind (arith, mul-le-mul_right)

-- all parts lie before this place
abbrev pub top_of : List Part → ℕ
top_of [] = 0
top_of (part ∷ parts) = max (part.place + 1) (top_of parts)

none_holds : (table : List Part) (q : Part) → top_of table ≤ q.place → holds table q ≡ false
none_holds [] q le = refl
none_holds (x ∷ table) q le =
    let rest = none_holds table q (omega arith) in
    let other : nat_eq q.place x.place ≡ false = split (nat_eq q.place x.place) (λ b. b ≡ false) (λ t. let e = eqb-true q.place x.place t in absurd (omega arith)) (λ f. refl) in
    let e : same_placed_part q x ≡ false = never (nat_eq q.class x.class) (nat_eq q.place x.place) other in
    cc
  where
    never : (a b : Bool) → b ≡ false → (a && b) ≡ false
    never true b e = e
    never false b e = refl

free_behind : (table parts : List Part) (at : ℕ) → top_of table ≤ at → has_conflict table parts at ≡ false
free_behind table [] at le = refl
free_behind table (x ∷ parts) at le =
    let here = none_holds table (moved_part at x) (omega arith) in
    let rest = free_behind table parts at le in
    cc

pub record HasPlace (stage : Stage) (c : Component) : Type 0 where
  pub place : ℕ
  pub is : IsLeastFreePlace stage c place

-- a search from a multiple on, which ends behind all parts
search_from : (stage : Stage) (c : Component) (fuel at : ℕ) → 1 ≤ c.align → stage.dsize ≤ at → Divides c.align at
    → ((other : ℕ) → IsCandidatePlace stage c other → has_conflict stage.parts c.parts other ≡ false → at ≤ other) → top_of stage.parts ≤ at + fuel → HasPlace stage c
search_from stage c zero at positive behind multiple least top = record { place = at; is = place_behind stage c at behind multiple least (free_behind stage.parts c.parts at (omega arith)) }
search_from stage c (suc fuel) at positive behind multiple least top = split (has_conflict stage.parts c.parts at) (λ b. HasPlace stage c)
    (λ taken. search_from stage c fuel (at + c.align) positive (omega arith) (multiple_more c.align at multiple) (next_least stage c at multiple least taken) (omega arith))
    (λ free. record { place = at; is = place_behind stage c at behind multiple least free })

pub place_exists : (stage : Stage) (c : Component) → 1 ≤ c.align → HasPlace stage c
place_exists stage c positive = split c.is_empty (λ b. HasPlace stage c)
    (λ e. split (has_conflict stage.parts c.parts 0) (λ b. HasPlace stage c)
    (λ taken. behind_data (λ _. taken))
    (λ free. record { place = 0; is = place_at_start stage c e free }))
    (λ e. behind_data (λ t. absurd (opposed t e)))
  where
    behind_data : (c.is_empty ≡ true → has_conflict stage.parts c.parts 0 ≡ true) → HasPlace stage c
    behind_data taken =
        let next = rounded_is_next stage.dsize c.align positive in
        search_from stage c (top_of stage.parts) (rounded stage.dsize c.align) positive next.behind next.multiple (first_least stage c (rounded stage.dsize c.align) next taken) (omega arith)

-- a place for a bit-field no larger than its type
pub record HasBitPlace (stage : Stage) (bytes width : ℕ) : Type 0 where
  pub place : ℕ
  pub is : IsBitPlace stage bytes width place

bit_place_exists : (stage : Stage) (bytes width : ℕ) → 1 ≤ bytes → width ≤ 8 * bytes → HasBitPlace stage bytes width
bit_place_exists stage bytes width positive most = split (nat_le (stage.free_bit % (8 * bytes) + width) (8 * bytes)) (λ b. HasBitPlace stage bytes width)
    (λ t. record { place = stage.free_bit / 8; is = bit_place_here stage bytes width positive (grind (arith, nat_tests)) })
    (λ f. record { place = (stage.free_bit / (8 * bytes) + 1) * bytes; is = bit_place_next stage bytes width positive most (grind (arith, nat_tests)) })

-- an alignment that is not 0, and of a bit-field no more bits than its type
pub record CanLie (c : Component) : Type 0 where
  pub align : 1 ≤ c.align
  pub width : (n : ℕ) → c.width ≡ Some n → n ≤ 8 * c.align

abbrev pub ArePositive : List Component → Type 0
ArePositive [] = Unit {0}
ArePositive (c ∷ cs) = CanLie c × ArePositive cs

-- a place for a component
record IsSomewhere (stage : Stage) (c : Component) : Type 0 where
  place : ℕ
  is : IsComponentAt stage c place

somewhere : (stage : Stage) (c : Component) → CanLie c → IsSomewhere stage c
somewhere stage c can = by c.width refl
  where
    by : (w : Option ℕ) → c.width ≡ w → IsSomewhere stage c
    by None e = let made = place_exists stage c can.align in record { place = made.place; is = subst (λ w. IsPlacedBy w stage c made.place) (sym e) made.is }
    by (Some n) e = let made = bit_place_exists stage c.align n can.align (can.width n e) in record { place = made.place; is = subst (λ w. IsPlacedBy w stage c made.place) (sym e) made.is }

pub record HavePlaces (stage : Stage) (cs : List Component) : Type 0 where
  pub places : List ℕ
  pub placed : ArePlaced stage cs places

pub places_exist : (stage : Stage) (cs : List Component) → ArePositive cs → HavePlaces stage cs
places_exist stage [] positive = record { places = []; placed = tt }
places_exist stage (c ∷ cs) positive =
    let here = somewhere stage c positive.0 in
    let rest = places_exist (stage_after stage c here.place) cs positive.1 in
    record { places = here.place ∷ rest.places; placed = (here.is, rest.placed) }

pub align_grows : (stage : Stage) (cs : List Component) (ps : List ℕ) → stage.align ≤ (stage_after_all stage cs ps).align
align_grows stage [] ps = omega arith
align_grows stage (c ∷ cs) [] = omega arith
align_grows stage (c ∷ cs) (p ∷ ps) = let r = align_grows (stage_after stage c p) cs ps in omega arith
