-- Lemmas on components placed one after the other.
use Rattle.std.proofs.Common.{◌≡◌, ℕ, zero, suc, ◌+◌, ◌*◌, ◌/◌, ◌%◌, ◌^◌, ◌<◌, ◌≤◌, ⊎_elim, Bool, true, false, Option, Some, None, List, [], ◌∷◌, ◌++◌, map, refl, ap, subst, sym, ◌∙◌, arith, append_assoc}
use Rattle.std.specs.Prelude.{max, if◌then◌else◌, All}
use Rattle.std.specs.List.{slice_get}
use Rattle.std.proofs.lemmas.Bool.{cases_order}
use Rattle.std.proofs.lemmas.List.{append-nil}
use Rattle.std.proofs.lemmas.List.Elements.{All-nil}
use Rattle.std.proofs.lemmas.Nat.{div-add-mod'}
use Rattle.std.proofs.Math.Nat.{mul-le-mul_right}
use Rattle.abi_emptybase.specs.declared.Part.{Part}
use Rattle.abi_emptybase.specs.Table.{moved_part, has_conflict}
use Rattle.abi_layout.specs.Limits.{size_limit}
use Rattle.abi_layout.proofs.lists.Positives.{greater_align}
use Rattle.abi_layout.specs.declared.component.Component.{Component}
use Rattle.abi_layout.specs.declared.component.Stage.{Stage}
use Rattle.abi_sound.specs.declared.class_layout.Bits.{Bits}
use Rattle.abi_sound.specs.Sound.{Divides}
use Rattle.abi_layout.specs.Placements.{IsNextMultiple, IsCandidatePlace, at_start, behind, IsLeastFreePlace, IsInUnit, bit_in, IsBitPlace, IsPlacedBy, IsComponentAt, end_by, component_end, bits_by, bits_at, stage_after, ArePlaced, stage_after_all}
use Rattle.abi_layout.proofs.rules.Stages.{known_after}
use Rattle.abi_layout.specs.invariants.Alignments.{IsAlignment, byte, two_bytes, four_bytes, eight_bytes, LieUpTo, HasFreeBit, IsFit, AreFit, ListsFirstParts, with_parts, IsPlacing, IsPastLimit}
use Rattle.abi_layout.specs.declared.placing.Placing.{Placing}
use Rattle.abi_layout.proofs.rules.Parts.{opposed, within_further, within_moved, within_both, within_fits}

-- two multiples are an alignment apart
pub multiple_step : (a x y : ℕ) → Divides a x → Divides a y → x ≤ y → (x ≡ y → ⊥) → x + a ≤ y
multiple_step a x y d e le differ = step d.times e.times d.is e.is
  where
    step : (t u : ℕ) → x ≡ t * a → y ≡ u * a → x + a ≤ y
    step t u is_x is_y = ⊎_elim
        (λ same. absurd (differ (is_x ∙ (ap (λ z. z * a) same ∙ sym is_y))))
        (λ o. ⊎_elim
        (λ lt. let more : (t + 1) * a ≤ u * a = mul-le-mul_right a (let l : t + 1 ≤ u = omega arith in l) in let sum : (t + 1) * a ≡ t * a + a = grind arith in omega arith)
        (λ gt. let less : u * a ≤ t * a = mul-le-mul_right a (let l : u ≤ t = omega arith in l) in absurd (differ (omega arith)))
        o)
        (cases_order t u)

pub multiple_more : (a x : ℕ) → Divides a x → Divides a (x + a)
multiple_more a x d = record { times = d.times + 1; is = let e = d.is in let sum : (d.times + 1) * a ≡ d.times * a + a = grind arith in omega arith }

-- the least multiple is one
pub next_is_one : (start align p q : ℕ) → IsNextMultiple start align p → IsNextMultiple start align q → p ≡ q
next_is_one start align p q a b = let x = a.least q b.behind b.multiple in let y = b.least p a.behind a.multiple in omega arith

-- an empty base at 0
pub place_at_start : (stage : Stage) (c : Component) → c.is_empty ≡ true → has_conflict stage.parts c.parts 0 ≡ false → IsLeastFreePlace stage c 0
place_at_start stage c e free = record { candidate = at_start e; free = free; least = λ other candidate f. omega arith }

-- the first multiple behind the data is before all candidates, where 0 is none
pub first_least : (stage : Stage) (c : Component) (place : ℕ) → IsNextMultiple stage.dsize c.align place → (c.is_empty ≡ true → has_conflict stage.parts c.parts 0 ≡ true) → (other : ℕ) → IsCandidatePlace stage c other → has_conflict stage.parts c.parts other ≡ false → place ≤ other
first_least stage c place next taken _ (at_start e) free = absurd (opposed (taken e) free)
first_least stage c place next taken _ (behind other le d) free = next.least other le d

pub place_behind : (stage : Stage) (c : Component) (place : ℕ) → stage.dsize ≤ place → Divides c.align place → ((other : ℕ) → IsCandidatePlace stage c other → has_conflict stage.parts c.parts other ≡ false → place ≤ other) → has_conflict stage.parts c.parts place ≡ false → IsLeastFreePlace stage c place
place_behind stage c place le d least free = record { candidate = behind place le d; free = free; least = least }

-- the next multiple is before all candidates, where this one is taken
pub next_least : (stage : Stage) (c : Component) (place : ℕ) → Divides c.align place → ((other : ℕ) → IsCandidatePlace stage c other → has_conflict stage.parts c.parts other ≡ false → place ≤ other) → has_conflict stage.parts c.parts place ≡ true → (other : ℕ) → IsCandidatePlace stage c other → has_conflict stage.parts c.parts other ≡ false → place + c.align ≤ other
next_least stage c place d least taken _ (at_start e) free =
    let le = least 0 (at_start e) free in
    let zero_is : place ≡ 0 = omega arith in
    absurd (opposed (subst (λ z. has_conflict stage.parts c.parts z ≡ true) zero_is taken) free)
next_least stage c place d least taken _ (behind other le e) free =
    multiple_step c.align place other d e (least other (behind other le e) free)
    (λ same. opposed (subst (λ z. has_conflict stage.parts c.parts z ≡ true) same taken) free)

-- the place is one
pub place_is_one : (stage : Stage) (c : Component) (p q : ℕ) → IsLeastFreePlace stage c p → IsLeastFreePlace stage c q → p ≡ q
place_is_one stage c p q a b = let x = a.least q b.candidate b.free in let y = b.least p a.candidate a.free in omega arith

-- the place of a bit-field is one
bit_place_is_one : (stage : Stage) (bytes width p q : ℕ) → IsBitPlace stage bytes width p → IsBitPlace stage bytes width q → p ≡ q
bit_place_is_one stage bytes width p q a b =
    let x = a.least (bit_in stage q) (omega arith) b.fits in
    let y = b.least (bit_in stage p) (omega arith) a.fits in
    let c = a.byte in
    let d = b.byte in
    omega (arith, x, y, c, d)

pub placed_is_one : (stage : Stage) (c : Component) (p q : ℕ) → IsComponentAt stage c p → IsComponentAt stage c q → p ≡ q
placed_is_one stage c p q a b = by c.width a b
  where
    by : (w : Option ℕ) → IsPlacedBy w stage c p → IsPlacedBy w stage c q → p ≡ q
    by None x y = place_is_one stage c p q x y
    by (Some n) x y = bit_place_is_one stage c.align n p q x y

-- the places are one list
pub places_are_one : (stage : Stage) (cs : List Component) (ps qs : List ℕ) → ArePlaced stage cs ps → ArePlaced stage cs qs → ps ≡ qs
places_are_one stage [] [] [] a b = refl
places_are_one stage [] [] (q ∷ qs) a b = absurd b
places_are_one stage [] (p ∷ ps) qs a b = absurd a
places_are_one stage (c ∷ cs) [] qs a b = absurd a
places_are_one stage (c ∷ cs) (p ∷ ps) [] a b = absurd b
places_are_one stage (c ∷ cs) (p ∷ ps) (q ∷ qs) a b =
    let e = placed_is_one stage c p q a.0 b.0 in
    let rest = places_are_one (stage_after stage c q) cs ps qs (subst (λ z. ArePlaced (stage_after stage c z) cs ps) e a.1) b.1 in
    ap (λ z. z ∷ ps) e ∙ ap (λ z. q ∷ z) rest

-- where a component ends that is no bit-field
pub whole_end : (stage : Stage) (c : Component) (place : ℕ) → c.width ≡ None → component_end stage c place ≡ place + c.takes
whole_end stage c place e = ap (λ w. end_by w stage c place) e

-- the size only grows
pub size_grows : (stage : Stage) (cs : List Component) (ps : List ℕ) → stage.size ≤ (stage_after_all stage cs ps).size
size_grows stage [] ps = omega arith
size_grows stage (c ∷ cs) [] = omega arith
size_grows stage (c ∷ cs) (p ∷ ps) = let r = size_grows (stage_after stage c p) cs ps in omega arith

-- the rest of the places of which some are known
pub record HasRest (stage : Stage) (todo : List Component) (last : Stage) : Type 0 where
  pub rest : List ℕ
  pub placed : ArePlaced stage todo rest
  pub ends : stage_after_all stage todo rest ≡ last

-- with these places some components are placed, and the rest is to be placed from `stage` on
pub record Completes (first : Stage) (cs : List Component) (places : List ℕ) (stage : Stage) (todo : List Component) : Type 0 where
  pub whole : (rest : List ℕ) → ArePlaced stage todo rest → ArePlaced first cs (places ++ rest)
  pub ends : (rest : List ℕ) → ArePlaced stage todo rest → stage_after_all first cs (places ++ rest) ≡ stage_after_all stage todo rest
  pub only : (all : List ℕ) → ArePlaced first cs all → HasRest stage todo (stage_after_all first cs all)

pub completes_more : (first : Stage) (cs : List Component) (places : List ℕ) (stage : Stage) (c : Component) (todo : List Component) (place : ℕ) → Completes first cs places stage (c ∷ todo) → IsComponentAt stage c place → Completes first cs (places ++ place ∷ []) (stage_after stage c place) todo
completes_more first cs places stage c todo place k here = record {
  whole = λ rest a. subst (λ xs. ArePlaced first cs xs) (sym (append_assoc places (place ∷ []) rest)) (k.whole (place ∷ rest) (here, a));
  ends = λ rest a. ap (stage_after_all first cs) (append_assoc places (place ∷ []) rest) ∙ k.ends (place ∷ rest) (here, a);
  only = λ all a. shorter (stage_after_all first cs all) (k.only all a);
}
  where
    split_rest : (last : Stage) (rest : List ℕ) → ArePlaced stage (c ∷ todo) rest → stage_after_all stage (c ∷ todo) rest ≡ last → HasRest (stage_after stage c place) todo last
    split_rest last [] a e = absurd a
    split_rest last (p ∷ rest) a e =
        let same = placed_is_one stage c p place a.0 here in
        record {
          rest = rest;
          placed = subst (λ z. ArePlaced (stage_after stage c z) todo rest) same a.1;
          ends = ap (λ z. stage_after_all (stage_after stage c z) todo rest) (sym same) ∙ e;
        }

    shorter : (last : Stage) → HasRest stage (c ∷ todo) last → HasRest (stage_after stage c place) todo last
    shorter last h = split_rest last h.rest h.placed h.ends

-- nothing is left to be placed
pub completes_all : (first : Stage) (cs : List Component) (places : List ℕ) (stage : Stage) (todo : List Component) → todo ≡ [] → Completes first cs places stage todo → ArePlaced first cs places
completes_all first cs places stage todo none k = subst (λ xs. ArePlaced first cs xs) (append-nil places) (k.whole [] (subst (λ (xs : List Component). ArePlaced stage xs []) (sym none) tt))

pub completes_stage : (first : Stage) (cs : List Component) (places : List ℕ) (stage : Stage) (todo : List Component) → todo ≡ [] → Completes first cs places stage todo → stage ≡ stage_after_all first cs places
completes_stage first cs places stage todo none k =
    let placed : ArePlaced stage todo [] = subst (λ (xs : List Component). ArePlaced stage xs []) (sym none) tt in
    let e : stage_after_all stage todo [] ≡ stage = ap (λ (xs : List Component). stage_after_all stage xs []) none in
    sym e ∙ (sym (k.ends [] placed) ∙ ap (stage_after_all first cs) (append-nil places))

-- these are the bits of the components that are placed
pub record HasBits (first : Stage) (cs : List Component) (places : List ℕ) (bits : List Bits) (stage : Stage) (todo : List Component) : Type 0 where
  pub whole : (rest : List ℕ) → bits_at first cs (places ++ rest) ≡ bits ++ bits_at stage todo rest

pub bits_more : (first : Stage) (cs : List Component) (places : List ℕ) (bits : List Bits) (stage : Stage) (c : Component) (todo : List Component) (place : ℕ) → HasBits first cs places bits stage (c ∷ todo)
    → HasBits first cs (places ++ place ∷ []) (bits ++ bits_by c.width stage c place ∷ []) (stage_after stage c place) todo
bits_more first cs places bits stage c todo place k = record {
  whole = λ rest. ap (bits_at first cs) (append_assoc places (place ∷ []) rest) ∙ (k.whole (place ∷ rest) ∙ sym (append_assoc bits (bits_by c.width stage c place ∷ []) (bits_at (stage_after stage c place) todo rest)));
}

pub bits_all : (first : Stage) (cs : List Component) (places : List ℕ) (bits : List Bits) (stage : Stage) (todo : List Component) → todo ≡ [] → HasBits first cs places bits stage todo → bits ≡ bits_at first cs places
bits_all first cs places bits stage todo none k =
    let e : bits_at stage todo [] ≡ [] = ap (λ (xs : List Component). bits_at stage xs []) none in
    sym (append-nil bits) ∙ (ap (λ (xs : List Bits). bits ++ xs) (sym e) ∙ (sym (k.whole []) ∙ ap (bits_at first cs) (append-nil places)))

-- a component lies behind the limit, or ends there
past_rest : (stage : Stage) (c : Component) (todo : List Component) (last : Stage) (limit : ℕ) → ((p : ℕ) → IsComponentAt stage c p → limit < component_end stage c p) → HasRest stage (c ∷ todo) last → limit < last.size
past_rest stage c todo last limit past h = at h.rest h.placed h.ends
  where
    at : (rest : List ℕ) → ArePlaced stage (c ∷ todo) rest → stage_after_all stage (c ∷ todo) rest ≡ last → limit < last.size
    at [] a e = absurd a
    at (p ∷ rest) a e =
        let g = size_grows (stage_after stage c p) todo rest in
        let b = past p a.0 in
        let s : (stage_after_all (stage_after stage c p) todo rest).size ≡ last.size = ap (λ (z : Stage). z.size) e in
        omega arith

pub completes_past : (first : Stage) (cs : List Component) (places : List ℕ) (stage : Stage) (c : Component) (todo : List Component) → Completes first cs places stage (c ∷ todo) → ((p : ℕ) → IsComponentAt stage c p → size_limit < component_end stage c p) → IsPastLimit first cs
completes_past first cs places stage c todo k past = record { past = λ all a. past_rest stage c todo (stage_after_all first cs all) size_limit past (k.only all a) }

pub fit_at : (cs : List Component) (i : ℕ) (c : Component) → AreFit cs → slice_get cs i ≡ Some c → IsFit c
fit_at [] i c fit e = cc
fit_at (x ∷ cs) zero c fit e = let same : x ≡ c = cc in subst IsFit same fit.0
fit_at (x ∷ cs) (suc i) c fit e = fit_at cs i c fit.1 e

-- the limit of sizes is a multiple of each alignment
pub limit_multiple : (a : ℕ) → IsAlignment a → Divides a size_limit
limit_multiple _ byte = record { times = size_limit; is = refl }
limit_multiple _ two_bytes = record { times = 250000; is = refl }
limit_multiple _ four_bytes = record { times = 125000; is = refl }
limit_multiple _ eight_bytes = record { times = 62500; is = refl }

pub next_within : (start align place : ℕ) → IsAlignment align → start ≤ size_limit → IsNextMultiple start align place → place ≤ size_limit
next_within start align place known le next = next.least size_limit le (limit_multiple align known)

pub align_small : (a : ℕ) → IsAlignment a → (1 ≤ a) × (a ≤ 8)
align_small _ byte = (omega arith, omega arith)
align_small _ two_bytes = (omega arith, omega arith)
align_small _ four_bytes = (omega arith, omega arith)
align_small _ eight_bytes = (omega arith, omega arith)

-- the class subobjects of a component lie before its end
pub parts_before : (stage : Stage) (c : Component) (at : ℕ) → IsFit c → LieUpTo (component_end stage c at) (map (moved_part at) c.parts)
parts_before stage c at fit = by c.width refl
  where
    by : (w : Option ℕ) → c.width ≡ w → LieUpTo (end_by w stage c at) (map (moved_part at) c.parts)
    by None e = within_moved c.takes at c.parts fit.parts
    by (Some n) e = subst (λ (ps : List Part). LieUpTo (end_by (Some n) stage c at) (map (moved_part at) ps)) (sym (fit.width n e).parts) tt

-- a component lies where it ends, or before
pub place_before_end : (stage : Stage) (c : Component) (at : ℕ) → at ≤ component_end stage c at
place_before_end stage c at = by c.width
  where
    by : (w : Option ℕ) → at ≤ end_by w stage c at
    by None = omega arith
    by (Some n) = omega arith

-- what a component brings lies, at its place, within numbers of 32 bits
pub moves_within : (stage : Stage) (c : Component) (at : ℕ) → IsFit c → component_end stage c at ≤ size_limit → All (λ (part : Part). part.place + at < 2 ^ 32) c.parts
moves_within stage c at fit bounded = by c.width refl bounded
  where
    by : (w : Option ℕ) → c.width ≡ w → end_by w stage c at ≤ size_limit → All (λ (part : Part). part.place + at < 2 ^ 32) c.parts
    by None e le = within_fits c.takes at c.parts (omega arith) fit.parts
    by (Some n) e le = subst (λ (ps : List Part). All (λ (part : Part). part.place + at < 2 ^ 32) ps) (sym (fit.width n e).parts) (All-nil (λ (part : Part). part.place + at < 2 ^ 32))

-- a component that is put keeps the table and the limits
pub put_keeps : (old new : Placing) (c : Component) (at : ℕ) → IsPlacing old → IsFit c → IsComponentAt old.stage c at → component_end old.stage c at ≤ size_limit → ListsFirstParts new → new.stage ≡ stage_after old.stage c at → IsPlacing new
put_keeps old new c at placing fit placed bounded table is = record {
  table = table;
  align = subst (λ (s : Stage). IsAlignment s.align) (sym is) (greater_align old.stage.align c.align placing.align fit.align);
  free_bit = subst HasFreeBit (sym is) (known_after old.stage c at placing.free_bit fit.width placed);
  dsize = subst (λ (s : Stage). s.dsize ≤ s.size) (sym is) (data_below c.is_empty);
  size = subst (λ (s : Stage). s.size ≤ size_limit) (sym is) (let s = placing.size in omega arith);
  parts = subst (λ (s : Stage). LieUpTo s.size s.parts) (sym is)
      (within_both (max old.stage.size (component_end old.stage c at)) old.stage.parts (map (moved_part at) c.parts)
      (within_further old.stage.size (max old.stage.size (component_end old.stage c at)) old.stage.parts (omega arith) placing.parts)
      (within_further (component_end old.stage c at) (max old.stage.size (component_end old.stage c at)) (map (moved_part at) c.parts) (omega arith) (parts_before old.stage c at fit)));
}
  where
    data_below : (b : Bool) → (if b then old.stage.dsize else component_end old.stage c at) ≤ max old.stage.size (component_end old.stage c at)
    data_below true = let d = placing.dsize in omega arith
    data_below false = omega arith

abbrev pub stage_of : ℕ → ℕ → ℕ → ℕ → List Part → Stage
stage_of dsize free_bit size align parts = record { dsize = dsize; free_bit = free_bit; size = size; align = align; parts = parts }

-- the stage that was made is the one after the component
pub stage_is_after : (old added : Stage) (c : Component) (at dsize free_bit size align : ℕ) → added ≡ with_parts old (map (moved_part at) c.parts)
    → dsize ≡ (stage_after old c at).dsize → free_bit ≡ (stage_after old c at).free_bit → size ≡ max added.size (component_end old c at) → align ≡ max added.align c.align
    → stage_of dsize free_bit size align added.parts ≡ stage_after old c at
stage_is_after old added c at dsize free_bit size align is d f s a =
    ap (λ x. stage_of x free_bit size align added.parts) d
    ∙ (ap (λ x. stage_of (stage_after old c at).dsize x size align added.parts) f
    ∙ (ap (λ x. stage_of (stage_after old c at).dsize (stage_after old c at).free_bit x align added.parts) (s ∙ ap (λ (z : Stage). max z.size (component_end old c at)) is)
    ∙ (ap (λ x. stage_of (stage_after old c at).dsize (stage_after old c at).free_bit (stage_after old c at).size x added.parts) (a ∙ ap (λ (z : Stage). max z.align c.align) is)
    ∙ ap (λ (z : Stage). stage_of (stage_after old c at).dsize (stage_after old c at).free_bit (stage_after old c at).size (stage_after old c at).align z.parts) is)))

-- where the bits from the free one on lie in one unit, the bit-field begins there
pub bit_place_here : (stage : Stage) (bytes width : ℕ) → 1 ≤ bytes → stage.free_bit % (8 * bytes) + width ≤ 8 * bytes → IsBitPlace stage bytes width (stage.free_bit / 8)
bit_place_here stage bytes width positive fits =
    let free = stage.free_bit in
    let same : bit_in stage (free / 8) ≡ free = omega arith in
    record {
      byte = omega arith;
      fits = subst (IsInUnit bytes width) (sym same) (record {
        unit = free / (8 * bytes);
        behind = let h = div-add-mod' free (8 * bytes) in omega (arith, h);
        before = let h = div-add-mod' free (8 * bytes) in let sum : (free / (8 * bytes) + 1) * (8 * bytes) ≡ free / (8 * bytes) * (8 * bytes) + 8 * bytes = grind arith in omega (arith, h, sum);
      });
      least = λ other le unit. omega (arith, same, le);
    }

-- else at the next unit
pub bit_place_next : (stage : Stage) (bytes width : ℕ) → 1 ≤ bytes → width ≤ 8 * bytes → 8 * bytes < stage.free_bit % (8 * bytes) + width → IsBitPlace stage bytes width ((stage.free_bit / (8 * bytes) + 1) * bytes)
bit_place_next stage bytes width positive most over = made (stage.free_bit / (8 * bytes)) (let h = div-add-mod' stage.free_bit (8 * bytes) in omega (arith, h)) (let h = div-add-mod' stage.free_bit (8 * bytes) in omega (arith, h))
  where
    made : (q : ℕ) → stage.free_bit < q * (8 * bytes) + 8 * bytes → q * (8 * bytes) + 8 * bytes < stage.free_bit + width → IsBitPlace stage bytes width ((q + 1) * bytes)
    made q below past =
        let sum : (q + 1) * (8 * bytes) ≡ q * (8 * bytes) + 8 * bytes = grind arith in
        let eight : 8 * ((q + 1) * bytes) ≡ (q + 1) * (8 * bytes) = grind arith in
        let same : bit_in stage ((q + 1) * bytes) ≡ (q + 1) * (8 * bytes) = omega (arith, sum, eight, below) in
        record {
          byte = omega (arith, sum, eight, below);
          fits = subst (IsInUnit bytes width) (sym same) (record {
            unit = q + 1;
            behind = omega arith;
            before = let more : (q + 1 + 1) * (8 * bytes) ≡ (q + 1) * (8 * bytes) + 8 * bytes = grind arith in omega (arith, more, most);
          });
          least = λ other le unit. later other le unit.unit unit.behind unit.before same;
        }
      where
        later : (other : ℕ) → stage.free_bit ≤ other → (k : ℕ) → k * (8 * bytes) ≤ other → other + width ≤ (k + 1) * (8 * bytes) → bit_in stage ((q + 1) * bytes) ≡ (q + 1) * (8 * bytes) → bit_in stage ((q + 1) * bytes) ≤ other
        later other le k start stop same = ⊎_elim
            (λ e. let u : k * (8 * bytes) ≡ q * (8 * bytes) = ap (λ z. z * (8 * bytes)) e in let sum : (k + 1) * (8 * bytes) ≡ k * (8 * bytes) + 8 * bytes = grind arith in absurd (let r : ⊥ = omega (arith, u, sum, stop, past, le) in r))
            (λ o. ⊎_elim
            (λ lt. let less : (k + 1) * (8 * bytes) ≤ q * (8 * bytes) = mul-le-mul_right (8 * bytes) (let l : k + 1 ≤ q = omega arith in l) in absurd (let r : ⊥ = omega (arith, less, stop, past, le) in r))
            (λ gt. let more : (q + 1) * (8 * bytes) ≤ k * (8 * bytes) = mul-le-mul_right (8 * bytes) (let l : q + 1 ≤ k = omega arith in l) in omega (arith, more, start, same))
            o)
            (cases_order k q)
