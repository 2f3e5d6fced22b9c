-- Components placed one after the other: each lies behind the bits of those before it, and clear of their parts.
use Rattle.std.proofs.Common.{◌≡◌, ℕ, ◌+◌, ◌-◌, ◌*◌, ◌/◌, ◌≤◌, ◌<◌, true, false, Option, Some, None, List, [], ◌∷◌, inl, inr, map, refl, subst, sym, ◌∙◌, arith}
use Rattle.std.proofs.lemmas.Bool.Decides.{nat_tests}
use Rattle.std.proofs.Math.Nat.{le-max_left, le-max_right}
use Rattle.abi_emptybase.specs.declared.Part.{Part}
use Rattle.abi_emptybase.specs.Table.{same_placed_part, holds, moved_part, has_conflict}
use Rattle.abi_layout.specs.declared.component.Component.{Component}
use Rattle.abi_layout.specs.declared.component.Stage.{Stage}
use Rattle.abi_sound.specs.declared.class_layout.Bits.{Bits}
use Rattle.abi_sound.specs.Sound.{Divides}
use Rattle.abi_layout.specs.Placements.{IsCandidatePlace, at_start, behind, IsPlacedBy, IsComponentAt, IsInUnit, bit_in, bits_by, component_end, stage_after, ArePlaced, stage_after_all}
use Rattle.abi_layout.specs.invariants.Alignments.{HasFreeBit, IsFitWidth}
use Rattle.abi_layout.proofs.lists.Divisions.{zero_divides}
pub use Rattle.foundation.proofs.Members.{Has, has_left, has_right, has_cases, has_map}
pub use Rattle.foundation.proofs.Chosen.{has_any as any_true}
pub use Rattle.foundation.proofs.Truth.{split}

some_none : (n : ℕ) → Some n ≡ None → ⊥
some_none n e = cc

some_is : (m n : ℕ) → Some m ≡ Some n → m ≡ n
some_is m n e = grind arith

part_itself : (x : Part) → same_placed_part x x ≡ true
part_itself x = grind (arith, nat_tests)

-- without conflict, no part that is brought is in the table
pub none_brought : (table parts : List Part) (at : ℕ) → has_conflict table parts at ≡ false → (x : Part) → Has parts x → Has table (moved_part at x) → ⊥
none_brought table parts at none x h t =
    let inner = any_true (same_placed_part (moved_part at x)) table (moved_part at x) t (part_itself (moved_part at x)) in
    let outer = any_true (λ part. holds table (moved_part at part)) parts x h inner in
    cc

-- a component that has no width, or is a bit-field which its type can hold
abbrev pub HasFitWidth : Component → Type 0
HasFitWidth c = (width : ℕ) → c.width ≡ Some width → IsFitWidth c width

-- how a component, at its place, stands to the stage before it and to the last one, where these bits hold it
pub record IsPut (first last : Stage) (c : Component) (place : ℕ) (bits : Bits) : Type 0 where
  pub multiple : c.width ≡ None → Divides c.align place
  pub whole : c.width ≡ None → bits ≡ record { first = 0; width = 8 * c.takes }
  pub unit : (width : ℕ) → c.width ≡ Some width → IsInUnit c.align width (8 * place + bits.first) × ((bits.first < 8) × (bits.width ≡ width))
  pub behind : c.is_empty ≡ false → first.free_bit ≤ 8 * place + bits.first
  pub clear : (x : Part) → Has c.parts x → Has first.parts (moved_part place x) → ⊥
  pub ends : c.is_empty ≡ false → 8 * place + bits.first + bits.width ≤ last.free_bit
  pub reach : 8 * place + bits.first + bits.width ≤ 8 * last.size
  pub align : c.align ≤ last.align
  pub parts : (x : Part) → Has c.parts x → Has last.parts (moved_part place x)

multiple_of : (st : Stage) (c : Component) (p : ℕ) → IsCandidatePlace st c p → Divides c.align p
multiple_of st c _ (at_start e) = zero_divides c.align
multiple_of st c _ (behind p le d) = d

behind_of : (st : Stage) (c : Component) (p : ℕ) → IsCandidatePlace st c p → c.is_empty ≡ false → st.dsize ≤ p
behind_of st c _ (at_start e) f = cc
behind_of st c _ (behind p le d) f = le

-- what a stage has the later ones have
pub record Grows (first last : Stage) : Type 0 where
  pub dsize : first.dsize ≤ last.dsize
  pub free_bit : first.free_bit ≤ last.free_bit
  pub size : first.size ≤ last.size
  pub align : first.align ≤ last.align
  pub parts : (x : Part) → Has first.parts x → Has last.parts x

-- a stage with one component more: its data and its free bit lie further
record IsFurther (st next : Stage) : Type 0 where
  dsize : st.dsize ≤ next.dsize
  free_bit : st.free_bit ≤ next.free_bit
  known : HasFreeBit next

further : (st : Stage) (c : Component) (p : ℕ) → HasFreeBit st → HasFitWidth c → IsComponentAt st c p → IsFurther st (stage_after st c p)
further st c p known fit is = by c.width refl is
  where
    by : (w : Option ℕ) → c.width ≡ w → IsPlacedBy w st c p → IsFurther st (stage_after st c p)
    by None e here = split c.is_empty (λ b. c.is_empty ≡ b → IsFurther st (stage_after st c p)) on_empty on_full refl
      where
        on_empty : c.is_empty ≡ true → c.is_empty ≡ true → IsFurther st (stage_after st c p)
        on_empty t empty = let l = known.inside in let m = known.last in
            let d : (stage_after st c p).dsize ≡ st.dsize = rw empty refl in
            let f : (stage_after st c p).free_bit ≡ 8 * st.dsize = rw e (rw empty refl) in
            record { dsize = omega (arith, d); free_bit = omega (arith, f, l); known = record { inside = omega (arith, d, f); last = omega (arith, d, f) } }

        on_full : c.is_empty ≡ false → c.is_empty ≡ false → IsFurther st (stage_after st c p)
        on_full t full = let l = known.inside in let b = behind_of st c p here.candidate full in
            let d : (stage_after st c p).dsize ≡ p + c.takes = rw full (rw e refl) in
            let f : (stage_after st c p).free_bit ≡ 8 * (p + c.takes) = rw e (rw full refl) in
            record { dsize = omega (arith, d, b); free_bit = omega (arith, f, l, b); known = record { inside = omega (arith, d, f); last = omega (arith, d, f) } }
    by (Some n) e here = let full = (fit n e).has_data in let l = known.inside in let m = known.last in
        let d : (stage_after st c p).dsize ≡ (bit_in st p + n + 7) / 8 = rw full (rw e refl) in
        let f : (stage_after st c p).free_bit ≡ bit_in st p + n = rw e refl in
        record { dsize = omega (arith, d, m); free_bit = omega (arith, f); known = record { inside = omega (arith, d, f); last = omega (arith, d, f) } }

pub grows_once : (st : Stage) (c : Component) (p : ℕ) → HasFreeBit st → HasFitWidth c → IsComponentAt st c p → Grows st (stage_after st c p)
grows_once st c p known fit is =
    let f = further st c p known fit is in
    record {
      dsize = f.dsize;
      free_bit = f.free_bit;
      size = le-max_left st.size (component_end st c p);
      align = le-max_left st.align c.align;
      parts = λ x h. has_left st.parts (map (moved_part p) c.parts) x h;
    }

pub known_after : (st : Stage) (c : Component) (p : ℕ) → HasFreeBit st → HasFitWidth c → IsComponentAt st c p → HasFreeBit (stage_after st c p)
known_after st c p known fit is = (further st c p known fit is).known

pub grows_through : (a b c : Stage) → Grows a b → Grows b c → Grows a c
grows_through a b c x y = let d = x.dsize in let e = y.dsize in let f = x.free_bit in let g = y.free_bit in let s = x.size in let t = y.size in let u = x.align in let v = y.align in
    record { dsize = omega arith; free_bit = omega arith; size = omega arith; align = omega arith; parts = λ p h. y.parts p (x.parts p h) }

-- each of the components has a width that fits, if it has one
abbrev pub HaveFitWidths : List Component → Type 0
HaveFitWidths cs = (c : Component) → Has cs c → HasFitWidth c

pub grows : (st : Stage) (cs : List Component) (ps : List ℕ) → HasFreeBit st → HaveFitWidths cs → ArePlaced st cs ps → Grows st (stage_after_all st cs ps)
grows st [] ps known fit l = record { dsize = omega arith; free_bit = omega arith; size = omega arith; align = omega arith; parts = λ x h. h }
grows st (c ∷ cs) [] known fit l = absurd l
grows st (c ∷ cs) (p ∷ ps) known fit l =
    grows_through st (stage_after st c p) (stage_after_all (stage_after st c p) cs ps) (grows_once st c p known (fit c (inl refl)) l.0)
    (grows (stage_after st c p) cs ps (known_after st c p known (fit c (inl refl)) l.0) (λ x h. fit x (inr h)) l.1)

pub known_all : (st : Stage) (cs : List Component) (ps : List ℕ) → HasFreeBit st → HaveFitWidths cs → ArePlaced st cs ps → HasFreeBit (stage_after_all st cs ps)
known_all st [] ps known fit l = known
known_all st (c ∷ cs) [] known fit l = absurd l
known_all st (c ∷ cs) (p ∷ ps) known fit l = known_all (stage_after st c p) cs ps (known_after st c p known (fit c (inl refl)) l.0) (λ x h. fit x (inr h)) l.1

-- the last bit lies in the last byte
last_byte : (b n : ℕ) → b + n ≤ 8 * ((b + n + 7) / 8)
last_byte b n = omega arith

-- how a component stands to the stages right before and behind it
put_once : (st : Stage) (c : Component) (p : ℕ) → HasFreeBit st → HasFitWidth c → IsComponentAt st c p → IsPut st (stage_after st c p) c p (bits_by c.width st c p)
put_once st c p known fit is = by c.width refl is
  where
    align : c.align ≤ (stage_after st c p).align
    align = le-max_right st.align c.align

    parts : (x : Part) → Has c.parts x → Has (stage_after st c p).parts (moved_part p x)
    parts x h = has_right st.parts (map (moved_part p) c.parts) (moved_part p x) (has_map (moved_part p) c.parts x h)

    by : (w : Option ℕ) → c.width ≡ w → IsPlacedBy w st c p → IsPut st (stage_after st c p) c p (bits_by w st c p)
    by None e here = record {
      multiple = λ t. multiple_of st c p here.candidate;
      whole = λ t. refl;
      unit = λ n t. absurd (some_none n (sym t ∙ e));
      behind = λ full. let l = known.inside in let b = behind_of st c p here.candidate full in omega arith;
      clear = none_brought st.parts c.parts p here.free;
      ends = λ full. let f : (stage_after st c p).free_bit ≡ 8 * (p + c.takes) = rw e (rw full refl) in omega arith;
      reach = let m = le-max_right st.size (component_end st c p) in let f : component_end st c p ≡ p + c.takes = rw e refl in omega (arith, m, f);
      align = align;
      parts = parts;
    }
    by (Some n) e here = record {
      multiple = λ t. absurd (some_none n (sym e ∙ t));
      whole = λ t. absurd (some_none n (sym e ∙ t));
      unit = λ m t. let same : m ≡ n = some_is m n (sym t ∙ e) in let q = here.byte in
          (subst (λ b. IsInUnit c.align m b) (let o : bit_in st p ≡ 8 * p + (bit_in st p - 8 * p) = omega arith in o) (subst (λ k. IsInUnit c.align k (bit_in st p)) (sym same) here.fits), (omega arith, sym same));
      behind = λ full. omega arith;
      clear = λ x h. let k : Has [] x = subst (λ xs. Has xs x) (fit n e).parts h in absurd k;
      ends = λ full. let f : (stage_after st c p).free_bit ≡ bit_in st p + n = rw e refl in omega arith;
      reach = let m = le-max_right st.size (component_end st c p) in let f : component_end st c p ≡ (bit_in st p + n + 7) / 8 = rw e refl in let l = last_byte (bit_in st p) n in omega (arith, m, f, l);
      align = align;
      parts = parts;
    }

-- what is put stands so to the later stages
put_later : (st next last : Stage) (c : Component) (p : ℕ) (bits : Bits) → Grows next last → IsPut st next c p bits → IsPut st last c p bits
put_later st next last c p bits g is = record {
  multiple = is.multiple;
  whole = is.whole;
  unit = is.unit;
  behind = is.behind;
  clear = is.clear;
  ends = λ e. let f = is.ends e in let d = g.free_bit in omega arith;
  reach = let f = is.reach in let d = g.size in omega arith;
  align = let f = is.align in let d = g.align in omega arith;
  parts = λ x h. g.parts (moved_part p x) (is.parts x h);
}

pub put_here : (st : Stage) (c : Component) (p : ℕ) (cs : List Component) (ps : List ℕ) → HasFreeBit st → HasFitWidth c → HaveFitWidths cs → IsComponentAt st c p → ArePlaced (stage_after st c p) cs ps → IsPut st (stage_after_all (stage_after st c p) cs ps) c p (bits_by c.width st c p)
put_here st c p cs ps known fit fits is rest =
    put_later st (stage_after st c p) (stage_after_all (stage_after st c p) cs ps) c p (bits_by c.width st c p) (grows (stage_after st c p) cs ps (known_after st c p known fit is) fits rest) (put_once st c p known fit is)

pub put_earlier : (st next last : Stage) (c : Component) (p : ℕ) (bits : Bits) → Grows st next → IsPut next last c p bits → IsPut st last c p bits
put_earlier st next last c p bits g is = record {
  multiple = is.multiple;
  whole = is.whole;
  unit = is.unit;
  behind = λ e. let f = is.behind e in let d = g.free_bit in omega arith;
  clear = λ x h t. is.clear x h (g.parts (moved_part p x) t);
  ends = is.ends;
  reach = is.reach;
  align = is.align;
  parts = is.parts;
}
