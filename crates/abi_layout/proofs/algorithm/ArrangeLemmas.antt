-- Lemmas on a class whose components are placed.
use Rattle.std.proofs.Common.{◌+◌, ◌*◌, [], ◌∷◌, ◌≡◌, ℕ, ◌<◌, ◌≤◌, Bool, true, false, List, ap, subst, sym, ◌∙◌, arith}
use Rattle.std.specs.Prelude.{max, if◌then◌else◌, All, map}
use Rattle.std.proofs.lemmas.List.{append-nil}
use Rattle.std.proofs.lemmas.List.Elements.{All-nil, All-cons}
use Rattle.abi_emptybase.specs.Table.{moved_part}
use Rattle.cxx_hierarchy.specs.declared.records.ClassId.{ClassId}
use Rattle.abi_emptybase.specs.declared.Part.{Part}
use Rattle.abi_layout.specs.Limits.{size_limit}
use Rattle.abi_layout.specs.declared.component.Component.{Component}
use Rattle.abi_layout.specs.declared.component.Stage.{Stage}
use Rattle.abi_layout.specs.declared.placing.Placing.{Placing}
use Rattle.abi_layout.specs.declared.arrangement.Arrangement.{Arrangement}
use Rattle.abi_sound.specs.declared.class_layout.Bits.{Bits}
use Rattle.abi_sound.specs.declared.class_layout.ClassLayout.{ClassLayout}
use Rattle.abi_layout.specs.Placements.{IsNextMultiple, ArePlaced, component_end, stage_after, stage_after_all, parts_at, stage_before_all}
use Rattle.abi_layout.specs.invariants.Alignments.{IsAlignment, byte, eight_bytes, LieUpTo, HasFreeBit, AreFit, IsPlacing, ListsFirstParts, IsPastLimit}
use Rattle.abi_layout.specs.Layouts.{IsLayoutBy}
use Rattle.abi_layout.specs.invariants.Arrangements.{stage_with, IsWithinLimit, IsTooLargeBy}
use Rattle.abi_layout.proofs.rules.Parts.{within_further, within_both, table_stays}
use Rattle.abi_layout.proofs.rules.PlacingLemmas.{size_grows, parts_before, place_before_end, places_are_one, next_within}

pub start_is_placing : (old new : Placing) (c : ClassId) (b : Bool) → ListsFirstParts old → old.stage ≡ stage_before_all c → new.table ≡ old.table → new.listed ≡ old.listed → new.stage ≡ stage_with b old.stage.parts → IsPlacing new
start_is_placing old new c b table e same listed is = record {
  table = table_stays old new [] same listed (ap (λ (s : Stage). s.parts) is ∙ sym (append-nil old.stage.parts)) table;
  align = subst (λ (s : Stage). IsAlignment s.align) (sym is) (alignment b);
  free_bit = subst HasFreeBit (sym is) (record { inside = free_inside b; last = free_last b });
  dsize = subst (λ (s : Stage). s.dsize ≤ s.size) (sym is) (omega arith);
  size = subst (λ (s : Stage). s.size ≤ size_limit) (sym is) (small b);
  parts = subst (λ (s : Stage). LieUpTo s.size s.parts) (sym is) (subst (λ (s : Stage). LieUpTo (if b then 8 else 0) s.parts) (sym e) (omega arith, tt));
}
  where
    alignment : (x : Bool) → IsAlignment (if x then 8 else 1)
    alignment true = eight_bytes
    alignment false = byte

    free_inside : (x : Bool) → (if x then 64 else 0) ≤ 8 * (if x then 8 else 0)
    free_inside true = omega arith
    free_inside false = omega arith

    free_last : (x : Bool) → 8 * (if x then 8 else 0) < (if x then 64 else 0) + 8
    free_last true = omega arith
    free_last false = omega arith

    small : (x : Bool) → (if x then 8 else 0) ≤ size_limit
    small true = omega arith
    small false = omega arith

abbrev pub arrangement : (size align dsize nvsize nvalign : ℕ) → (fronts members : List ℕ) → List Bits → (frees : List ℕ) → (parts member_parts : List Part) → Arrangement
arrangement size align dsize nvsize nvalign fronts members bits frees parts member_parts = record { size = size; align = align; dsize = dsize; nvsize = nvsize; nvalign = nvalign; front_places = fronts; member_places = members; member_bits = bits; free_places = frees; parts = parts; member_parts = member_parts }

-- each place is within the limit where the last stage is
pub placed_little : (stage : Stage) (cs : List Component) (ps : List ℕ) → ArePlaced stage cs ps → (stage_after_all stage cs ps).size ≤ size_limit → All (λ (p : ℕ). p ≤ size_limit) ps
placed_little stage [] [] placed le = All-nil (λ (p : ℕ). p ≤ size_limit)
placed_little stage [] (p ∷ ps) placed le = absurd placed
placed_little stage (c ∷ cs) [] placed le = All-nil (λ (p : ℕ). p ≤ size_limit)
placed_little stage (c ∷ cs) (p ∷ ps) placed le =
    let g = size_grows (stage_after stage c p) cs ps in
    let e = place_before_end stage c p in
    All-cons (λ (p : ℕ). p ≤ size_limit) p ps (omega arith) (placed_little (stage_after stage c p) cs ps placed.1 le)

-- what components bring lies within the stage behind them
pub placed_within : (stage : Stage) (cs : List Component) (ps : List ℕ) → AreFit cs → ArePlaced stage cs ps → LieUpTo (stage_after_all stage cs ps).size (parts_at cs ps)
placed_within stage [] ps fit placed = tt
placed_within stage (c ∷ cs) [] fit placed = tt
placed_within stage (c ∷ cs) (p ∷ ps) fit placed =
    let last = (stage_after_all (stage_after stage c p) cs ps).size in
    let g = size_grows (stage_after stage c p) cs ps in
    within_both last (map (moved_part p) c.parts) (parts_at cs ps)
    (within_further (component_end stage c p) last (map (moved_part p) c.parts) (omega arith) (parts_before stage c p fit.0))
    (placed_within (stage_after stage c p) cs ps fit.1 placed.1)

pub arranged_within : (mid inner last : Placing) (ms vs : List Component) (pod : Bool) (ps qs : List ℕ) (bits : List Bits) (rs : List ℕ) (size dsize nvsize : ℕ) (member_parts : List Part)
    → AreFit ms → ArePlaced mid.stage ms qs → inner.stage ≡ stage_after_all mid.stage ms qs → member_parts ≡ parts_at ms qs
    → IsPlacing inner → IsPlacing last → last.stage ≡ stage_after_all inner.stage vs rs → IsNextMultiple (max 1 last.stage.size) last.stage.align size → nvsize ≡ (if pod then size else inner.stage.size)
    → IsWithinLimit (arrangement size last.stage.align dsize nvsize inner.stage.align ps qs bits rs last.stage.parts member_parts)
arranged_within mid inner last ms vs pod ps qs bits rs size dsize nvsize member_parts fit placed m are i l e next n =
    let behind = next.behind in
    let small = l.size in
    let grows = size_grows inner.stage vs rs in
    let ends : last.stage.size ≡ (stage_after_all inner.stage vs rs).size = ap (λ (s : Stage). s.size) e in
    let kind = by_kind pod (omega arith) in
    let within : LieUpTo inner.stage.size member_parts = subst (λ (xs : List Part). LieUpTo inner.stage.size xs) (sym are) (subst (λ (s : Stage). LieUpTo s.size (parts_at ms qs)) (sym m) (placed_within mid.stage ms qs fit placed)) in
    record {
      align = l.align;
      nvalign = i.align;
      nvsize = subst (λ x. x ≤ size) (sym n) kind.0;
      size = next_within (max 1 last.stage.size) last.stage.align size l.align (omega arith) next;
      parts = within_further last.stage.size size last.stage.parts (omega arith) l.parts;
      members = within_further inner.stage.size nvsize member_parts (subst (λ x. inner.stage.size ≤ x) (sym n) kind.1) within;
    }
  where
    by_kind : (b : Bool) → inner.stage.size ≤ size → ((if b then size else inner.stage.size) ≤ size) × (inner.stage.size ≤ (if b then size else inner.stage.size))
    by_kind true le = (omega arith, le)
    by_kind false le = (le, omega arith)

past_size : (first : Stage) (fs ms vs : List Component) (pod : Bool) (ps rs : List ℕ) (row : ClassLayout) → IsLayoutBy first fs ms vs ps rs pod row → size_limit < (stage_after_all (stage_after_all (stage_after_all first fs ps) ms row.member_places) vs rs).size → size_limit < row.size
past_size first fs ms vs pod ps rs row l past = let b = l.size.behind in omega arith

-- where some of the components pass the limit, the class does
pub fronts_past : (first : Stage) (fs ms vs : List Component) (pod : Bool) → IsPastLimit first fs → IsTooLargeBy first fs ms vs pod
fronts_past first fs ms vs pod past = record {
  large = λ ps rs row l.
      let p = past.past ps l.fronts_placed in
      let g = size_grows (stage_after_all first fs ps) ms row.member_places in
      let k = size_grows (stage_after_all (stage_after_all first fs ps) ms row.member_places) vs rs in
      past_size first fs ms vs pod ps rs row l (omega arith);
}

pub members_past_by : (first mid : Stage) (fs ms vs : List Component) (pod : Bool) (ps : List ℕ) → ArePlaced first fs ps → mid ≡ stage_after_all first fs ps → IsPastLimit mid ms → IsTooLargeBy first fs ms vs pod
members_past_by first mid fs ms vs pod ps placed m past = record {
  large = λ others rs row l.
      let same : others ≡ ps = places_are_one first fs others ps l.fronts_placed placed in
      let mid_is : stage_after_all first fs others ≡ mid = ap (stage_after_all first fs) same ∙ sym m in
      let p : size_limit < (stage_after_all mid ms row.member_places).size = past.past row.member_places (subst (λ (s : Stage). ArePlaced s ms row.member_places) mid_is l.members_placed) in
      let q : size_limit < (stage_after_all (stage_after_all first fs others) ms row.member_places).size = subst (λ (s : Stage). size_limit < (stage_after_all s ms row.member_places).size) (sym mid_is) p in
      let k = size_grows (stage_after_all (stage_after_all first fs others) ms row.member_places) vs rs in
      past_size first fs ms vs pod others rs row l (omega arith);
}

pub frees_past : (first mid inner : Stage) (fs ms vs : List Component) (pod : Bool) (ps qs : List ℕ) → ArePlaced first fs ps → mid ≡ stage_after_all first fs ps → ArePlaced mid ms qs → inner ≡ stage_after_all mid ms qs → IsPastLimit inner vs → IsTooLargeBy first fs ms vs pod
frees_past first mid inner fs ms vs pod ps qs placed m placed_members i past = record {
  large = λ others rs row l.
      let same : others ≡ ps = places_are_one first fs others ps l.fronts_placed placed in
      let mid_is : stage_after_all first fs others ≡ mid = ap (stage_after_all first fs) same ∙ sym m in
      let members_same : row.member_places ≡ qs = places_are_one mid ms row.member_places qs (subst (λ (s : Stage). ArePlaced s ms row.member_places) mid_is l.members_placed) placed_members in
      let inner_is : stage_after_all (stage_after_all first fs others) ms row.member_places ≡ inner = ap (λ (s : Stage). stage_after_all s ms row.member_places) mid_is ∙ (ap (stage_after_all mid ms) members_same ∙ sym i) in
      let p : size_limit < (stage_after_all inner vs rs).size = past.past rs (subst (λ (s : Stage). ArePlaced s vs rs) inner_is l.frees_placed) in
      past_size first fs ms vs pod others rs row l (subst (λ (s : Stage). size_limit < (stage_after_all s vs rs).size) (sym inner_is) p);
}
