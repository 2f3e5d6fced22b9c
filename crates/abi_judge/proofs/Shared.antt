-- No bit shared and no class twice at one place, by the lists of spans and keys.
use Rattle.std.proofs.Common.{◌≡◌, ℕ, ◌+◌, ◌*◌, ◌≤◌, inl, inr, ⊎_elim, Bool, true, false, ◌&&◌, Option, Some, None, List, [], ◌∷◌, ◌++◌, map, refl, ap, subst, sym, ◌∙◌, arith}
use Rattle.std.specs.Prelude.{if◌then◌else◌}
use Rattle.std.specs.List.{filter_map, cons_option}
use Rattle.foundation.proofs.Members.{Has, has_at}
use Rattle.foundation.proofs.Chosen.{from_filter_map}
use Rattle.cxx_hierarchy.specs.declared.records.ClassId.{ClassId}
use Rattle.cxx_hierarchy.specs.declared.records.FieldType.TheVariants.{Object}
use Rattle.cxx_hierarchy.specs.declared.records.ValueType.{ValueType}
use Rattle.cxx_hierarchy.specs.Classes.{Classes, width_of_member}
use Rattle.cxx_hierarchy.specs.Hierarchies.{IsHierarchy}
use Rattle.cxx_subobject.specs.declared.Subobject.{Subobject}
use Rattle.cxx_subobject.specs.declared.locations.Hop.{Hop}
use Rattle.cxx_subobject.specs.declared.locations.Hop.TheVariants.{Inherit, Member as MemberHop}
use Rattle.cxx_subobject.specs.Locations.{LeadsTo}
use Rattle.abi_primary.specs.Kinds.{IsDynamic, flag_of}
use Rattle.abi_sound.specs.Places.{size_of_value}
use Rattle.abi_sound.specs.Locations.{place_along_hops, leaf_span, pointer_span, Span, AreDisjoint}
use Rattle.abi_sound.specs.Chains.{IsInChain, ShareChain, downwards, upwards}
use Rattle.abi_sound.proofs.LeafSpans.{some_bits}
use Rattle.cxx_subobject.proofs.PathLemmas.{same_id}
use Rattle.abi_judge.specs.declared.apart.BitSpan.{BitSpan}
use Rattle.abi_judge.specs.Rules.{KeepsOverlap, KeepsTwice}
use Rattle.abi_judge.specs.invariants.Apart.{EachTwo, LieApart, ShareNoBit, AreLong, Differ, AreDistinct, span_bits}
use Rattle.abi_judge.specs.invariants.Ways.{End, to_leaf, to_part, Way, way, ways}
use Rattle.abi_judge.specs.invariants.Things.{Setting, is_top, thing_of, bits_of_leaf, span_in, key_in}
use Rattle.abi_judge.proofs.WayLemmas.{last_hop, IsLeafWay, IsPartWay, IsWayTo, LeadsToObject, ways_valid, ways_once}
use Rattle.abi_judge.proofs.Fits.{all_things, leaf_listed, part_listed, thing_way, bits_same, leaf_bits, last_hop_is, one_last}
use Rattle.abi_judge.proofs.Pairs.{two_from_pairs, pairs_from_two, pairs_mapped, mapped_pairs, decide_listed}
use Rattle.abi_judge.proofs.Heads.{KnownTo, has_head, one_chain, top_at, heads_same, front_top, front_leads, front_place, front_shares, one_class, one_front}

filter_mapped : {X Y Z : Type 0} (g : Y → Option Z) (f : X → Y) (xs : List X) → filter_map g (map f xs) ≡ filter_map (λ x. g (f x)) xs
filter_mapped g f [] = refl
filter_mapped g f (x ∷ xs) = ap (cons_option (g (f x))) (filter_mapped g f xs)

abbrev hops_of_way : Way → List Hop
hops_of_way w = w.hops

-- the bits and the key of what lies at the end of a way
abbrev span_at : Setting → ClassId → Way → Option BitSpan
span_at x c w = span_in (thing_of x (Some c) 0 w)

abbrev key_at : Setting → ClassId → Way → Option (ℕ × ℕ)
key_at x c w = key_in (thing_of x (Some c) 0 w)

-- keys

differ_turned : (a b : ℕ × ℕ) → Differ a b → Differ b a
differ_turned a b differ = λ e. differ (sym e)

pub keeps_twice : (x : Setting) → IsHierarchy x.h → (c : ClassId) → AreDistinct (filter_map key_in (all_things x c)) → KeepsTwice x.h x.l c
keeps_twice x keeps c distinct = record {
  distinct = λ d hops others leads other same.
      let p = part_listed x keeps c hops d leads in
      let q = part_listed x keeps c others d other in
      let pairs = pairs_from_two Differ (filter_map (key_at x c) (ways x.h c)) (subst (λ (t : List (ℕ × ℕ)). EachTwo Differ t) (filter_mapped key_in (thing_of x (Some c) 0) (ways x.h c)) distinct) in
      let key : ℕ × ℕ = (d.0, 0 + place_along_hops x.h x.l c hops) in
      let also : ℕ × ℕ = (d.0, 0 + place_along_hops x.h x.l c others) in
      let equal : key ≡ also = ap (λ n. let k : ℕ × ℕ = (d.0, 0 + n) in k) same in
      ⊎_elim
      (λ e. e)
      (λ differ. absurd (mapped_pairs Differ differ_turned hops_of_way (key_at x c) (ways x.h c) pairs (way hops (to_part p.complete p.at d)) (way others (to_part q.complete q.at d)) key also p.has q.has differ refl refl equal))
      (decide_listed hops_of_way (ways x.h c) (way hops (to_part p.complete p.at d)) (way others (to_part q.complete q.at d)) (ways_once x.h (c.0 + 1) c) p.has q.has);
}

pub twice_kept : (x : Setting) → IsHierarchy x.h → (c : ClassId) → KeepsTwice x.h x.l c → AreDistinct (filter_map key_in (all_things x c))
twice_kept x keeps c rule =
    subst (λ (t : List (ℕ × ℕ)). EachTwo Differ t) (sym (filter_mapped key_in (thing_of x (Some c) 0) (ways x.h c)))
    (two_from_pairs Differ differ_turned (filter_map (key_at x c) (ways x.h c))
    (pairs_mapped Differ hops_of_way (key_at x c) (ways x.h c) (ways_once x.h (c.0 + 1) c)
    (λ w v a b h k differ e f same.
    by_ends w.hops v.hops w.end v.end (ways_valid x.h keeps (c.0 + 1) c w h) (ways_valid x.h keeps (c.0 + 1) c v k) differ (e ∙ (ap Some same ∙ sym f)) a e)))
  where
    by_ends : (hops others : List Hop) (end other : End) → IsWayTo x.h c hops end → IsWayTo x.h c others other → (hops ≡ others → ⊥) → key_at x c (way hops end) ≡ key_at x c (way others other) → (a : ℕ × ℕ) → key_at x c (way hops end) ≡ Some a → ⊥
    by_ends hops others (to_leaf d m type) other is also differ same a e = let n : None ≡ Some a = e in cc
    by_ends hops others (to_part e s d) (to_leaf k m type) is also differ same a f = let n : None ≡ Some a = sym same ∙ f in cc
    by_ends hops others (to_part e s d) (to_part g t k) is also differ same a f =
        let key : ℕ × ℕ = (d.0, 0 + place_along_hops x.h x.l c hops) in
        let more : ℕ × ℕ = (k.0, 0 + place_along_hops x.h x.l c others) in
        let both : Some key ≡ Some more = same in
        let equal : key ≡ more = cc in
        let class : d ≡ k = same_id d k (ap (λ (p : ℕ × ℕ). p.0) equal) in
        let second : 0 + place_along_hops x.h x.l c hops ≡ 0 + place_along_hops x.h x.l c others = ap (λ (p : ℕ × ℕ). p.1) equal in
        let place : place_along_hops x.h x.l c hops ≡ place_along_hops x.h x.l c others = omega (arith, second) in
        differ (rule.distinct d hops others is.leads (subst (λ (z : ClassId). LeadsTo x.h c others (Object z)) (sym class) also.leads) place)

-- spans

apart_turned : (a b : BitSpan) → LieApart a b → LieApart b a
apart_turned a b apart = ⊎_elim (λ u. inr u) (λ u. inl u) apart

-- spans with the same bits
moved : (a b c d : Span) → a.start ≡ c.start → a.length ≡ c.length → b.start ≡ d.start → b.length ≡ d.length → AreDisjoint a b → AreDisjoint c d
moved a b c d s l t m apart = ⊎_elim (λ u. inl (omega (arith, s, l, t, m, u))) (λ u. inr (omega (arith, s, l, t, m, u))) apart

abbrev leaf_bit_span : Setting → ClassId → List Hop → ClassId → ℕ → ValueType ClassId → BitSpan
leaf_bit_span x c hops d m type = record { start = 8 * (0 + place_along_hops x.h x.l c hops) + x.l.first d m; length = bits_of_leaf (size_of_value type) (width_of_member x.h d m) }

abbrev part_bit_span : Setting → ClassId → List Hop → BitSpan
part_bit_span x c hops = record { start = 8 * (0 + place_along_hops x.h x.l c hops); length = 64 }

-- a way to a subobject that begins a chain has the bits of its virtual pointer
part_span : (x : Setting) (c : ClassId) (hops : List Hop) (e : ClassId) (s : Subobject) (d : ClassId) → flag_of x.dynamic d ≡ true → is_top x.l e s ≡ true → span_at x c (way hops (to_part e s d)) ≡ Some (part_bit_span x c hops)
part_span x c hops e s d moves top =
    ap (λ (b : Bool). if b && is_top x.l e s then Some (part_bit_span x c hops) else None) moves ∙ ap (λ (b : Bool). if b then Some (part_bit_span x c hops) else None) top

-- and no other has
record BeginsChain (x : Setting) (e : ClassId) (s : Subobject) (d : ClassId) (hops : List Hop) (c : ClassId) (a : BitSpan) : Type 0 where
  moves : flag_of x.dynamic d ≡ true
  top : is_top x.l e s ≡ true
  is : part_bit_span x c hops ≡ a

span_part : (x : Setting) (c : ClassId) (hops : List Hop) (e : ClassId) (s : Subobject) (d : ClassId) (a : BitSpan) → span_at x c (way hops (to_part e s d)) ≡ Some a → BeginsChain x e s d hops c a
span_part x c hops e s d a f = by_flags (flag_of x.dynamic d) (is_top x.l e s) refl refl f
  where
    by_flags : (b t : Bool) → flag_of x.dynamic d ≡ b → is_top x.l e s ≡ t → (if b && t then Some (part_bit_span x c hops) else None) ≡ Some a → BeginsChain x e s d hops c a
    by_flags true true e f g = record { moves = e; top = f; is = let both : Some (part_bit_span x c hops) ≡ Some a = g in cc }
    by_flags true false e f g = let n : None ≡ Some a = g in cc
    by_flags false t e f g = let n : None ≡ Some a = g in cc

-- the way to the first of the chain of a dynamic class subobject
record HeadWay (x : Setting) (c : ClassId) (hops : List Hop) : Type 0 where
  complete : ClassId
  front : List Hop
  reaches : LeadsToObject x.h c front complete
  part : Subobject
  is : hops ≡ front ++ Inherit part ∷ []
  top : Subobject
  chain : IsInChain x.l complete top part
  class : ClassId
  moves : flag_of x.dynamic class ≡ true
  object : ClassId
  first : Subobject
  has : Has (ways x.h c) (way (front ++ Inherit top ∷ []) (to_part object first class))
  none_above : is_top x.l object first ≡ true
  place : place_along_hops x.h x.l c (front ++ Inherit top ∷ []) ≡ place_along_hops x.h x.l c hops

head_way : (x : Setting) (c d : ClassId) (hops : List Hop) → KnownTo x.h x.l c → ((k : ClassId) → IsDynamic x.h k → flag_of x.dynamic k ≡ true) → IsDynamic x.h d → LeadsTo x.h c hops (Object d) → HeadWay x c hops
head_way x c d hops known tells dynamic leads =
    let p = part_listed x known.keeps c hops d leads in
    let head = has_head x.h x.l c known p.complete d p.at p.is.low p.is.valid p.is.class dynamic in
    let above = front_leads x.h c p.complete head.class p.is.front head.top p.is.reaches head.valid head.is in
    let q = part_listed x known.keeps c (p.is.front ++ Inherit head.top ∷ []) head.class above in
    let here = front_top x.h x.l c p.complete p.is.front head.top p.is.reaches in
    let there = ap (top_at x.h x.l (Some c)) q.is.is ∙ front_top x.h x.l c q.complete q.is.front q.at q.is.reaches in
    record {
      complete = p.complete;
      front = p.is.front;
      reaches = p.is.reaches;
      part = p.at;
      is = p.is.is;
      top = head.top;
      chain = head.chain;
      class = head.class;
      moves = tells head.class head.dynamic;
      object = q.complete;
      first = q.at;
      has = q.has;
      none_above = sym there ∙ (here ∙ head.none_above);
      place = front_place x.h x.l c p.complete p.is.front p.at head.top p.is.reaches head.place ∙ ap (place_along_hops x.h x.l c) (sym p.is.is);
    }

-- what have one first in their chains share it
one_head : (x : Setting) (c : ClassId) (hops others : List Hop) (a : HeadWay x c hops) (b : HeadWay x c others) → a.front ++ Inherit a.top ∷ [] ≡ b.front ++ Inherit b.top ∷ [] → ShareChain x.h x.l c hops others
one_head x c hops others a b same =
    let front : b.front ≡ a.front = sym (one_front a.front b.front (Inherit a.top) (Inherit b.top) same) in
    let top : b.top ≡ a.top = sym (one_last a.front b.front a.top b.top same) in
    let class : b.complete ≡ a.complete = one_class x.h c b.complete a.complete b.front a.front front b.reaches a.reaches in
    let other : IsInChain x.l a.complete a.top b.part = subst (λ (k : ClassId). IsInChain x.l k a.top b.part) class (subst (λ (t : Subobject). IsInChain x.l b.complete t b.part) top b.chain) in
    let share : ShareChain x.h x.l c (a.front ++ Inherit a.part ∷ []) (a.front ++ Inherit b.part ∷ []) =
    ⊎_elim
    (λ u. front_shares x.h x.l c a.complete a.front a.part b.part a.reaches (downwards a.complete a.part b.part u))
    (λ u. front_shares x.h x.l c a.complete a.front a.part b.part a.reaches (upwards a.complete a.part b.part u))
    (one_chain x.l a.complete a.top a.part b.part a.chain other) in
    let there : a.front ++ Inherit b.part ∷ [] ≡ others = ap (λ (t : List Hop). t ++ Inherit b.part ∷ []) (sym front) ∙ sym b.is in
    subst (λ (t : List Hop). ShareChain x.h x.l c t others) (sym a.is) (subst (λ (t : List Hop). ShareChain x.h x.l c (a.front ++ Inherit a.part ∷ []) t) there share)

leaf_is_no_part : (h : Classes) (c d : ClassId) (m : ℕ) (type : ValueType ClassId) (hops front : List Hop) (s : Subobject) → IsLeafWay h c hops d m type → front ++ Inherit s ∷ [] ≡ hops → ⊥
leaf_is_no_part h c d m type hops front s is same =
    let both : Some (Inherit s) ≡ Some (MemberHop m is.index) = sym (last_hop_is front (Inherit s)) ∙ (ap last_hop same ∙ is.ends) in
    let one : Inherit s ≡ MemberHop m is.index = cc in cc

pub keeps_overlap : (x : Setting) (c : ClassId) → KnownTo x.h x.l c → ((k : ClassId) → IsDynamic x.h k → flag_of x.dynamic k ≡ true) → ShareNoBit (filter_map span_in (all_things x c)) → KeepsOverlap x.h x.l c
keeps_overlap x c known tells apart = record {
  leaves_apart = λ type other hops others leads also differ.
      let p = leaf_listed x known.keeps c hops type leads in
      let q = leaf_listed x known.keeps c others other also in
      let a = leaf_bit_span x c hops p.class p.member type in
      let b = leaf_bit_span x c others q.class q.member other in
      let s = leaf_bits x c hops p.class p.member type p.is in
      let t = leaf_bits x c others q.class q.member other q.is in
      moved (span_bits a) (span_bits b) (leaf_span x.h x.l c hops) (leaf_span x.h x.l c others) (sym s.0) (sym s.1) (sym t.0) (sym t.1)
      (two (way hops (to_leaf p.class p.member type)) (way others (to_leaf q.class q.member other)) a b p.has q.has differ refl refl);
  leaf_and_pointer = λ d type hops others dynamic leads also.
      let p = head_way x c d hops known tells dynamic leads in
      let q = leaf_listed x known.keeps c others type also in
      let w = p.front ++ Inherit p.top ∷ [] in
      let a = part_bit_span x c w in
      let b = leaf_bit_span x c others q.class q.member type in
      let t = leaf_bits x c others q.class q.member type q.is in
      moved (span_bits a) (span_bits b) (pointer_span (place_along_hops x.h x.l c hops)) (leaf_span x.h x.l c others) (starts w hops p.place) refl (sym t.0) (sym t.1)
      (two (way w (to_part p.object p.first p.class)) (way others (to_leaf q.class q.member type)) a b p.has q.has (λ same. leaf_is_no_part x.h c q.class q.member type others p.front p.top q.is same)
      (part_span x c w p.object p.first p.class p.moves p.none_above) refl);
  pointers_apart = λ d e hops others moves also leads other.
      let p = head_way x c d hops known tells moves leads in
      let q = head_way x c e others known tells also other in
      let w = p.front ++ Inherit p.top ∷ [] in
      let v = q.front ++ Inherit q.top ∷ [] in
      ⊎_elim
      (λ same. inl (one_head x c hops others p q same))
      (λ differ. inr (moved (span_bits (part_bit_span x c w)) (span_bits (part_bit_span x c v)) (pointer_span (place_along_hops x.h x.l c hops)) (pointer_span (place_along_hops x.h x.l c others)) (starts w hops p.place) refl (starts v others q.place) refl
      (two (way w (to_part p.object p.first p.class)) (way v (to_part q.object q.first q.class)) (part_bit_span x c w) (part_bit_span x c v) p.has q.has differ
      (part_span x c w p.object p.first p.class p.moves p.none_above) (part_span x c v q.object q.first q.class q.moves q.none_above))))
      (decide_listed hops_of_way (ways x.h c) (way w (to_part p.object p.first p.class)) (way v (to_part q.object q.first q.class)) (ways_once x.h (c.0 + 1) c) p.has q.has);
}
  where
    two : (w v : Way) (a b : BitSpan) → Has (ways x.h c) w → Has (ways x.h c) v → (w.hops ≡ v.hops → ⊥) → span_at x c w ≡ Some a → span_at x c v ≡ Some b → LieApart a b
    two w v a b h k differ e f =
        mapped_pairs LieApart apart_turned hops_of_way (span_at x c) (ways x.h c)
        (pairs_from_two LieApart (filter_map (span_at x c) (ways x.h c)) (subst (λ (t : List BitSpan). EachTwo LieApart t) (filter_mapped span_in (thing_of x (Some c) 0) (ways x.h c)) apart))
        w v a b h k differ e f

    starts : (w hops : List Hop) → place_along_hops x.h x.l c w ≡ place_along_hops x.h x.l c hops → 8 * (0 + place_along_hops x.h x.l c w) ≡ 8 * place_along_hops x.h x.l c hops
    starts w hops e = omega (arith, e)

pub overlap_kept : (x : Setting) → IsHierarchy x.h → (c : ClassId) → ((k : ClassId) → flag_of x.dynamic k ≡ true → IsDynamic x.h k) → KeepsOverlap x.h x.l c → ShareNoBit (filter_map span_in (all_things x c))
overlap_kept x keeps c tells rule =
    subst (λ (t : List BitSpan). EachTwo LieApart t) (sym (filter_mapped span_in (thing_of x (Some c) 0) (ways x.h c)))
    (two_from_pairs LieApart apart_turned (filter_map (span_at x c) (ways x.h c))
    (pairs_mapped LieApart hops_of_way (span_at x c) (ways x.h c) (ways_once x.h (c.0 + 1) c)
    (λ w v a b h k differ e f. by_ends w.hops v.hops w.end v.end a b (ways_valid x.h keeps (c.0 + 1) c w h) (ways_valid x.h keeps (c.0 + 1) c v k) differ e f)))
  where
    pointer_start : (hops : List Hop) → 8 * place_along_hops x.h x.l c hops ≡ 8 * (0 + place_along_hops x.h x.l c hops)
    pointer_start hops = omega arith

    leaf_and_part : (hops others : List Hop) (d : ClassId) (m : ℕ) (type : ValueType ClassId) (e : ClassId) (s : Subobject) (k : ClassId) (a b : BitSpan) → IsLeafWay x.h c hops d m type → IsPartWay x.h c others e s k
        → span_at x c (way hops (to_leaf d m type)) ≡ Some a → span_at x c (way others (to_part e s k)) ≡ Some b → LieApart b a
    leaf_and_part hops others d m type e s k a b is also f g =
        let first : Some (leaf_bit_span x c hops d m type) ≡ Some a = f in
        let leaf : leaf_bit_span x c hops d m type ≡ a = cc in
        let part = span_part x c others e s k b g in
        let t = leaf_bits x c hops d m type is in
        let u : LieApart (part_bit_span x c others) (leaf_bit_span x c hops d m type) =
        moved (pointer_span (place_along_hops x.h x.l c others)) (leaf_span x.h x.l c hops) (span_bits (part_bit_span x c others)) (span_bits (leaf_bit_span x c hops d m type)) (pointer_start others) refl t.0 t.1
        (rule.leaf_and_pointer k type others hops (tells k part.moves) also.leads is.leads) in
        subst (λ (z : BitSpan). LieApart z a) part.is (subst (λ (z : BitSpan). LieApart (part_bit_span x c others) z) leaf u)

    by_ends : (hops others : List Hop) (end other : End) (a b : BitSpan) → IsWayTo x.h c hops end → IsWayTo x.h c others other → (hops ≡ others → ⊥) → span_at x c (way hops end) ≡ Some a → span_at x c (way others other) ≡ Some b → LieApart a b
    by_ends hops others (to_leaf d m type) (to_leaf k n other) a b is also differ f g =
        let first : Some (leaf_bit_span x c hops d m type) ≡ Some a = f in
        let leaf : leaf_bit_span x c hops d m type ≡ a = cc in
        let second : Some (leaf_bit_span x c others k n other) ≡ Some b = g in
        let next : leaf_bit_span x c others k n other ≡ b = cc in
        let s = leaf_bits x c hops d m type is in
        let t = leaf_bits x c others k n other also in
        let u : LieApart (leaf_bit_span x c hops d m type) (leaf_bit_span x c others k n other) =
        moved (leaf_span x.h x.l c hops) (leaf_span x.h x.l c others) (span_bits (leaf_bit_span x c hops d m type)) (span_bits (leaf_bit_span x c others k n other)) s.0 s.1 t.0 t.1
        (rule.leaves_apart type other hops others is.leads also.leads differ) in
        subst (λ (z : BitSpan). LieApart z b) leaf (subst (λ (z : BitSpan). LieApart (leaf_bit_span x c hops d m type) z) next u)
    by_ends hops others (to_leaf d m type) (to_part e s k) a b is also differ f g = apart_turned b a (leaf_and_part hops others d m type e s k a b is also f g)
    by_ends hops others (to_part e s k) (to_leaf d m type) a b is also differ f g = leaf_and_part others hops d m type e s k b a also is g f
    by_ends hops others (to_part e s d) (to_part o t k) a b is also differ f g =
        let p = span_part x c hops e s d a f in
        let q = span_part x c others o t k b g in
        let top : top_at x.h x.l (Some c) hops ≡ true = ap (top_at x.h x.l (Some c)) is.is ∙ (front_top x.h x.l c e is.front s is.reaches ∙ p.top) in
        let more : top_at x.h x.l (Some c) others ≡ true = ap (top_at x.h x.l (Some c)) also.is ∙ (front_top x.h x.l c o also.front t also.reaches ∙ q.top) in
        let u : LieApart (part_bit_span x c hops) (part_bit_span x c others) =
        ⊎_elim
        (λ share. absurd (differ (heads_same x.h x.l c hops others share top more)))
        (λ apart. moved (pointer_span (place_along_hops x.h x.l c hops)) (pointer_span (place_along_hops x.h x.l c others)) (span_bits (part_bit_span x c hops)) (span_bits (part_bit_span x c others)) (pointer_start hops) refl (pointer_start others) refl apart)
        (rule.pointers_apart d k hops others (tells d p.moves) (tells k q.moves) is.leads also.leads) in
        subst (λ (z : BitSpan). LieApart z b) p.is (subst (λ (z : BitSpan). LieApart (part_bit_span x c hops) z) q.is u)

-- each span has a bit
pub spans_long : (x : Setting) → IsHierarchy x.h → (c : ClassId) → AreLong (filter_map span_in (all_things x c))
spans_long x keeps c = record {
  long = λ i a at.
      let r = from_filter_map span_in (all_things x c) a (has_at (filter_map span_in (all_things x c)) i a at) in
      let w = thing_way x keeps c r.0 r.1 in
      by_end w.way_is.hops w.way_is.end a w.leads (ap span_in w.is ∙ r.2);
}
  where
    by_end : (hops : List Hop) (end : End) (a : BitSpan) → IsWayTo x.h c hops end → span_at x c (way hops end) ≡ Some a → 1 ≤ a.length
    by_end hops (to_leaf d m type) a is e =
        let both : Some (leaf_bit_span x c hops d m type) ≡ Some a = e in
        let same : leaf_bit_span x c hops d m type ≡ a = cc in
        let some = some_bits x.h keeps d m is.index type is.element in
        subst (λ (z : BitSpan). 1 ≤ z.length) same (subst (λ n. 1 ≤ n) (sym (bits_same (width_of_member x.h d m) type)) some)
    by_end hops (to_part k s d) a is e = let p = span_part x c hops k s d a e in subst (λ (z : BitSpan). 1 ≤ z.length) p.is (omega arith)
