-- The cast from the second base of a class with two public bases can be had, and the hint that it lies 16 bytes behind is true.
use Rattle.std.proofs.Common.{◌≡◌, ℕ, zero, suc, ◌+◌, ◌-◌, ◌*◌, ◌<◌, ◌≤◌, ◌^◌, inl, inr, true, false, Option, Some, List, [], ◌∷◌, refl, ap, subst, sym, ◌∙◌, arith, ℤ, pos, ◌+ℤ◌}
use Rattle.std.specs.Prelude.{IsOk, IsSome, Ok, Result, Contains}
use Rattle.std.proofs.lemmas.Int.{ints}
use Rattle.foundation.proofs.Members.{Has, contains_from_has, has_from_contains}
use Rattle.byte_memory.specs.Store.{Store, load_of}
use Rattle.byte_memory.specs.declared.memory.MemoryFault.{MemoryFault}
use Rattle.byte_code.specs.Numbers.{word_of}
use Rattle.byte_code.specs.Records.{IsInfoAt, HasBaseRecord, IsClearOf, IsTableWord}
use Rattle.byte_code.specs.declared.image.InfoRecord.{InfoRecord}
use Rattle.byte_code.specs.declared.image.BaseRecord.{BaseRecord}
use Rattle.abi_dyncast.specs.declared.parts.TypedPart.{TypedPart}
use Rattle.abi_dyncast.specs.declared.parts.Edge.{Edge}
use Rattle.abi_dyncast.specs.Graph.{moved}
use Rattle.abi_dyncast.specs.Graph.{Graph, graph_of, word_in, loaded_or_zero, pointer_at, info_at, base_record_at, has_virtual_flag, record_at, base_record, edge_by, any_edge, public_edge, LeadsByEdges, stays, steps, LeadsToSome}
use Rattle.abi_dyncast.specs.Casts.{CanStep, CanReadParts, AreClosedParts, CanWalk, IsPartAtAddress, view_at_address, CanCast, IsTrueHint, CanCastHinted}
use Rattle.abi_dyncast.proofs.Keeping.{info_read, base_read}
use Rattle.abi_dyncast.proofs.Distances.{moved_along}
use Rattle.abi_dyncast.proofs.Ways.{leads_inside}
use Rattle.worked_cases.specs.declared.hinted_visits.Pair.{Pair}
use Rattle.worked_cases.specs.Pairs.{IsPair, IsSecondTable}

-- one of the two below 2
two : (Q : ℕ → Type 0) (i : ℕ) → i < 2 → Q 0 → Q 1 → Q i
two Q zero less a b = a
two Q (suc zero) less a b = b
two Q (suc (suc n)) less a b = absurd (omega arith)

module _ (image : ℕ → Option ℕ) (memory : Store) (pair : Pair) (start point : ℕ) (is : IsPair image pair) (table : IsSecondTable image pair point) (load : load_of memory (start + 16) 8 ≡ Ok point) (start_low : start < 2 ^ 62) where
  abbrev g : Graph
  g = graph_of image memory

  abbrev whole : TypedPart
  whole = record { at = start; info = pair.info }

  abbrev first : TypedPart
  first = record { at = start; info = pair.first.info }

  abbrev second : TypedPart
  second = record { at = start + 16; info = pair.second.info }

  abbrev parts : List TypedPart
  parts = whole ∷ first ∷ second ∷ []

  abbrev infos : List ℕ
  infos = pair.info ∷ pair.first.info ∷ pair.second.info ∷ []

  -- what holds of the three parts holds of each
  each : (Q : TypedPart → Type 0) → Q whole → Q first → Q second → (p : TypedPart) → Contains parts p → Q p
  each Q a b c p has = by_has (has_from_contains parts p has)
    where
      by_has : Has parts p → Q p
      by_has (inl same) = subst Q same a
      by_has (inr (inl same)) = subst Q same b
      by_has (inr (inr (inl same))) = subst Q same c
      by_has (inr (inr (inr none))) = absurd none

  whole_is : info_at image pair.info ≡ pair.whole
  whole_is = info_read image pair.info pair.whole is.whole

  first_is : info_at image pair.first.info ≡ pair.first_class
  first_is = info_read image pair.first.info pair.first_class is.first_class

  second_is : info_at image pair.second.info ≡ pair.second_class
  second_is = info_read image pair.second.info pair.second_class is.second_class

  whole_count : g.count whole ≡ 2
  whole_count = ap (λ (r : InfoRecord). r.bases) whole_is ∙ is.bases

  none_first : (i : ℕ) → i < g.count first → ⊥
  none_first i less = let none : g.count first ≡ 0 = ap (λ (r : InfoRecord). r.bases) first_is ∙ is.first_ends in omega arith

  none_second : (i : ℕ) → i < g.count second → ⊥
  none_second i less = let none : g.count second ≡ 0 = ap (λ (r : InfoRecord). r.bases) second_is ∙ is.second_ends in omega arith

  first_place : pair.whole.first + 16 * 0 ≡ pair.whole.first
  first_place = omega arith

  -- the two edges
  first_base : base_record image whole 0 ≡ pair.first
  first_base = ap (λ (r : InfoRecord). base_record_at image (r.first + 16 * 0)) whole_is ∙ (ap (base_record_at image) first_place ∙ base_read image pair.whole.first pair.first is.first)

  second_base : base_record image whole 1 ≡ pair.second
  second_base = ap (λ (r : InfoRecord). base_record_at image (r.first + 16 * 1)) whole_is ∙ base_read image (pair.whole.first + 16) pair.second is.second

  first_edge : g.edge whole 0 ≡ record { part = first; is_public = true }
  first_edge =
      let low = start_low in
      let make : ℕ → Edge = λ n. record { part = record { at = n; info = pair.first.info }; is_public = true } in
      let sum : pos start +ℤ pos 0 ≡ pos start = omega (arith, ints) in
      let written : edge_by image memory start pair.first ≡ make (moved start (word_of (pos 0))) = ap (λ (z : ℤ). edge_by image memory start (record { info = pair.first.info; offset_flags = z })) is.at_start in
      ap (edge_by image memory start) first_base ∙ (written ∙ ap make (moved_along start start (pos 0) sum (omega arith) (omega arith)))

  second_edge : g.edge whole 1 ≡ record { part = second; is_public = true }
  second_edge =
      let low = start_low in
      let make : ℕ → Edge = λ n. record { part = record { at = n; info = pair.second.info }; is_public = true } in
      let sum : pos start +ℤ pos 16 ≡ pos (start + 16) = omega (arith, ints) in
      let written : edge_by image memory start pair.second ≡ make (moved start (word_of (pos 16))) = ap (λ (z : ℤ). edge_by image memory start (record { info = pair.second.info; offset_flags = z })) is.behind in
      ap (edge_by image memory start) second_base ∙ (written ∙ ap make (moved_along start (start + 16) (pos 16) sum (omega arith) (omega arith)))

  are : AreClosedParts g parts
  are = record {
    inside = λ p i has. each (λ q. i < g.count q → Contains parts (g.edge q i).part)
        (λ less. two (λ n. Contains parts (g.edge whole n).part) i (subst (λ n. i < n) whole_count less)
        (subst (λ (e : Edge). Contains parts e.part) (sym first_edge) (contains_from_has parts first (inr (inl refl))))
        (subst (λ (e : Edge). Contains parts e.part) (sym second_edge) (contains_from_has parts second (inr (inr (inl refl))))))
        (λ less. absurd (none_first i less)) (λ less. absurd (none_second i less)) p has;
    falls = λ p i has. each (λ q. i < g.count q → g.class (g.edge q i).part < g.class q)
        (λ less. two (λ n. g.class (g.edge whole n).part < g.class whole) i (subst (λ n. i < n) whole_count less)
        (subst (λ (e : Edge). g.class e.part < g.class whole) (sym first_edge) (subst (λ n. g.class first < n) (sym (ap (λ (r : InfoRecord). r.class) whole_is)) (subst (λ n. n < pair.whole.class) (sym (ap (λ (r : InfoRecord). r.class) first_is)) is.first_below)))
        (subst (λ (e : Edge). g.class e.part < g.class whole) (sym second_edge) (subst (λ n. g.class second < n) (sym (ap (λ (r : InfoRecord). r.class) whole_is)) (subst (λ n. n < pair.whole.class) (sym (ap (λ (r : InfoRecord). r.class) second_is)) is.second_below))))
        (λ less. absurd (none_first i less)) (λ less. absurd (none_second i less)) p has;
  }

  -- a record that is not of a virtual base is read alone
  plain_step : (i : ℕ) (base : BaseRecord) → record_at image whole i < 2 ^ 64 → HasBaseRecord image (record_at image whole i) base → base_record image whole i ≡ base → has_virtual_flag base ≡ false → CanStep image memory whole i
  plain_step i base low there same plain = record {
    low = low;
    base = subst (λ b. HasBaseRecord image (record_at image whole i) b) (sym same) there;
    pointer = λ way. absurd (never way);
    word = λ way. absurd (never way);
    table = λ way. absurd (never way);
  }
    where
      never : has_virtual_flag (base_record image whole i) ≡ true → ⊥
      never way = let f : true ≡ false = sym way ∙ (ap has_virtual_flag same ∙ plain) in cc

  first_at : record_at image whole 0 ≡ pair.whole.first
  first_at = ap (λ (r : InfoRecord). r.first + 16 * 0) whole_is ∙ first_place

  second_at : record_at image whole 1 ≡ pair.whole.first + 16
  second_at = ap (λ (r : InfoRecord). r.first + 16 * 1) whole_is

  read : CanReadParts image memory parts
  read = record {
    info = each (λ q. IsInfoAt image q.info (info_at image q.info))
        (subst (λ r. IsInfoAt image pair.info r) (sym whole_is) is.whole)
        (subst (λ r. IsInfoAt image pair.first.info r) (sym first_is) is.first_class)
        (subst (λ r. IsInfoAt image pair.second.info r) (sym second_is) is.second_class);
    steps = λ p i has. each (λ q. i < g.count q → CanStep image memory q i)
        (λ less. two (λ n. CanStep image memory whole n) i (subst (λ n. i < n) whole_count less)
        (let low = is.low in
        plain_step 0 pair.first (subst (λ n. n < 18446744073709551616) (sym first_at) (omega arith)) (subst (λ n. HasBaseRecord image n pair.first) (sym first_at) is.first) first_base (ap (λ (z : ℤ). has_virtual_flag (record { info = pair.first.info; offset_flags = z })) is.at_start))
        (let low = is.low in
        plain_step 1 pair.second (subst (λ n. n < 18446744073709551616) (sym second_at) (omega arith)) (subst (λ n. HasBaseRecord image n pair.second) (sym second_at) is.second) second_base (ap (λ (z : ℤ). has_virtual_flag (record { info = pair.second.info; offset_flags = z })) is.behind)))
        (λ less. absurd (none_first i less)) (λ less. absurd (none_second i less)) p has;
  }

  -- a word before the records of bases is one of a table
  table_word : (at : ℕ) → at + 8 ≤ pair.whole.first → IsTableWord image at
  table_word at before = record {
    infos = infos;
    some = omega arith;
    clear = λ there has. by_has there (has_from_contains infos there has);
  }
    where
      ends : (there : ℕ) (info : InfoRecord) → IsInfoAt image there info → info.bases ≡ 0 → IsClearOf image infos at there
      ends there info stands none = record { info = info; there = stands; bases = λ i less. absurd (omega arith); apart = λ i less. absurd (omega arith) }

      by_has : (there : ℕ) → Has infos there → IsClearOf image infos at there
      by_has there (inl same) = subst (λ n. IsClearOf image infos at n) same (record {
        info = pair.whole;
        there = is.whole;
        bases = λ i less. two (λ n. (base : BaseRecord) × HasBaseRecord image (pair.whole.first + 16 * n) base × Contains infos base.info) i (subst (λ n. i < n) is.bases less)
            (pair.first, subst (λ n. HasBaseRecord image n pair.first) (sym first_place) is.first, contains_from_has infos pair.first.info (inr (inl refl)))
            (pair.second, is.second, contains_from_has infos pair.second.info (inr (inr (inl refl))));
        apart = λ i less. inl (omega arith);
      })
      by_has there (inr (inl same)) = subst (λ n. IsClearOf image infos at n) same (ends pair.first.info pair.first_class is.first_class is.first_ends)
      by_has there (inr (inr (inl same))) = subst (λ n. IsClearOf image infos at n) same (ends pair.second.info pair.second_class is.second_class is.second_ends)
      by_has there (inr (inr (inr none))) = absurd none

  pointer_is : pointer_at memory (start + 16) ≡ point
  pointer_is = ap loaded_or_zero load

  view_is : view_at_address image memory (start + 16) ≡ whole
  view_is =
      let low = start_low in
      let make : ℕ → ℕ → TypedPart = λ i j. record { at = i; info = j } in
      let top : image (pointer_at memory (start + 16) - 16) ≡ Some 18446744073709551600 = ap (λ n. image (n - 16)) pointer_is ∙ table.top in
      let info : image (pointer_at memory (start + 16) - 8) ≡ Some pair.info = ap (λ n. image (n - 8)) pointer_is ∙ table.info in
      let back : moved (start + 16) 18446744073709551600 ≡ start = omega arith in
      ap (λ o. make (moved (start + 16) (word_in o)) (word_in (image (pointer_at memory (start + 16) - 8)))) top ∙ (ap (λ n. make n (word_in (image (pointer_at memory (start + 16) - 8)))) back ∙ ap (λ o. make start (word_in o)) info)

  can : (room : ℕ) → 3 ≤ room → CanCast image memory room (start + 16)
  can room few =
      let high = table.high in
      let below = table.below in
      record {
        pointer = subst (λ (r : Result ℕ MemoryFault). IsOk r) (sym load) refl;
        top = subst (λ n. IsSome (image (n - 16))) (sym pointer_is) (subst (λ o. IsSome o) (sym table.top) refl);
        info = subst (λ n. IsSome (image (n - 8))) (sym pointer_is) (subst (λ o. IsSome o) (sym table.info) refl);
        top_word = subst (λ n. IsTableWord image (n - 16)) (sym pointer_is) (table_word (point - 16) (omega arith));
        info_word = subst (λ n. IsTableWord image (n - 8)) (sym pointer_is) (table_word (point - 8) (omega arith));
        walk = subst (λ p. CanWalk image memory room p) (sym view_is) (record { parts = parts; are = are; read = read; has = contains_from_has parts whole (inl refl); few = few });
      }

  -- only the whole is of its class, and an edge leads from there to the second base
  truth : IsTrueHint g whole pair.second_class.class pair.whole.class (pos 16)
  truth p target = each (λ q. g.class q ≡ pair.whole.class → LeadsToSome g public_edge (IsPartAtAddress g (q.at + 16) pair.second_class.class) q)
      (λ same. record {
        end = second;
        leads = steps whole second 1 (subst (λ n. 1 < n) (sym whole_count) (omega arith)) (ap (λ (e : Edge). e.is_public) second_edge) (subst (λ (e : Edge). LeadsByEdges g public_edge e.part second) (sym second_edge) (stays second));
        is = record { same_place = refl; same_class = ap (λ (r : InfoRecord). r.class) second_is };
      })
      (λ same. let below = is.first_below in let class : pair.first_class.class ≡ pair.whole.class = sym (ap (λ (r : InfoRecord). r.class) first_is) ∙ same in absurd (omega arith))
      (λ same. let below = is.second_below in let class : pair.second_class.class ≡ pair.whole.class = sym (ap (λ (r : InfoRecord). r.class) second_is) ∙ same in absurd (omega arith))
      p (leads_inside g any_edge parts whole p are target.below (contains_from_has parts whole (inl refl))) target.class

  pub can_hinted : (room : ℕ) → 3 ≤ room → CanCastHinted image memory room (start + 16) pair.second_class.class pair.whole.class (pos 16)
  can_hinted room few = record { can = can room few; truth = subst (λ p. IsTrueHint g p pair.second_class.class pair.whole.class (pos 16)) (sym view_is) truth }
