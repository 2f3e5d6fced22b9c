use Rattle.std.proofs.Common.{◌≡◌, ℕ, zero, suc, ◌+◌, ◌*◌, ◌<◌, ◌≤◌, ◌^◌, Some, List, [], ◌∷◌, map, length, refl, ap, sym, ◌∙◌, subst, arith, length-append}
use Rattle.std.specs.List.{slice_get, slice_index_or}
use Rattle.std.proofs.lemmas.Option.{slice_get_within}
use Rattle.abi_slots.specs.declared.code_numbers.CodeRow.{CodeRow}
use Rattle.abi_slots.specs.declared.words.Group.{Group}
use Rattle.abi_slots.specs.declared.words.VttWord.{VttWord}
use Rattle.abi_slots.specs.declared.words.TypeInfo.{TypeInfo}
use Rattle.abi_slots.specs.Images.{AreBelow, HasInfo, StandsAt, all_words, vtt_address}
use Rattle.abi_image.specs.declared.TheConstants.{BASE}
use Rattle.abi_image.specs.declared.draft.Draft.{Draft}
use Rattle.abi_image.specs.declared.parts.Parts.{Parts}
use Rattle.abi_image.specs.declared.regions.Region.{Region}
use Rattle.abi_image.specs.Conditions.{words_in_image}
use Rattle.abi_image.specs.invariants.Drafts.{AllAt, AllBySize, HaveClassWords, Puts, address_in, address_of, class_address, group_size, info_size, sum_of_sizes, vtt_size}
use Rattle.abi_image.specs.invariants.Parts.{AreAt, AreImageParts, IsDraftOf, addresses_of, IsRegion, groups_start, infos_start, vtts_start}
use Rattle.abi_image.specs.invariants.Points.{AreFirstPoints, AreGroupPoints, HasPointAt}
use Rattle.abi_image.proofs.Filling.{length_after, puts_both}
use Rattle.abi_image.proofs.Rooms.{four_each, words_by_parts}
use Rattle.cxx_hierarchy.specs.Classes.{class_by_number}

length_map : {A : Type 0} (f : A → ℕ) (xs : List A) → length (map f xs) ≡ length xs
length_map f [] = refl
length_map f (x ∷ xs) = ap suc (length_map f xs)

pub as_many : {A : Type 0} (size : A → ℕ) (xs : List A) (start : ℕ) (list : List ℕ) → AreAt start (map size xs) list → length list ≡ length xs
as_many size xs start list are = are.size ∙ length_map size xs

-- what stands one after the other stands at the addresses of a list
stood : {A : Type 0} (size : A → ℕ) (P : ℕ → A → ℕ → Type 0) (xs : List A) (at start : ℕ) (list : List ℕ) → at ≡ start → AreAt start (map size xs) list → AllBySize size P xs at → (i : ℕ) (x : A) → slice_get xs i ≡ Some x → P i x (address_in list i)
stood size P xs at start list e are all i x there =
    let l : length (map size xs) ≡ length xs = length_map size xs in
    let b : i < length xs = slice_get_within xs i x there in
    let less : i < length (map size xs) = omega arith in
    subst (λ n. P i x n) (ap (λ s. address_of (map size xs) s i) e ∙ sym (are.each i less)) (all i x there)

-- an item lies between the start and the end of the region
lies_above : (sizes : List ℕ) (at i : ℕ) → at ≤ address_of sizes at i
lies_above [] at i = omega arith
lies_above (size ∷ sizes) at zero = omega arith
lies_above (size ∷ sizes) at (suc i) = let more = lies_above sizes (at + 8 * size) i in omega arith

lies_below : {A : Type 0} (size : A → ℕ) (xs : List A) (at i : ℕ) (x : A) → slice_get xs i ≡ Some x → address_of (map size xs) at i + 8 * size x ≤ at + 8 * sum_of_sizes (map size xs)
lies_below size [] at i x there = absurd (cc)
lies_below size (y ∷ xs) at zero x there = let same : size y ≡ size x = ap size (cc (there)) in omega arith
lies_below size (y ∷ xs) at (suc i) x there = let more = lies_below size xs (at + 8 * size y) i x there in omega arith

-- so does each at the addresses of a list
pub in_region : {A : Type 0} (size : A → ℕ) (xs : List A) (start : ℕ) (list : List ℕ) → AreAt start (map size xs) list → (i : ℕ) (x : A) → slice_get xs i ≡ Some x → address_in list i + 8 * size x ≤ start + 8 * sum_of_sizes (map size xs)
in_region size xs start list are i x there =
    let l : length (map size xs) ≡ length xs = length_map size xs in
    let b : i < length xs = slice_get_within xs i x there in
    let less : i < length (map size xs) = omega arith in
    subst (λ n. n + 8 * size x ≤ start + 8 * sum_of_sizes (map size xs)) (sym (are.each i less)) (lies_below size xs start i x there)

-- the records of classes stand behind all others
parts_below : (groups : List Group) (vtts : List (List VttWord)) (infos : List TypeInfo) (parts : Parts) → AreImageParts groups vtts infos parts → AreBelow groups vtts infos (addresses_of parts) BASE
parts_below groups vtts infos parts are =
    let end_is : parts.vtts.end ≡ infos_start groups vtts = are.vtts_at.end_is in
    record {
      group = λ i k group word there inner.
          let region = in_region group_size groups (groups_start vtts) parts.groups.at.items are.groups_at i group there in
          let less : k < length (all_words group.tables) = slice_get_within (all_words group.tables) k word inner in
          omega arith;
      vtt = λ c words k word there inner.
          let region = in_region vtt_size vtts (vtts_start groups vtts) parts.vtts.at.items are.vtts_at.each c.0 words there in
          let less : k < length words = slice_get_within words k word inner in
          omega arith;
      directory = λ c words there. let less : c.0 < length vtts = slice_get_within vtts c.0 words there in omega arith;
      info = λ c info there.
          let l : length (map info_size infos) ≡ length infos = length_map info_size infos in
          let b : c.0 < length infos = slice_get_within infos c.0 info there in
          let less : c.0 < length (map info_size infos) = omega arith in
          let is : address_in parts.infos.at.items c.0 ≡ address_of (map info_size infos) (infos_start groups vtts) c.0 = are.infos_at.each.each c.0 less in
          let above : infos_start groups vtts ≤ address_of (map info_size infos) (infos_start groups vtts) c.0 = lies_above (map info_size infos) (infos_start groups vtts) c.0 in
          omega arith;
    }

-- what was put for all parts is what the image has
pub together : (codes : List CodeRow) (groups : List Group) (vtts : List (List VttWord)) (infos : List TypeInfo) (parts : Parts) (a b c d e : Draft) → length vtts ≡ length infos → words_in_image groups vtts infos < 2 ^ 32 → AreImageParts groups vtts infos parts → a.words.items ≡ [] → a.records.items ≡ [] → a.records_at ≡ parts.infos.end →
    Puts a b (2 * length vtts) (λ image at. HaveClassWords image parts.firsts.items parts.vtts.at.items vtts at) →
    Puts b c (sum_of_sizes (map group_size groups)) (λ image at. AllBySize group_size (λ i group there. StandsAt image codes (class_address parts.infos.at.items) group there) groups at) →
    Puts c d (sum_of_sizes (map vtt_size vtts)) (λ image at. AllBySize vtt_size (λ i vtt there. AllAt (HasPointAt image groups (address_in parts.groups.at.items)) vtt there) vtts at) →
    Puts d e (sum_of_sizes (map info_size infos)) (λ image at. AllBySize info_size (λ i info there. HasInfo image (class_address parts.infos.at.items) (class_by_number i) info there) infos at) →
    IsDraftOf codes groups vtts infos parts e
together codes groups vtts infos parts a b c d e items few are nothing_yet no_record place first second third fourth =
    let m1 : ℕ = 2 * length vtts in
    let m2 : ℕ = sum_of_sizes (map group_size groups) in
    let m3 : ℕ = sum_of_sizes (map vtt_size vtts) in
    let m4 : ℕ = sum_of_sizes (map info_size infos) in
    let empty : length a.words.items ≡ 0 = ap length nothing_yet in
    let l1 : length b.words.items ≡ length a.words.items + m1 = length_after a b m1 _ first in
    let l2 : length c.words.items ≡ length b.words.items + m2 = length_after b c m2 _ second in
    let l3 : length d.words.items ≡ length c.words.items + m3 = length_after c d m3 _ third in
    let l4 : length e.words.items ≡ length d.words.items + m4 = length_after d e m4 _ fourth in
    let end_is : parts.infos.end ≡ infos_start groups vtts + 8 * m4 = are.infos_at.end_is in
    let kept : e.records_at ≡ parts.infos.end = fourth.same_place ∙ third.same_place ∙ second.same_place ∙ first.same_place ∙ place in
    let one = puts_both a b c m1 m2 (λ image at. HaveClassWords image parts.firsts.items parts.vtts.at.items vtts at) (λ image at. AllBySize group_size (λ i group there. StandsAt image codes (class_address parts.infos.at.items) group there) groups at) first second in
    let two = puts_both a c d (m1 + m2) m3 _ (λ image at. AllBySize vtt_size (λ i vtt there. AllAt (HasPointAt image groups (address_in parts.groups.at.items)) vtt there) vtts at) one third in
    let all = puts_both a d e (m1 + m2 + m3) m4 _ (λ image at. AllBySize info_size (λ i info there. HasInfo image (class_address parts.infos.at.items) (class_by_number i) info there) infos at) two fourth in
    record {
      place = omega arith;
      small =
          let none : length a.records.items ≡ 0 = ap length no_record in
          let many : length e.records.items ≡ length a.records.items + length all.records = ap length all.records_are ∙ length-append a.records.items all.records in
          let six : length all.records ≤ 6 * (m1 + m2 + m3 + m4) = all.few in
          let by_parts = words_by_parts groups vtts infos in
          let four = four_each infos in
          omega (arith, empty, l1, l2, l3, l4, none, many, six, by_parts, four, items, few);
      says = λ image inside.
          let h = all.says image inside in
          let at : ℕ = BASE + 8 * length a.words.items in
          let group_place : at + 8 * m1 ≡ groups_start vtts = omega arith in
          let vtt_place : at + 8 * (m1 + m2) ≡ vtts_start groups vtts = omega arith in
          let info_place : at + 8 * (m1 + m2 + m3) ≡ infos_start groups vtts = omega arith in
          record {
            each_group = λ i group there. stood group_size (λ j g k. StandsAt image codes (class_address parts.infos.at.items) g k) groups (at + 8 * m1) (groups_start vtts) parts.groups.at.items group_place are.groups_at h.0.0.1 i group there;
            each_vtt = λ id words i word there inner. stood vtt_size (λ j vtt k. AllAt (HasPointAt image groups (address_in parts.groups.at.items)) vtt k) vtts (at + 8 * (m1 + m2)) (vtts_start groups vtts) parts.vtts.at.items vtt_place are.vtts_at.each h.0.1 id.0 words there i word inner;
            each_info = λ id info there. stood info_size (λ j t k. HasInfo image (class_address parts.infos.at.items) (class_by_number j) t k) infos (at + 8 * (m1 + m2 + m3)) (infos_start groups vtts) parts.infos.at.items info_place are.infos_at.each h.1 id.0 info there;
            directory = λ id words there.
                let pair = h.0.0.0 id.0 words there in
                let start : at + 16 * id.0 ≡ BASE + 16 * id.0 = omega arith in
                record {
                  point = slice_index_or parts.firsts.items id.0 0;
                  at_point = subst (λ n. image n ≡ Some (slice_index_or parts.firsts.items id.0 0)) start pair.0;
                  is_point = are.firsts.each id (slice_get_within vtts id.0 words there);
                  at_vtt = subst (λ n. image (n + 8) ≡ Some (vtt_address (class_address parts.vtts.at.items id) words)) start pair.1;
                };
            above = record {
              above_zero = omega arith;
              groups = are.groups_at.above;
              vtts = λ id. are.vtts_at.each.above id.0;
              infos = λ id. are.infos_at.each.above id.0;
            };
            below = parts_below groups vtts infos parts are;
          };
    }

-- the regions that were made one behind the other are the parts
pub parts_are : (groups : List Group) (vtts : List (List VttWord)) (infos : List TypeInfo) (p : Parts) (half start : ℕ) (group_sizes vtt_sizes info_sizes : List ℕ) (group_region vtt_region info_region : Region) →
    half ≡ BASE + 8 * length vtts → start ≡ half + 8 * length vtts → group_sizes ≡ map group_size groups → vtt_sizes ≡ map vtt_size vtts → info_sizes ≡ map info_size infos →
    IsRegion start group_sizes group_region → IsRegion group_region.end vtt_sizes vtt_region → IsRegion vtt_region.end info_sizes info_region →
    p.groups.at.items ≡ group_region.at.items → p.vtts ≡ vtt_region → p.infos ≡ info_region →
    AreGroupPoints groups p.groups.at.items p.groups.points.items → AreFirstPoints groups (address_in p.groups.at.items) (length vtts) p.firsts.items → AreImageParts groups vtts infos p
parts_are groups vtts infos p half start gs vs is gr vr ir half_is start_is gs_is vs_is is_is g v i at_is vtts_is infos_is points firsts =
    let s1 : start ≡ groups_start vtts = omega arith in
    let g_end : gr.end ≡ vtts_start groups vtts = g.end_is ∙ ap (λ n. n + 8 * sum_of_sizes gs) s1 ∙ ap (λ l. groups_start vtts + 8 * sum_of_sizes l) gs_is in
    let v_end : vr.end ≡ infos_start groups vtts = v.end_is ∙ ap (λ n. n + 8 * sum_of_sizes vs) g_end ∙ ap (λ l. vtts_start groups vtts + 8 * sum_of_sizes l) vs_is in
    record {
      groups_at = subst (λ l. AreAt (groups_start vtts) (map group_size groups) l) (sym at_is) (subst (λ l. AreAt (groups_start vtts) l gr.at.items) gs_is (subst (λ n. AreAt n gs gr.at.items) s1 g.each));
      vtts_at = subst (λ (r : Region). IsRegion (vtts_start groups vtts) (map vtt_size vtts) r) (sym vtts_is) (subst (λ l. IsRegion (vtts_start groups vtts) l vr) vs_is (subst (λ n. IsRegion n vs vr) g_end v));
      infos_at = subst (λ (r : Region). IsRegion (infos_start groups vtts) (map info_size infos) r) (sym infos_is) (subst (λ l. IsRegion (infos_start groups vtts) l ir) is_is (subst (λ n. IsRegion n is ir) v_end i));
      points = points;
      firsts = firsts;
    }
