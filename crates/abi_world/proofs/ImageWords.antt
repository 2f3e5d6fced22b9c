-- The tables of all classes have few words.
use Rattle.std.proofs.Common.{◌≡◌, ℕ, zero, suc, ◌+◌, ◌*◌, ◌<◌, ◌≤◌, ◌^◌, Some, List, [], ◌∷◌, ◌++◌, length, map, take, refl, ap, sym, subst, ◌∙◌, arith}
use Rattle.std.specs.Prelude.{slice_get, if◌then◌else◌}
use Rattle.std.specs.List.{sum_by}
use Rattle.std.proofs.lemmas.List.{length-map, take_all}
use Rattle.std.proofs.lemmas.List.Concat.{length-flat_map}
use Rattle.std.proofs.lemmas.Option.{get_or_from_slice_get}
use Rattle.std.proofs.lemmas.List.Sums.{sum_by-cons, sum_by-append, sum_by_push}
use Rattle.foundation.proofs.Truth.{split}
use Rattle.foundation.proofs.Places.{get_within, take_next}
use Rattle.cxx_hierarchy.specs.declared.records.ClassId.{ClassId}
use Rattle.cxx_hierarchy.specs.declared.records.Base.{Base}
use Rattle.cxx_hierarchy.specs.Classes.{Classes, bases_of}
use Rattle.cxx_hierarchy.specs.Hierarchies.{IsHierarchy}
use Rattle.cxx_subobject.specs.declared.Subobject.{Subobject}
use Rattle.cxx_subobject.specs.Subobjects.{class_of}
use Rattle.abi_sound.specs.Places.{Places}
use Rattle.abi_slots.specs.declared.words.Group.{Group}
use Rattle.abi_slots.specs.declared.words.GroupName.{GroupName}
use Rattle.abi_slots.specs.declared.words.TypeInfo.{TypeInfo}
use Rattle.abi_slots.specs.declared.words.TypeInfo.TheVariants.{Single}
use Rattle.abi_slots.specs.declared.words.VttWord.{VttWord}
use Rattle.abi_slots.specs.Images.{all_words, info_bases, words_of}
use Rattle.abi_rtti.specs.TypeInfos.{all_bases, info_base, info_by, is_simple, type_info}
use Rattle.abi_vtt.specs.Vtts.{has_vtt, vtt_items}
use Rattle.abi_tables.specs.Counts.{group_views, most_words, vtt_words, vtts_before_class, words_before_class, words_of_all_classes, words_of_view}
use Rattle.abi_tables.specs.Tables.{IsNamed, class_items, group_name, names_to}
use Rattle.abi_tables.proofs.TableLengths.{along_sum, group_length}
use Rattle.abi_image.specs.Conditions.{words_in_image}
use Rattle.abi_world.specs.Made.{AreAllTables, AreTablesTo}

sum_map : {A B : Type 0} (f : B → ℕ) (g : A → B) (xs : List A) → sum_by f (map g xs) ≡ sum_by (λ x. f (g x)) xs
sum_map f g [] = refl
sum_map f g (x ∷ xs) =
    let one = sum_by-cons f (g x) (map g xs) in
    let other = sum_by-cons (λ y. f (g y)) x xs in
    let ih = sum_map f g xs in
    omega (arith, one, other, ih)

-- items of at most 132 words each
few_each : {A : Type 0} (f : A → ℕ) (xs : List A) → ((i : ℕ) (x : A) → slice_get xs i ≡ Some x → f x ≤ 132) → sum_by f xs ≤ 132 * length xs
few_each f [] each = omega arith
few_each f (x ∷ xs) each =
    let all = sum_by-cons f x xs in
    let here = each 0 x refl in
    let ih = few_each f xs (λ i y there. each (suc i) y there) in
    omega (arith, all, here, ih)

module _ (h : Classes) (l : Places) where
  -- the words of the group of a name
  abbrev words_of_name : GroupName → ℕ
  words_of_name name = words_of_view h l name.complete name.view (class_of name.view)

  named_words : (name : GroupName) (group : Group) → IsNamed h l name group → length (all_words group.tables) ≡ words_of_name name
  named_words name group is =
      let of = is.group in
      let words = length-flat_map words_of group.tables in
      let many = group_length h l group of in
      let counted : words_of_name group.name ≡ words_of_view h l group.name.complete group.name.view (Some of.class) = ap (words_of_view h l group.name.complete group.name.view) of.view.of_class in
      words ∙ (many ∙ (sym counted ∙ ap words_of_name is.is))

  -- the words of the first classes, by groups and VTTs
  by_names : (n : ℕ) → words_before_class h l n ≡ sum_by words_of_name (names_to h n) + vtts_before_class h l n
  by_names zero = refl
  by_names (suc n) =
      let c : ClassId = record { 0 = n } in
      let ih = by_names n in
      let total : words_before_class h l (suc n) ≡ words_before_class h l n + (sum_by (λ (x : Subobject). words_of_view h l c x (class_of x)) (group_views h c) + vtt_words h l c) = refl in
      let names : sum_by words_of_name (names_to h (suc n)) ≡ sum_by words_of_name (names_to h n) + sum_by words_of_name (map (group_name c) (group_views h c)) = sum_by-append words_of_name (names_to h n) (map (group_name c) (group_views h c)) in
      let last : sum_by words_of_name (map (group_name c) (group_views h c)) ≡ sum_by (λ (x : Subobject). words_of_view h l c x (class_of x)) (group_views h c) = sum_map words_of_name (group_name c) (group_views h c) in
      let vtts : vtts_before_class h l (suc n) ≡ vtts_before_class h l n + vtt_words h l c = refl in
      omega (arith, ih, total, names, last, vtts)

  groups_words : (n : ℕ) (groups : List Group) (vtts : List (List VttWord)) (infos : List TypeInfo) → AreTablesTo h l n groups vtts infos → sum_by (λ (group : Group). length (all_words group.tables)) groups ≡ sum_by words_of_name (names_to h n)
  groups_words n groups vtts infos are = along_sum (IsNamed h l) words_of_name (λ (group : Group). length (all_words group.tables)) named_words (names_to h n) groups are.groups_are

  items_of : (c : ClassId) → length (class_items h l c) ≡ vtt_words h l c
  items_of c = split (has_vtt h c) (λ b. length (if b then vtt_items h l c else []) ≡ (if b then length (vtt_items h l c) else 0)) (λ _. refl) (λ _. refl)

  vtt_many : (n : ℕ) (groups : List Group) (vtts : List (List VttWord)) (infos : List TypeInfo) → AreTablesTo h l n groups vtts infos → (c : ClassId) (words : List VttWord) → slice_get vtts c.0 ≡ Some words → length words ≡ vtt_words h l c
  vtt_many n groups vtts infos are c words there = (are.vtts_are c words there).size ∙ items_of c

  abbrev many_words : List (List VttWord) → ℕ
  many_words vtts = sum_by (λ (words : List VttWord). length words) vtts

  vtts_words : (n : ℕ) (vtts : List (List VttWord)) → n ≤ length vtts → ((c : ClassId) (words : List VttWord) → slice_get vtts c.0 ≡ Some words → length words ≡ vtt_words h l c) → many_words (take n vtts) ≡ vtts_before_class h l n
  vtts_words zero vtts less each = refl
  vtts_words (suc n) vtts less each =
      let inside : n < length vtts = omega (arith, less) in
      let here = get_within vtts n inside in
      let ih = vtts_words n vtts (omega (arith, less)) each in
      let step : suc n ≡ n + 1 = omega arith in
      let next : many_words (take (suc n) vtts) ≡ many_words (take n vtts ++ here.0 ∷ []) = ap many_words (ap (λ k. take k vtts) step ∙ take_next vtts n here.0 inside (sym (get_or_from_slice_get vtts n here.0 here.0 here.1))) in
      let push : many_words (take n vtts ++ here.0 ∷ []) ≡ many_words (take n vtts) + length here.0 = sum_by_push (λ (words : List VttWord). length words) (take n vtts) here.0 in
      let many : length here.0 ≡ vtt_words h l (record { 0 = n }) = each (record { 0 = n }) here.0 here.1 in
      let total : vtts_before_class h l (suc n) ≡ vtts_before_class h l n + vtt_words h l (record { 0 = n }) = refl in
      omega (arith, ih, next, push, many, total)

  module _ (keeps : IsHierarchy h) where
    -- a record lists no more bases than the class has
    bases_few : (c : ClassId) → length (info_bases (type_info h l c)) ≤ 64
    bases_few c = by_bases (bases_of h c) refl
      where
        all_few : length (info_bases (all_bases h l c)) ≤ 64
        all_few =
            let many : length (info_bases (all_bases h l c)) ≡ length (bases_of h c) = length-map (bases_of h c) (info_base h l c) in
            let few : length (bases_of h c) ≤ 64 = keeps.few_bases c in
            omega (arith, many, few)

        by_bases : (bases : List (Base ClassId)) → bases_of h c ≡ bases → length (info_bases (info_by h l c bases)) ≤ 64
        by_bases [] e = omega arith
        by_bases (b ∷ []) e = split (is_simple l c b) (λ t. length (info_bases (if t then Single b.class else all_bases h l c)) ≤ 64) (λ _. omega arith) (λ _. all_few)
        by_bases (b ∷ d ∷ rest) e = all_few

    info_few : (n : ℕ) (groups : List Group) (vtts : List (List VttWord)) (infos : List TypeInfo) → AreTablesTo h l n groups vtts infos → (i : ℕ) (info : TypeInfo) → slice_get infos i ≡ Some info → 4 + 2 * length (info_bases info) ≤ 132
    info_few n groups vtts infos are i info there =
        let c : ClassId = record { 0 = i } in
        let few = bases_few c in
        let is : length (info_bases info) ≡ length (info_bases (type_info h l c)) = ap (λ (t : TypeInfo). length (info_bases t)) (are.infos_are c info there) in
        omega (arith, few, is)

    -- all tables within the limit on their words have few in the image
    pub few_words : (groups : List Group) (vtts : List (List VttWord)) (infos : List TypeInfo) → AreAllTables h l groups vtts infos → words_of_all_classes h l ≤ most_words → words_in_image groups vtts infos < 2 ^ 32
    few_words groups vtts infos are small =
        let all = by_names (length h) in
        let group_words = groups_words (length h) groups vtts infos are in
        let size = are.one_vtt_each in
        let vtt_words = vtts_words (length h) vtts (omega (arith, size)) (vtt_many (length h) groups vtts infos are) in
        let whole : many_words (take (length h) vtts) ≡ many_words vtts = ap many_words (take_all (length h) vtts (omega (arith, size))) in
        let info_words = few_each (λ (info : TypeInfo). 4 + 2 * length (info_bases info)) infos (info_few (length h) groups vtts infos are) in
        let infos_size = are.one_info_each in
        let classes : length h ≤ 1024 = keeps.few in
        let few : words_before_class h l (length h) ≤ 1048576 = small in
        omega (arith, all, group_words, vtt_words, whole, info_words, infos_size, classes, few)
