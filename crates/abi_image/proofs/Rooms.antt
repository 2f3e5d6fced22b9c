-- Numbers that fit, since an image has few words.
use Rattle.std.proofs.Common.{◌≡◌, ℕ, zero, suc, ◌+◌, ◌*◌, ◌<◌, ◌≤◌, Some, List, [], ◌∷◌, map, length, get_or, take, refl, ap, sym, ◌∙◌, arith, append-nil, length-append, Option, None, ◌++◌}
use Rattle.std.specs.List.{sum_by}
use Rattle.std.proofs.lemmas.List.Sums.{sum_by-cons}
use Rattle.abi_slots.specs.declared.words.Group.{Group}
use Rattle.abi_slots.specs.declared.words.ReturnAdjust.{ReturnAdjust}
use Rattle.abi_slots.specs.declared.words.Table.{Table}
use Rattle.abi_slots.specs.declared.words.ThisAdjust.{ThisAdjust}
use Rattle.abi_slots.specs.declared.words.TypeInfo.{TypeInfo}
use Rattle.abi_slots.specs.declared.words.VttWord.{VttWord}
use Rattle.abi_slots.specs.Images.{Image, all_words, words_of}
use Rattle.abi_image.specs.declared.draft.Draft.{Draft}
use Rattle.abi_image.specs.Conditions.{words_in_image}
use Rattle.abi_image.specs.invariants.Drafts.{AddsRecord, Fills, HasRecordRoom, HasWordRoom, Puts, group_size, info_size, record_words, sum_of_sizes, table_size, vtt_size}
use Rattle.abi_image.proofs.Filling.{length_after}
use Rattle.abi_image.proofs.Lists.{flat_total}

-- the first items and the next one take no more than all
pub next_inside : {A : Type 0} (size : A → ℕ) (xs : List A) (i : ℕ) (x : A) → i < length xs → x ≡ get_or xs i x → sum_of_sizes (map size (take i xs)) + size x ≤ sum_of_sizes (map size xs)
next_inside size [] i x less is = absurd (omega arith)
next_inside size (y ∷ xs) zero x less is = let same : size x ≡ size y = ap size is in omega (arith, same)
next_inside size (y ∷ xs) (suc i) x less is = let ih = next_inside size xs i x (omega arith) is in omega (arith, ih)

pub size_inside : (sizes : List ℕ) (i n : ℕ) → i < length sizes → n ≡ get_or sizes i n → sum_of_sizes (take i sizes) + n ≤ sum_of_sizes sizes
size_inside [] i n less is = absurd (omega arith)
size_inside (m ∷ sizes) zero n less is = let same : n ≡ m = is in omega (arith, same)
size_inside (m ∷ sizes) (suc i) n less is = let ih = size_inside sizes i n (omega arith) is in omega (arith, ih)

-- the same for the words of tables
pub tables_inside : (tables : List Table) (i : ℕ) (t : Table) → i < length tables → t ≡ get_or tables i t → length (all_words (take i tables)) + length t.words ≤ length (all_words tables)
tables_inside tables i t less is =
    let some = flat_total words_of (take i tables) in
    let all = flat_total words_of tables in
    let next = next_inside table_size tables i t less is in
    omega (arith, some, all, next)

-- how many records there are then
pub records_after : (a b : Draft) (n : ℕ) (Says : Image → ℕ → Type 0) → Puts a b n Says → length b.records.items ≤ length a.records.items + 6 * n
records_after a b n Says puts =
    let many : length b.records.items ≡ length a.records.items + length puts.records = ap length puts.records_are ∙ length-append a.records.items puts.records in
    let few = puts.few in
    omega (arith, many, few)

-- there are addresses for the words of the next item, and for their records
module _ {A : Type 0} (size : A → ℕ) (P : Image → ℕ → A → ℕ → Type 0) (xs : List A) (i : ℕ) (x : A) (a b : Draft) (less : i < length xs) (is : x ≡ get_or xs i x) (fills : Fills size P xs i a b) where
  pub record_room : HasRecordRoom a (sum_of_sizes (map size xs)) → HasRecordRoom b (size x)
  record_room room =
      let many = records_after a b (sum_of_sizes (map size (take i xs))) _ fills.puts in
      let next = next_inside size xs i x less is in
      let same = fills.puts.same_place in
      omega (arith, many, next, same, room)

  pub word_room : HasWordRoom a (sum_of_sizes (map size xs)) → HasWordRoom b (size x)
  word_room room =
      let many = length_after a b (sum_of_sizes (map size (take i xs))) _ fills.puts in
      let next = next_inside size xs i x less is in
      omega (arith, many, next, room)

-- records

pub adds_nothing : (words : List ℕ) → AddsRecord words words
adds_nothing words = record { more = []; few = omega arith; is = sym (append-nil words) }

six_words : (at code : ℕ) (this : Option ThisAdjust) (adjusted : Option ReturnAdjust) → length (record_words at code this adjusted) ≤ 6
six_words at code None None = omega arith
six_words at code (Some this) adjusted = omega arith
six_words at code None (Some adjusted) = omega arith

pub adds_record : (at code : ℕ) (this : Option ThisAdjust) (adjusted : Option ReturnAdjust) (old new : List ℕ) → new ≡ old ++ record_words at code this adjusted → AddsRecord old new
adds_record at code this adjusted old new is = record { more = record_words at code this adjusted; few = six_words at code this adjusted; is = is }

-- all words, by the parts of an image

by_sizes : {A : Type 0} (f : A → ℕ) (xs : List A) → sum_by f xs ≡ sum_of_sizes (map f xs)
by_sizes f [] = refl
by_sizes f (x ∷ xs) = let all = sum_by-cons f x xs in let ih = by_sizes f xs in omega (arith, all, ih)

pub words_by_parts : (groups : List Group) (vtts : List (List VttWord)) (infos : List TypeInfo) → words_in_image groups vtts infos ≡ sum_of_sizes (map group_size groups) + sum_of_sizes (map vtt_size vtts) + sum_of_sizes (map info_size infos)
words_by_parts groups vtts infos =
    let g = by_sizes group_size groups in
    let v = by_sizes vtt_size vtts in
    let i = by_sizes info_size infos in
    omega (arith, g, v, i)

-- a record has four words
pub four_each : (infos : List TypeInfo) → 4 * length infos ≤ sum_of_sizes (map info_size infos)
four_each [] = omega arith
four_each (info ∷ infos) = let ih = four_each infos in omega (arith, ih)
