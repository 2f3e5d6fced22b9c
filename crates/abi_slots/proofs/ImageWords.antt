-- Where the words of the tables of a group stand in an image.
use Rattle.std.proofs.Common.{◌≡◌, ℕ, zero, suc, ◌+◌, ◌*◌, Some, List, [], ◌∷◌, length, ap, subst, sym, arith}
use Rattle.std.specs.Prelude.{slice_get}
use Rattle.cxx_hierarchy.specs.declared.records.ClassId.{ClassId}
use Rattle.foundation.proofs.Places.{get_front}
use Rattle.abi_slots.specs.declared.code_numbers.CodeRow.{CodeRow}
use Rattle.abi_slots.specs.declared.words.TableWord.{TableWord}
use Rattle.abi_slots.specs.declared.words.Table.{Table}
use Rattle.abi_slots.specs.declared.words.Group.{Group}
use Rattle.abi_slots.specs.Images.{Image, HasWord, all_words, StandsAt, point_words, point_at}
use Rattle.abi_slots.proofs.Lists.{get_past}

-- a word of a table among all words of the tables
record IsAmong (tables : List Table) (n : ℕ) (table : Table) (j : ℕ) (word : TableWord) : Type 0 where
  index : ℕ
  there : slice_get (all_words tables) index ≡ Some word
  from_point : index + table.before ≡ point_words tables n + j

among : (tables : List Table) (n : ℕ) (table : Table) (j : ℕ) (word : TableWord) → slice_get tables n ≡ Some table → slice_get table.words j ≡ Some word → IsAmong tables n table j word
among [] n table j word e f = absurd (cc)
among (t ∷ tables) zero table j word e f =
    let same : t ≡ table = cc in
    record {
      index = j;
      there = get_front t.words (all_words tables) j word (subst (λ (a : Table). slice_get a.words j ≡ Some word) (sym same) f);
      from_point = let g : t.before ≡ table.before = ap (λ (a : Table). a.before) same in omega arith;
    }
among (t ∷ tables) (suc n) table j word e f =
    let r = among tables n table j word e f in
    let place = r.from_point in
    record { index = length t.words + r.index; there = get_past t.words (all_words tables) r.index word r.there; from_point = omega arith }

-- a word before an address point, and one from there on
pub record IsBefore (image : Image) (codes : List CodeRow) (info : ClassId → ℕ) (bytes point : ℕ) (word : TableWord) : Type 0 where
  pub at : ℕ
  pub before : at + bytes ≡ point
  pub there : HasWord image codes info at word

module _ (image : Image) (codes : List CodeRow) (info : ClassId → ℕ) (group : Group) (at : ℕ) (stands : StandsAt image codes info group at) where
  pub word_before : (n : ℕ) (table : Table) (j k : ℕ) (word : TableWord) → slice_get group.tables n ≡ Some table → slice_get table.words j ≡ Some word → j + k ≡ table.before → IsBefore image codes info (8 * k) (point_at at group.tables n) word
  word_before n table j k word e f is =
      let r = among group.tables n table j word e f in
      let place = r.from_point in
      record { at = at + 8 * r.index; before = omega arith; there = stands r.index word r.there }

  pub word_from : (n : ℕ) (table : Table) (k : ℕ) (word : TableWord) → slice_get group.tables n ≡ Some table → slice_get table.words (table.before + k) ≡ Some word → HasWord image codes info (point_at at group.tables n + 8 * k) word
  word_from n table k word e f =
      let r = among group.tables n table (table.before + k) word e f in
      let place = r.from_point in
      let same : at + 8 * r.index ≡ point_at at group.tables n + 8 * k = omega arith in
      subst (λ a. HasWord image codes info a word) same (stands r.index word r.there)
