use Rattle.std.proofs.Common.{◌≡◌, ℕ, ◌+◌, ◌*◌, ◌<◌, ◌^◌, Option, Some, None, List, [], ◌∷◌, ◌++◌, length, refl, sym, subst, arith}
use Rattle.std.specs.List.{slice_get}
use Rattle.cxx_overrider.specs.declared.FunctionId.{FunctionId}
use Rattle.abi_slots.specs.declared.code_numbers.CodeRow.{CodeRow}
use Rattle.abi_slots.specs.declared.words.CodeKind.{CodeKind}
use Rattle.abi_slots.specs.declared.words.ThisAdjust.{ThisAdjust}
use Rattle.abi_slots.specs.declared.words.ReturnAdjust.{ReturnAdjust}
use Rattle.abi_slots.specs.declared.words.EntryWord.TheVariants.{Code}
use Rattle.abi_slots.specs.CodeRows.{code_of, block_kind}
use Rattle.abi_slots.specs.Images.{Image, HasEntry, runs, HasThunk, IsThunk, this_constant, this_vcall, return_constant, return_vbase}
use Rattle.byte_code.specs.Numbers.{word_of}
use Rattle.abi_image.specs.declared.draft.Draft.{Draft}
use Rattle.abi_image.specs.declared.TheConstants.{BASE}
use Rattle.abi_image.specs.invariants.Drafts.{AddsRecord, Puts, WordsStandAt, record_words, thunk_words}
use Rattle.abi_image.proofs.Filling.{stands_back}

-- the word of a number in a list
pub word_there : (image : Image) (at : ℕ) (words : List ℕ) (i w there : ℕ) → WordsStandAt image at words → slice_get words i ≡ Some w → at + 8 * i ≡ there → image there ≡ Some w
word_there image at words i w there stands e same = subst (λ n. image n ≡ Some w) same (stands.each i w e)

-- the thunk in a record of an entry
thunk_there : (image : Image) (at code : ℕ) (this : Option ThisAdjust) (adjusted : Option ReturnAdjust) → WordsStandAt image at (code ∷ (at + 16) ∷ thunk_words this adjusted) → IsThunk image (at + 16) this adjusted
thunk_there image at code this adjusted stands =
    let words : List ℕ = code ∷ (at + 16) ∷ thunk_words this adjusted in
    record {
      above = omega arith;
      this_add = word_there image at words 2 (word_of (this_constant this)) (at + 16) stands refl (omega arith);
      this_word = word_there image at words 3 (word_of (this_vcall this)) (at + 16 + 8) stands refl (omega arith);
      return_word = word_there image at words 4 (word_of (return_vbase adjusted)) (at + 16 + 16) stands refl (omega arith);
      return_add = word_there image at words 5 (word_of (return_constant adjusted)) (at + 16 + 24) stands refl (omega arith);
    }

-- what stands in the record of an entry
pub record Recorded (image : Image) (at code : ℕ) (this : Option ThisAdjust) (adjusted : Option ReturnAdjust) : Type 0 where
  pub first : image at ≡ Some code
  pub thunk : ℕ
  pub second : image (at + 8) ≡ Some thunk
  pub has : HasThunk image thunk this adjusted

recorded : (image : Image) (at code : ℕ) (this : Option ThisAdjust) (adjusted : Option ReturnAdjust) → WordsStandAt image at (record_words at code this adjusted) → Recorded image at code this adjusted
recorded image at code None None stands = record {
  first = word_there image at (code ∷ 0 ∷ []) 0 code at stands refl (omega arith);
  thunk = 0;
  second = word_there image at (code ∷ 0 ∷ []) 1 0 (at + 8) stands refl (omega arith);
  has = refl;
}
recorded image at code (Some this) adjusted stands = record {
  first = word_there image at (code ∷ (at + 16) ∷ thunk_words (Some this) adjusted) 0 code at stands refl (omega arith);
  thunk = at + 16;
  second = word_there image at (code ∷ (at + 16) ∷ thunk_words (Some this) adjusted) 1 (at + 16) (at + 8) stands refl (omega arith);
  has = thunk_there image at code (Some this) adjusted stands;
}
recorded image at code None (Some adjusted) stands = record {
  first = word_there image at (code ∷ (at + 16) ∷ thunk_words None (Some adjusted)) 0 code at stands refl (omega arith);
  thunk = at + 16;
  second = word_there image at (code ∷ (at + 16) ∷ thunk_words None (Some adjusted)) 1 (at + 16) (at + 8) stands refl (omega arith);
  has = thunk_there image at code None (Some adjusted) stands;
}

-- an entry whose record was put behind others stands where its address stands
pub entry_stands : (image : Image) (codes : List CodeRow) (records_at place slot code : ℕ) (old new : List ℕ) (f : FunctionId) (kind : CodeKind) (this : Option ThisAdjust) (adjusted : Option ReturnAdjust) →
    new ≡ old ++ record_words place code this adjusted → place ≡ records_at + 8 * length old → 0 < records_at → code_of codes f (block_kind kind) ≡ Some code → code < 2 ^ 32 →
    WordsStandAt image records_at new → image slot ≡ Some place → HasEntry image codes slot (Code f kind this adjusted)
entry_stands image codes records_at place slot code old new f kind this adjusted is at above coded small stands there =
    let all : WordsStandAt image records_at (old ++ record_words place code this adjusted) = subst (λ ws. WordsStandAt image records_at ws) is stands in
    let behind : WordsStandAt image place (record_words place code this adjusted) = subst (λ n. WordsStandAt image n (record_words place code this adjusted)) (sym at) (stands_back image records_at old (record_words place code this adjusted) all) in
    let r : Recorded image place code this adjusted = recorded image place code this adjusted behind in
    runs f kind this adjusted place code r.thunk (omega arith) there coded small r.first r.second r.has

-- one word is put, and records behind the others
pub puts_table_word : (a b : Draft) (w : ℕ) (Says : Image → ℕ → Type 0) → b.words.items ≡ a.words.items ++ w ∷ [] → AddsRecord a.records.items b.records.items → b.records_at ≡ a.records_at →
    ((image : Image) (at : ℕ) → WordsStandAt image a.records_at b.records.items → image at ≡ Some w → Says image at) → Puts a b 1 Says
puts_table_word a b w Says words records place says = record {
  words = w ∷ [];
  count_is = refl;
  words_are = words;
  records = records.more;
  records_are = records.is;
  few = records.few;
  same_place = place;
  says = λ image inside.
      let all : WordsStandAt image BASE (a.words.items ++ w ∷ []) = subst (λ ws. WordsStandAt image BASE ws) words inside.words in
      let behind : WordsStandAt image (BASE + 8 * length a.words.items) (w ∷ []) = stands_back image BASE a.words.items (w ∷ []) all in
      says image (BASE + 8 * length a.words.items) (subst (λ n. WordsStandAt image n b.records.items) place inside.records)
      (word_there image (BASE + 8 * length a.words.items) (w ∷ []) 0 w (BASE + 8 * length a.words.items) behind refl (omega arith));
}
