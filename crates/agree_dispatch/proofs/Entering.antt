-- What runs by the word of an entry, as it is read by addresses.
use Rattle.std.proofs.Common.{◌≡◌, ℕ, zero, suc, ◌+◌, ◌*◌, ◌%◌, ◌<◌, ◌^◌, Option, Some, None, List, refl, ap, ◌∙◌, arith}
use Rattle.std.proofs.Math.Nat.{mod-eq_of_lt}
use Rattle.cxx_overrider.specs.declared.FunctionId.{FunctionId}
use Rattle.abi_slots.specs.declared.code_numbers.CodeRow.{CodeRow}
use Rattle.abi_slots.specs.declared.words.CodeKind.{CodeKind}
use Rattle.abi_slots.specs.declared.words.EntryWord.TheVariants.{Pure, Code}
use Rattle.abi_slots.specs.declared.words.ReturnAdjust.{ReturnAdjust}
use Rattle.abi_slots.specs.declared.words.ThisAdjust.{ThisAdjust}
use Rattle.abi_slots.specs.CodeRows.{code_of, block_kind}
use Rattle.abi_slots.specs.Images.{Image, HasEntry, HasThunk, IsThunk, pure, runs, return_constant, return_vbase, this_constant, this_vcall}
use Rattle.byte_memory.specs.Store.{Store}
use Rattle.byte_code.specs.declared.code.ImageBytes.{ImageBytes}
use Rattle.byte_code.specs.Images.{word_at}
use Rattle.byte_code.specs.Numbers.{word_of}
use Rattle.byte_machine.specs.Running.{moved, table_word}
use Rattle.byte_machine.specs.Calls.{Callee, option_then, moved_by_word, this_by_thunk, thunk_word, callee_by, callee_at, callee}

-- the record of an entry that runs code
pub record EntryRecord (image : Image) (codes : List CodeRow) (at : ℕ) (f : FunctionId) (kind : CodeKind) (this : Option ThisAdjust) (result : Option ReturnAdjust) : Type 0 where
  pub place : ℕ
  pub code : ℕ
  pub thunk : ℕ
  pub above : 0 < place
  pub there : image at ≡ Some place
  pub coded : code_of codes f (block_kind kind) ≡ Some code
  pub small : code < 2 ^ 32
  pub first : image place ≡ Some code
  pub second : image (place + 8) ≡ Some thunk
  pub has : HasThunk image thunk this result

pub code_record : (image : Image) (codes : List CodeRow) (at : ℕ) (f : FunctionId) (kind : CodeKind) (this : Option ThisAdjust) (result : Option ReturnAdjust) → HasEntry image codes at (Code f kind this result) → EntryRecord image codes at f kind this result
code_record image codes at f kind this result (runs g k t r place code thunk above there coded small first second has) = record {
  place = place;
  code = code;
  thunk = thunk;
  above = above;
  there = there;
  coded = coded;
  small = small;
  first = first;
  second = second;
  has = has;
}

pub pure_word : (image : Image) (codes : List CodeRow) (at : ℕ) (f : FunctionId) → HasEntry image codes at (Pure f) → image at ≡ Some 0
pure_word image codes at f (pure g there) = there

-- what a thunk does: `this` is moved, and two words are for the result
pub record ThunkDoes (image : ImageBytes) (memory : Store) (from to thunk : ℕ) (result : Option ReturnAdjust) : Type 0 where
  pub this : this_by_thunk image memory from thunk ≡ Some to
  pub vbase : thunk_word image thunk 16 ≡ Some (word_of (return_vbase result))
  pub add : thunk_word image thunk 24 ≡ Some (word_of (return_constant result))

pub no_thunk : (image : ImageBytes) (memory : Store) (from to thunk : ℕ) → thunk ≡ 0 → from ≡ to → ThunkDoes image memory from to thunk None
no_thunk image memory from to zero none same = record { this = ap (λ a. Some a) same; vbase = refl; add = refl }
no_thunk image memory from to (suc thunk) none same = absurd (omega arith)

pub some_thunk : (image : ImageBytes) (memory : Store) (from mid to thunk : ℕ) (this : Option ThisAdjust) (result : Option ReturnAdjust) → IsThunk (word_at image) thunk this result → moved from (word_of (this_constant this)) ≡ mid → moved_by_word image memory mid (word_of (this_vcall this)) ≡ Some to →
    ThunkDoes image memory from to thunk result
some_thunk image memory from mid to zero this result t first second = absurd (let a = t.above in omega arith)
some_thunk image memory from mid to (suc thunk) this result t first second = record {
  this =
      ap (λ o. option_then o (λ add. option_then (word_at image (suc thunk + 8)) (λ vcall. moved_by_word image memory (moved from add) vcall))) t.this_add
      ∙ (ap (λ o. option_then o (λ vcall. moved_by_word image memory (moved from (word_of (this_constant this))) vcall)) t.this_word
      ∙ (ap (λ m. moved_by_word image memory m (word_of (this_vcall this))) first ∙ second));
  vbase = t.return_word;
  add = t.return_add;
}

-- a word that is not 0 moves an address
pub word_moves : (image : ImageBytes) (memory : Store) (at bytes by to : ℕ) → 0 < bytes → table_word image memory at bytes ≡ Some by → moved at by ≡ to → moved_by_word image memory at bytes ≡ Some to
word_moves image memory at zero by to some there leads = absurd (omega arith)
word_moves image memory at (suc bytes) by to some there leads = ap (λ o. option_then o (λ w. Some (moved at w))) there ∙ ap (λ a. Some a) leads

-- the record of an entry is read, and its thunk
pub callee_read : (image : ImageBytes) (memory : Store) (from to entry place code thunk : ℕ) (result : Option ReturnAdjust) → table_word image memory from (8 * entry) ≡ Some place → 0 < place → word_at image place ≡ Some code → word_at image (place + 8) ≡ Some thunk → code < 2 ^ 32 →
    ThunkDoes image memory from to thunk result → callee image memory from entry ≡ Some (record { block = code; this = to; vbase = word_of (return_vbase result); add = word_of (return_constant result) })
callee_read image memory from to entry zero code thunk result there above first second small does = absurd (omega arith)
callee_read image memory from to entry (suc place) code thunk result there above first second small does =
    let make : ℕ → Callee = λ block. record { block = block; this = to; vbase = word_of (return_vbase result); add = word_of (return_constant result) } in
    ap (λ o. option_then o (λ p. callee_at image memory from p)) there
    ∙ (ap (λ o. option_then o (λ c. option_then (word_at image (suc place + 8)) (λ t. callee_by image memory from c t))) first
    ∙ (ap (λ o. option_then o (λ t. callee_by image memory from code t)) second
    ∙ (ap (λ o. option_then o (λ new. option_then (thunk_word image thunk 16) (λ vbase. option_then (thunk_word image thunk 24) (λ add. Some (record { block = code % 2 ^ 32; this = new; vbase = vbase; add = add }))))) does.this
    ∙ (ap (λ o. option_then o (λ vbase. option_then (thunk_word image thunk 24) (λ add. Some (record { block = code % 2 ^ 32; this = to; vbase = vbase; add = add })))) does.vbase
    ∙ (ap (λ o. option_then o (λ add. Some (record { block = code % 2 ^ 32; this = to; vbase = word_of (return_vbase result); add = add }))) does.add
    ∙ ap (λ n. Some (make n)) (mod-eq_of_lt small))))))
