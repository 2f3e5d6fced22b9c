-- What the readers of an image find of tables and type information.
use Rattle.std.proofs.Common.{◌≡◌, ℕ, ◌+◌, true, Option, Some, None, List, length, sym, ℤ}
use Rattle.byte_code.specs.Numbers.{IsInBytes, word_of}
use Rattle.byte_code.specs.Records.{HasSigned, HasBaseRecord, IsEntryAt, IsInfoAt, IsThunkAt, nothing, not_zero, runs as runs_at}
use Rattle.byte_code.proofs.Words.{signed_of-low_of}
use Rattle.cxx_hierarchy.specs.declared.records.ClassId.{ClassId}
use Rattle.cxx_overrider.specs.declared.FunctionId.{FunctionId}
use Rattle.abi_slots.specs.declared.code_numbers.CodeRow.{CodeRow}
use Rattle.abi_slots.specs.declared.words.CodeKind.{CodeKind}
use Rattle.abi_slots.specs.declared.words.EntryWord.TheVariants.{Unused, Pure, Code}
use Rattle.abi_slots.specs.declared.words.InfoBase.{InfoBase}
use Rattle.abi_slots.specs.declared.words.ReturnAdjust.{ReturnAdjust}
use Rattle.abi_slots.specs.declared.words.ThisAdjust.{ThisAdjust}
use Rattle.abi_slots.specs.declared.words.TypeInfo.{TypeInfo}
use Rattle.abi_slots.specs.CodeRows.{block_kind, code_of}
use Rattle.abi_slots.specs.Images.{HasBaseWords, HasEntry, HasInfo, HasNumber, HasThunk, Image, IsThunk, info_bases, info_flags, pure, return_constant, return_vbase, runs, this_constant, this_vcall, unused}

-- the record that is read of an entry which runs code
pub record ReadsCode (image : Image) (codes : List CodeRow) (at : ℕ) (f : FunctionId) (kind : CodeKind) (this : Option ThisAdjust) (result : Option ReturnAdjust) : Type 0 where
  pub code : ℕ
  pub coded : code_of codes f (block_kind kind) ≡ Some code
  pub thunk : ℕ
  pub read : IsEntryAt image at (record { code = Some code; thunk = not_zero thunk })
  pub has : HasThunk image thunk this result

pub code_reads : (image : Image) (codes : List CodeRow) (at : ℕ) (f : FunctionId) (kind : CodeKind) (this : Option ThisAdjust) (result : Option ReturnAdjust) → HasEntry image codes at (Code f kind this result) → ReadsCode image codes at f kind this result
code_reads image codes at f kind this result (runs g k t r place code thunk above there coded small first second has) = record {
  code = code;
  coded = coded;
  thunk = thunk;
  read = runs_at place code thunk above there (record { there = first; small = small }) second;
  has = has;
}

pub unused_reads : (image : Image) (codes : List CodeRow) (at : ℕ) → HasEntry image codes at Unused → IsEntryAt image at (record { code = None; thunk = None })
unused_reads image codes at (unused there) = nothing there

pub pure_reads : (image : Image) (codes : List CodeRow) (at : ℕ) (f : FunctionId) → HasEntry image codes at (Pure f) → IsEntryAt image at (record { code = None; thunk = None })
pure_reads image codes at f (pure g there) = nothing there

-- a signed number of eight bytes comes back
pub number_reads : (image : Image) (at : ℕ) (number : ℤ) → IsInBytes 8 true number → HasNumber image at number → HasSigned image at number
number_reads image at number fits there = record { word = word_of number; there = there; is = sym (signed_of-low_of 8 true number fits) }

pub thunk_reads : (image : Image) (at : ℕ) (this : Option ThisAdjust) (result : Option ReturnAdjust) →
    IsInBytes 8 true (this_constant this) → IsInBytes 8 true (this_vcall this) → IsInBytes 8 true (return_vbase result) → IsInBytes 8 true (return_constant result) → IsThunk image at this result →
    IsThunkAt image at (record { this_add = this_constant this; this_vcall = this_vcall this; ret_vbase = return_vbase result; ret_add = return_constant result })
thunk_reads image at this result a b c d thunk = record {
  this_add = number_reads image at (this_constant this) a thunk.this_add;
  this_vcall = number_reads image (at + 8) (this_vcall this) b thunk.this_word;
  ret_vbase = number_reads image (at + 16) (return_vbase result) c thunk.return_word;
  ret_add = number_reads image (at + 24) (return_constant result) d thunk.return_add;
}

pub info_reads : (image : Image) (info : ClassId → ℕ) (c : ClassId) (type_info : TypeInfo) (at : ℕ) → (has : HasInfo image info c type_info at) → IsInfoAt image at (record { class = c.0; flags = info_flags type_info; bases = length (info_bases type_info); first = has.first })
info_reads image info c type_info at has = record {
  class = record { there = has.class; small = has.class_fits };
  flags = record { there = has.flags; small = has.flags_fit };
  bases = record { there = has.count; small = has.count_fits };
  first = has.at_first;
}

pub base_reads : (image : Image) (info : ClassId → ℕ) (base : InfoBase) (at : ℕ) → IsInBytes 8 true base.offset_flags → HasBaseWords image info base at → HasBaseRecord image at (record { info = info base.class; offset_flags = base.offset_flags })
base_reads image info base at fits has = record { info = has.class; offset_flags = number_reads image (at + 8) base.offset_flags fits has.offset_flags }
