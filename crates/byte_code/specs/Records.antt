-- The records of an image: entries of virtual tables, their thunks, and type information (Itanium C++ ABI 2.5.2, 2.9.5).
use Rattle.std.specs.Prelude.{◌≡◌, ℕ, zero, suc, ◌+◌, ◌*◌, ◌<◌, ◌≤◌, ◌^◌, ◌⊎◌, true, Option, Some, None, ℤ, List, length, Contains}
use Rattle.byte_code.specs.Numbers.{signed_of}
use Rattle.byte_code.specs.declared.image.EntryRecord.{EntryRecord}
use Rattle.byte_code.specs.declared.image.InfoRecord.{InfoRecord}
use Rattle.byte_code.specs.declared.image.BaseRecord.{BaseRecord}
use Rattle.byte_code.specs.declared.image.ThunkRecord.{ThunkRecord}

-- the word at an address is that of a signed number
pub record HasSigned (image : ℕ → Option ℕ) (at : ℕ) (number : ℤ) : Type 0 where
  pub word : ℕ
  pub there : image at ≡ Some word
  pub is : number ≡ signed_of 8 true word

-- a word of 32 bits at an address
pub record HasSmall (image : ℕ → Option ℕ) (at : ℕ) (number : ℕ) : Type 0 where
  pub there : image at ≡ Some number
  pub small : number < 2 ^ 32

abbrev pub not_zero : ℕ → Option ℕ
not_zero zero = None
not_zero (suc n) = Some (suc n)

-- the word of an entry at an address: 0 where nothing runs, else the address of the number of its code and of the address of its
-- thunk, which is 0 where it has none
pub data IsEntryAt (image : ℕ → Option ℕ) (at : ℕ) : EntryRecord → Type 0 where
  nothing : image at ≡ Some 0 → IsEntryAt image at (record { code = None; thunk = None })
  runs : (address code thunk : ℕ) → 0 < address → image at ≡ Some address → HasSmall image address code → image (address + 8) ≡ Some thunk →
      IsEntryAt image at (record { code = Some code; thunk = not_zero thunk })

-- the record of a class: its number, its flags, how many bases it has, and the address of the first one
pub record IsInfoAt (image : ℕ → Option ℕ) (at : ℕ) (info : InfoRecord) : Type 0 where
  pub class : HasSmall image at info.class
  pub flags : HasSmall image (at + 8) info.flags
  pub bases : HasSmall image (at + 16) info.bases
  pub first : image (at + 24) ≡ Some info.first

-- a base in the record of a class: the address of its own record, and where it lies and what it is
pub record HasBaseRecord (image : ℕ → Option ℕ) (at : ℕ) (base : BaseRecord) : Type 0 where
  pub info : image at ≡ Some base.info
  pub offset_flags : HasSigned image (at + 8) base.offset_flags

-- a thunk: what is added to `this`, where the vcall word stands; where the vbase word stands for the result, and what is added to it
pub record IsThunkAt (image : ℕ → Option ℕ) (at : ℕ) (thunk : ThunkRecord) : Type 0 where
  pub this_add : HasSigned image at thunk.this_add
  pub this_vcall : HasSigned image (at + 8) thunk.this_vcall
  pub ret_vbase : HasSigned image (at + 16) thunk.ret_vbase
  pub ret_add : HasSigned image (at + 24) thunk.ret_add

-- the record of a class stands there, the classes of its bases have theirs at addresses of the list, and none of the records of its
-- bases has a byte of the word at an address
pub record IsClearOf (image : ℕ → Option ℕ) (infos : List ℕ) (at info_at : ℕ) : Type 0 where
  pub info : InfoRecord
  pub there : IsInfoAt image info_at info
  pub bases : (i : ℕ) → i < info.bases → (base : BaseRecord) × HasBaseRecord image (info.first + 16 * i) base × Contains infos base.info
  pub apart : (i : ℕ) → i < info.bases → (at + 8 ≤ info.first + 16 * i) ⊎ (info.first + 16 * i + 16 ≤ at)

-- a word of the directory, of a table or of a VTT: no record of a base has a byte of it, where the records of classes stand at the
-- addresses of a list
pub record IsTableWord (image : ℕ → Option ℕ) (at : ℕ) : Type 0 where
  pub infos : List ℕ
  pub some : 0 < length infos
  pub clear : (info_at : ℕ) → Contains infos info_at → IsClearOf image infos at info_at
