-- What the words of tables give to a machine that reads them by addresses (Itanium C++ ABI 2.5.2, 2.5.3).
use Rattle.std.specs.Prelude.{◌≡◌, ◌<◌, ◌*◌, ◌^◌, ℕ, true, false, Some, List}
use Rattle.cxx_hierarchy.specs.Classes.{Classes}
use Rattle.cxx_overrider.specs.declared.Overrider.{Overrider}
use Rattle.cxx_overrider.specs.Functions.{is_pure}
use Rattle.abi_sound.specs.Places.{Places}
use Rattle.abi_slots.specs.declared.code_numbers.CodeRow.{CodeRow}
use Rattle.abi_slots.specs.declared.words.EntryKey.{EntryKey}
use Rattle.abi_slots.specs.CodeRows.{code_of, block_kind}
use Rattle.abi_slots.specs.Groups.{return_for}
use Rattle.abi_slots.specs.Images.{return_vbase, return_constant}
use Rattle.abi_slots.specs.Listing.{entry_number}
use Rattle.byte_memory.specs.Store.{Store}
use Rattle.byte_code.specs.declared.code.ImageBytes.{ImageBytes}
use Rattle.byte_code.specs.Images.{word_at}
use Rattle.byte_code.specs.Numbers.{word_of}
use Rattle.byte_machine.specs.Running.{moved, table_word}
use Rattle.byte_machine.specs.Calls.{callee}
use Rattle.byte_machine.specs.Effects.{bytes_before}

-- a word of the table of an address moves it to another address
pub record MovesTo (image : ImageBytes) (memory : Store) (from bytes to : ℕ) : Type 0 where
  pub by : ℕ
  pub there : table_word image memory from bytes ≡ Some by
  pub leads : moved from by ≡ to

-- 8 bytes before the address point stands the address of a record, which begins with the number of a class
pub record NamesClass (image : ImageBytes) (memory : Store) (from class : ℕ) : Type 0 where
  pub info : ℕ
  pub there : table_word image memory from (bytes_before 8) ≡ Some info
  pub names : word_at image info ≡ Some class

-- what runs by the entry of a key, where `this` and the address to which it is moved are given: the block of the overrider; its result is moved to that of the key's function
pub record RunsByEntry (h : Classes) (l : Places) (image : ImageBytes) (codes : List CodeRow) (memory : Store) (k : EntryKey) (o : Overrider) (this to : ℕ) : Type 0 where
  pub block : ℕ
  pub coded : code_of codes o.function (block_kind k.kind) ≡ Some block
  pub small : block < 2 ^ 32
  pub called : callee image memory this (entry_number h l k) ≡
      Some (record { block = block; this = to; vbase = word_of (return_vbase (return_for h l o.function k.function)); add = word_of (return_constant (return_for h l o.function k.function)) })

-- the word of the entry is 0 where the overrider is pure; else it runs
pub record HasEntryWord (h : Classes) (l : Places) (image : ImageBytes) (codes : List CodeRow) (memory : Store) (k : EntryKey) (o : Overrider) (this to : ℕ) : Type 0 where
  pub word : ℕ
  pub there : table_word image memory this (8 * entry_number h l k) ≡ Some word
  pub pure : is_pure h o.function ≡ true → word ≡ 0
  pub above : is_pure h o.function ≡ false → 0 < word
  pub runs : is_pure h o.function ≡ false → RunsByEntry h l image codes memory k o this to
