-- What an entry runs, as a call reads it: the words of the entry's record and of its thunk at addresses that wrap.
use Rattle.std.specs.Prelude.{ℕ, zero, suc, ◌%◌, ◌^◌, Option, Some, None}
use Rattle.byte_memory.specs.Store.{Store}
use Rattle.byte_code.specs.declared.code.ImageBytes.{ImageBytes}
use Rattle.byte_code.specs.Images.{word_at}
use Rattle.byte_machine.specs.Running.{moved, table_word}
use Rattle.byte_machine.specs.Calls.{option_then, moved_by_word}
use Rattle.abi_memptr.specs.declared.calls.Applied.{Applied}

-- what a thunk makes of `this`; the thunk 0 is none
abbrev pub thunk_this : ImageBytes → Store → ℕ → ℕ → Option ℕ
thunk_this image memory this zero = Some this
thunk_this image memory this (suc thunk) =
    option_then (word_at image (suc thunk)) (λ add. option_then (word_at image (moved (suc thunk) 8)) (λ vcall. moved_by_word image memory (moved this add) vcall))

abbrev pub record_target : ImageBytes → Store → ℕ → ℕ → Option Applied
record_target image memory this zero = None
record_target image memory this (suc place) =
    option_then (word_at image (suc place)) (λ code. option_then (word_at image (moved (suc place) 8)) (λ thunk. option_then (thunk_this image memory this thunk) (λ new. Some (record { code = code % 2 ^ 32; this_at = new }))))

-- what runs by the entry so many bytes behind the address point of the table of an address
abbrev pub entry_target : ImageBytes → Store → ℕ → ℕ → Option Applied
entry_target image memory this bytes = option_then (table_word image memory this bytes) (λ place. record_target image memory this place)
