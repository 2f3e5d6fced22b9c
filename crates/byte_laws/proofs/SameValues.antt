-- Words, globals and memory of two states that differ in notes alone, and what they tell.
use Rattle.std.proofs.Common.{ℕ, ◌*◌, Option, Some, None, Result, Ok, Err, length, refl}
use Rattle.std.specs.Prelude.{nat_lt, ◌++◌, ◌∷◌, [], slice_set}
use Rattle.byte_memory.specs.declared.memory.MemoryFault.{MemoryFault}
use Rattle.byte_memory.specs.Store.{Store}
use Rattle.byte_code.specs.declared.op.NumberKind.{NumberKind}
use Rattle.byte_code.specs.declared.op.PrintAs.{PrintAs}
use Rattle.byte_code.specs.declared.op.PrintAs.TheVariants.{Number as AsNumber, Address as AsAddress, Class as AsClass}
use Rattle.byte_shadow.specs.Shadows.{Notes}
use Rattle.byte_machine.specs.declared.turn.RawOut.{RawOut}
use Rattle.byte_machine.specs.Running.{Running, telling_raw}
use Rattle.byte_machine.specs.Values.{put_converted, converted_word, global_read, global_written, put_loaded, with_memory, are_equal_or_apart, copied_bytes, copied_bits, print_effect}
use Rattle.byte_machine.specs.Plans.{with_notes}
use Rattle.byte_laws.proofs.Alike.{past, still, Alike, goes, stuck_both}
use Rattle.byte_laws.proofs.SameTests.{if_alike, put_alike, in_width_alike}

pub converted_alike : (s : Running) (n : Notes) (to : ℕ) (kind : NumberKind) (word : Option ℕ) → Alike (past s) (put_converted to kind s word) (put_converted to kind (with_notes s n) word)
converted_alike s n to kind None = put_alike s n to None
converted_alike s n to kind (Some word) = put_alike s n to (Some (converted_word kind word))

pub global_read_alike : (s : Running) (n : Notes) (to : ℕ) (word : Option (Option ℕ)) → Alike (past s) (global_read to s word) (global_read to (with_notes s n) word)
global_read_alike s n to None = stuck_both
global_read_alike s n to (Some word) = put_alike s n to word

pub global_written_alike : (s : Running) (n : Notes) (global : ℕ) (word : Option ℕ) → Alike (past s) (global_written global word s) (global_written global word (with_notes s n))
global_written_alike s n global word = if_alike (nat_lt global (length s.globals)) (goes (record s { globals = slice_set s.globals global word }) n still) stuck_both

pub put_loaded_alike : (s : Running) (n : Notes) (to : ℕ) (word : ℕ → ℕ) (read : Result ℕ MemoryFault) → Alike (past s) (put_loaded to word s read) (put_loaded to word (with_notes s n) read)
put_loaded_alike s n to word (Ok low) = put_alike s n to (Some (word low))
put_loaded_alike s n to word (Err fault) = stuck_both

pub with_memory_alike : (s : Running) (n : Notes) (fault : Option MemoryFault) (memory : Store) → Alike (past s) (with_memory s fault memory) (with_memory (with_notes s n) fault memory)
with_memory_alike s n (Some fault) memory = stuck_both
with_memory_alike s n None memory = goes (record s { memory = memory }) n still

pub copied_bytes_alike : (s : Running) (n : Notes) (from to bytes : ℕ) (fault : Option MemoryFault) → Alike (past s) (copied_bytes s from to bytes fault) (copied_bytes (with_notes s n) from to bytes fault)
copied_bytes_alike s n from to bytes (Some fault) = stuck_both
copied_bytes_alike s n from to bytes None = if_alike (are_equal_or_apart from to bytes) (with_memory_alike s n _ _) stuck_both

pub copied_bits_alike : (s : Running) (n : Notes) (from to first bits : ℕ) (fault : Option MemoryFault) → Alike (past s) (copied_bits s from to first bits fault) (copied_bits (with_notes s n) from to first bits fault)
copied_bits_alike s n from to first bits (Some fault) = stuck_both
copied_bits_alike s n from to first bits None = if_alike (are_equal_or_apart (8 * from) (8 * to) bits) (with_memory_alike s n _ _) stuck_both

pub telling_alike : (s : Running) (n : Notes) (out : RawOut) → Alike (past s) (telling_raw out s) (telling_raw out (with_notes s n))
telling_alike s n out = goes (record s { outs = s.outs ++ out ∷ [] }) n (refl, (out ∷ [], refl))

pub printed_alike : (s : Running) (n : Notes) (what : PrintAs) (word : ℕ) → Alike (past s) (print_effect what s word) (print_effect what (with_notes s n) word)
printed_alike s n (AsNumber width) word = in_width_alike width.bytes (telling_alike s n _)
printed_alike s n AsAddress word = telling_alike s n _
printed_alike s n AsClass word = telling_alike s n _
