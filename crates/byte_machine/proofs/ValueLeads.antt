-- One lemma for each op on words, globals and memory, and each outcome.
use Rattle.std.proofs.Common.{◌≡◌, ℕ, ◌+◌, ◌*◌, ◌<◌, ◌≤◌, Bool, true, false, Option, Some, None, List, [], ◌∷◌, ◌++◌, length, refl, inl, inr, ⊎_elim, ◌^◌}
use Rattle.std.proofs.Math.Nat.{mod-eq_of_lt}
use Rattle.std.specs.Prelude.{ℤ, nat_eq, nat_le, ◌||◌, ◌⊎◌, slice_get, slice_set}
use Rattle.byte_memory.specs.Bits.{number_from}
use Rattle.byte_memory.specs.Store.{store_of, store_bits_of, copied_store, copy_bits_of}
use Rattle.byte_code.specs.declared.width.Width.{Width}
use Rattle.byte_code.specs.declared.width.BitWidth.{BitWidth}
use Rattle.byte_code.specs.declared.op.ArithKind.{ArithKind}
use Rattle.byte_code.specs.declared.op.NumberKind.{NumberKind}
use Rattle.byte_code.specs.declared.op.PrintAs.TheVariants.{Number as AsNumber, Address as AsAddress, Class as AsClass}
use Rattle.byte_code.specs.declared.op.Finish.TheVariants.{Add, AddVbase, Convert, Move, WriteGlobal}
use Rattle.byte_code.specs.declared.op.Op.{Op}
use Rattle.byte_code.specs.declared.op.Op.TheVariants.{Does, Const, ReadGlobal, Load, Store as StoreOp, Copy, LoadBits, StoreBits, CopyBits, Arith, TypeOf, Top, Cast, Print, Dump}
use Rattle.byte_code.specs.Images.{word_at}
use Rattle.byte_code.specs.Numbers.{number_of_word, extended, extended_bits}
use Rattle.abi_dyncast.specs.Casts.{CastsTo, CanCastHinted}
use Rattle.byte_machine.specs.declared.turn.RawOut.TheVariants.{Number, Address, Class, Dump as DumpOut}
use Rattle.byte_machine.specs.Running.{Fixed, Running, Stop, moved, register, with_register, table_word}
use Rattle.byte_machine.specs.Values.{converted_word, calculated_word, are_equal_or_apart}
use Rattle.byte_machine.specs.Plans.{word_offset}
use Rattle.byte_machine.specs.Effects.{bytes_before, or_null}
use Rattle.byte_machine.specs.Leads.{OpsLead}
use Rattle.byte_machine.proofs.Leads.{below, within, not_zero, same_number}
use Rattle.byte_machine.proofs.CheckLeads.{Reached, BitsReached, width_is, bits_are}

-- Add to an address, to 0 and to the unset state
pub leads_add : (f : Fixed) {ops : List Op} {s : Running} {P : Running → Stop → Type 0} (to base offset at : ℕ) → register s base ≡ Some at → (at ≡ 0 → ⊥) → to < length s.top.registers → OpsLead f ops (with_register s to (Some (moved at offset))) P → OpsLead f (Does (Add to base offset) ∷ ops) s P
leads_add f {ops} {s} {P} to base offset at e some inside h = record { run = rw (e, not_zero at some, below to (length s.top.registers) inside) h.run }

pub leads_add_null : (f : Fixed) {ops : List Op} {s : Running} {P : Running → Stop → Type 0} (to base offset : ℕ) → register s base ≡ Some 0 → to < length s.top.registers → OpsLead f ops (with_register s to (Some 0)) P → OpsLead f (Does (Add to base offset) ∷ ops) s P
leads_add_null f {ops} {s} {P} to base offset e inside h = record { run = rw (e, below to (length s.top.registers) inside) h.run }

pub leads_add_unset : (f : Fixed) {ops : List Op} {s : Running} {P : Running → Stop → Type 0} (to base offset : ℕ) → register s base ≡ None → to < length s.top.registers → OpsLead f ops (with_register s to None) P → OpsLead f (Does (Add to base offset) ∷ ops) s P
leads_add_unset f {ops} {s} {P} to base offset e inside h = record { run = rw (e, below to (length s.top.registers) inside) h.run }

-- AddVbase, likewise
pub leads_add_vbase : (f : Fixed) {ops : List Op} {s : Running} {P : Running → Stop → Type 0} (to base : ℕ) (word : ℤ) (at by : ℕ) → register s base ≡ Some at → (at ≡ 0 → ⊥) → table_word f.image s.memory at (word_offset word) ≡ Some by → to < length s.top.registers → OpsLead f ops (with_register s to (Some (moved at by))) P → OpsLead f (Does (AddVbase to base word) ∷ ops) s P
leads_add_vbase f {ops} {s} {P} to base word at by e some there inside h = record { run = rw (e, not_zero at some, there, below to (length s.top.registers) inside) h.run }

pub leads_add_vbase_null : (f : Fixed) {ops : List Op} {s : Running} {P : Running → Stop → Type 0} (to base : ℕ) (word : ℤ) → register s base ≡ Some 0 → to < length s.top.registers → OpsLead f ops (with_register s to (Some 0)) P → OpsLead f (Does (AddVbase to base word) ∷ ops) s P
leads_add_vbase_null f {ops} {s} {P} to base word e inside h = record { run = rw (e, below to (length s.top.registers) inside) h.run }

pub leads_add_vbase_unset : (f : Fixed) {ops : List Op} {s : Running} {P : Running → Stop → Type 0} (to base : ℕ) (word : ℤ) → register s base ≡ None → to < length s.top.registers → OpsLead f ops (with_register s to None) P → OpsLead f (Does (AddVbase to base word) ∷ ops) s P
leads_add_vbase_unset f {ops} {s} {P} to base word e inside h = record { run = rw (e, below to (length s.top.registers) inside) h.run }

-- Convert
pub leads_convert : (f : Fixed) {ops : List Op} {s : Running} {P : Running → Stop → Type 0} (to from : ℕ) (kind : NumberKind) (word : ℕ) → register s from ≡ Some word → to < length s.top.registers → OpsLead f ops (with_register s to (Some (converted_word kind word))) P → OpsLead f (Does (Convert to from kind) ∷ ops) s P
leads_convert f {ops} {s} {P} to from kind word e inside h = record { run = rw (e, below to (length s.top.registers) inside) h.run }

pub leads_convert_unset : (f : Fixed) {ops : List Op} {s : Running} {P : Running → Stop → Type 0} (to from : ℕ) (kind : NumberKind) → register s from ≡ None → to < length s.top.registers → OpsLead f ops (with_register s to None) P → OpsLead f (Does (Convert to from kind) ∷ ops) s P
leads_convert_unset f {ops} {s} {P} to from kind e inside h = record { run = rw (e, below to (length s.top.registers) inside) h.run }

-- Move, of a word or of the unset state
pub leads_move : (f : Fixed) {ops : List Op} {s : Running} {P : Running → Stop → Type 0} (to from : ℕ) → to < length s.top.registers → OpsLead f ops (with_register s to (register s from)) P → OpsLead f (Does (Move to from) ∷ ops) s P
leads_move f {ops} {s} {P} to from inside h = record { run = rw (below to (length s.top.registers) inside) h.run }

-- Const
pub leads_const : (f : Fixed) {ops : List Op} {s : Running} {P : Running → Stop → Type 0} (to value : ℕ) → to < length s.top.registers → OpsLead f ops (with_register s to (Some value)) P → OpsLead f (Const to value ∷ ops) s P
leads_const f {ops} {s} {P} to value inside h = record { run = rw (below to (length s.top.registers) inside) h.run }

-- globals, of a word or of the unset state
pub leads_write_global : (f : Fixed) {ops : List Op} {s : Running} {P : Running → Stop → Type 0} (global from : ℕ) → global < length s.globals → OpsLead f ops (record s { globals = slice_set s.globals global (register s from) }) P → OpsLead f (Does (WriteGlobal global from) ∷ ops) s P
leads_write_global f {ops} {s} {P} global from inside h = record { run = rw (below global (length s.globals) inside) h.run }

pub leads_read_global : (f : Fixed) {ops : List Op} {s : Running} {P : Running → Stop → Type 0} (to global : ℕ) (word : Option ℕ) → slice_get s.globals global ≡ Some word → to < length s.top.registers → OpsLead f ops (with_register s to word) P → OpsLead f (ReadGlobal to global ∷ ops) s P
leads_read_global f {ops} {s} {P} to global word there inside h = record { run = rw (there, below to (length s.top.registers) inside) h.run }

-- Load of set bytes
pub leads_load : (f : Fixed) {ops : List Op} {s : Running} {P : Running → Stop → Type 0} (to base offset : ℕ) (width : Width) (at low : ℕ) → register s base ≡ Some at → Reached s (moved at offset) width.bytes → number_from s.memory.bit (8 * moved at offset) (8 * width.bytes) ≡ Some low → to < length s.top.registers → OpsLead f ops (with_register s to (Some (extended width low))) P → OpsLead f (Load to base offset width ∷ ops) s P
leads_load f {ops} {s} {P} to base offset width at low e reach number inside h = record { run = rw (e, width_is width.bytes reach.some reach.narrow, reach.there, number, below to (length s.top.registers) inside) h.run }

-- Store
pub leads_store : (f : Fixed) {ops : List Op} {s : Running} {P : Running → Stop → Type 0} (from base offset : ℕ) (width : Width) (at word : ℕ) → register s base ≡ Some at → register s from ≡ Some word → Reached s (moved at offset) width.bytes → OpsLead f ops (record s { memory = store_of s.memory (moved at offset) width.bytes word }) P → OpsLead f (StoreOp from base offset width ∷ ops) s P
leads_store f {ops} {s} {P} from base offset width at word e e' reach h = record { run = rw (e, e', width_is width.bytes reach.some reach.narrow, reach.there) h.run }

-- Copy, of bytes that are one or apart
pub leads_copy : (f : Fixed) {ops : List Op} {s : Running} {P : Running → Stop → Type 0} (to from offset bytes source target : ℕ) → register s from ≡ Some source → register s to ≡ Some target → Reached s (moved source offset) bytes → Reached s (moved target offset) bytes → are_equal_or_apart (moved source offset) (moved target offset) bytes ≡ true → OpsLead f ops (record s { memory = copied_store s.memory (moved source offset) (moved target offset) bytes }) P → OpsLead f (Copy to from offset bytes ∷ ops) s P
leads_copy f {ops} {s} {P} to from offset bytes source target e e' reach reach' apart h = record { run = rw (e, e', width_is bytes reach.some reach.narrow, reach.there, apart, reach'.there) h.run }

-- LoadBits of set bits
pub leads_load_bits : (f : Fixed) {ops : List Op} {s : Running} {P : Running → Stop → Type 0} (to base offset first : ℕ) (width : BitWidth) (at low : ℕ) → register s base ≡ Some at → BitsReached s (moved at offset) first width.bits → number_from s.memory.bit (8 * moved at offset + first) width.bits ≡ Some low → to < length s.top.registers → OpsLead f ops (with_register s to (Some (extended_bits width low))) P → OpsLead f (LoadBits to base offset first width ∷ ops) s P
leads_load_bits f {ops} {s} {P} to base offset first width at low e reach number inside h = record { run = rw (e, bits_are first width.bits reach.inside reach.some reach.narrow, reach.there, number, below to (length s.top.registers) inside) h.run }

-- StoreBits
pub leads_store_bits : (f : Fixed) {ops : List Op} {s : Running} {P : Running → Stop → Type 0} (from base offset first : ℕ) (width : BitWidth) (at word : ℕ) → register s base ≡ Some at → register s from ≡ Some word → BitsReached s (moved at offset) first width.bits → OpsLead f ops (record s { memory = store_bits_of s.memory (moved at offset) first width.bits word }) P → OpsLead f (StoreBits from base offset first width ∷ ops) s P
leads_store_bits f {ops} {s} {P} from base offset first width at word e e' reach h = record { run = rw (e, e', bits_are first width.bits reach.inside reach.some reach.narrow, reach.there) h.run }

-- CopyBits, of bits that are one or apart
pub leads_copy_bits : (f : Fixed) {ops : List Op} {s : Running} {P : Running → Stop → Type 0} (to from offset first bits source target : ℕ) → register s from ≡ Some source → register s to ≡ Some target → BitsReached s (moved source offset) first bits → BitsReached s (moved target offset) first bits → are_equal_or_apart (8 * moved source offset) (8 * moved target offset) bits ≡ true → OpsLead f ops (record s { memory = copy_bits_of s.memory (moved source offset) (moved target offset) first bits }) P → OpsLead f (CopyBits to from offset first bits ∷ ops) s P
leads_copy_bits f {ops} {s} {P} to from offset first bits source target e e' reach reach' apart h = record { run = rw (e, e', bits_are first bits reach.inside reach.some reach.narrow, reach.there, apart, reach'.there) h.run }

-- Arith of two numbers
pub leads_arith : (f : Fixed) {ops : List Op} {s : Running} {P : Running → Stop → Type 0} (kind : ArithKind) (width : Width) (to left right a b : ℕ) → 0 < width.bytes → width.bytes < 9 → register s left ≡ Some a → register s right ≡ Some b → to < length s.top.registers → OpsLead f ops (with_register s to (Some (calculated_word kind width (number_of_word width a) (number_of_word width b)))) P → OpsLead f (Arith kind width to left right ∷ ops) s P
leads_arith f {ops} {s} {P} kind width to left right a b some narrow e e' inside h = record { run = rw (e, e', width_is width.bytes some narrow, below to (length s.top.registers) inside) h.run }

-- TypeOf
pub leads_type_of : (f : Fixed) {ops : List Op} {s : Running} {P : Running → Stop → Type 0} (to base at info class : ℕ) → register s base ≡ Some at → table_word f.image s.memory at (bytes_before 8) ≡ Some info → word_at f.image info ≡ Some class → to < length s.top.registers → OpsLead f ops (with_register s to (Some class)) P → OpsLead f (TypeOf to base ∷ ops) s P
leads_type_of f {ops} {s} {P} to base at info class e there is inside h = record { run = rw (e, there, is, below to (length s.top.registers) inside) h.run }

-- Top
pub leads_top : (f : Fixed) {ops : List Op} {s : Running} {P : Running → Stop → Type 0} (to base at by : ℕ) → register s base ≡ Some at → (at ≡ 0 → ⊥) → table_word f.image s.memory at (bytes_before 16) ≡ Some by → to < length s.top.registers → OpsLead f ops (with_register s to (Some (moved at by))) P → OpsLead f (Top to base ∷ ops) s P
leads_top f {ops} {s} {P} to base at by e some there inside h = record { run = rw (e, not_zero at some, there, below to (length s.top.registers) inside) h.run }

pub leads_top_null : (f : Fixed) {ops : List Op} {s : Running} {P : Running → Stop → Type 0} (to base : ℕ) → register s base ≡ Some 0 → to < length s.top.registers → OpsLead f ops (with_register s to (Some 0)) P → OpsLead f (Top to base ∷ ops) s P
leads_top_null f {ops} {s} {P} to base e inside h = record { run = rw (e, below to (length s.top.registers) inside) h.run }

pub leads_top_unset : (f : Fixed) {ops : List Op} {s : Running} {P : Running → Stop → Type 0} (to base : ℕ) → register s base ≡ None → to < length s.top.registers → OpsLead f ops (with_register s to None) P → OpsLead f (Top to base ∷ ops) s P
leads_top_unset f {ops} {s} {P} to base e inside h = record { run = rw (e, below to (length s.top.registers) inside) h.run }

-- Cast, whatever the answer is
pub leads_cast : (f : Fixed) {ops : List Op} {s : Running} {P : Running → Stop → Type 0} (to base class target : ℕ) (hint : ℤ) (at : ℕ) → register s base ≡ Some at → (at ≡ 0 → ⊥) → CanCastHinted (word_at f.image) s.memory f.parts at class target hint → to < length s.top.registers → ((answer : Option ℕ) → CastsTo (word_at f.image) s.memory at class target answer → OpsLead f ops (with_register s to (Some (or_null answer))) P) → OpsLead f (Cast to base class target hint ∷ ops) s P
leads_cast f {ops} {s} {P} to base class target hint at e some can inside h = record { run = rw (e, not_zero at some) (can, λ answer casts. rw (below to (length s.top.registers) inside) (h answer casts).run) }

pub leads_cast_null : (f : Fixed) {ops : List Op} {s : Running} {P : Running → Stop → Type 0} (to base class target : ℕ) (hint : ℤ) → register s base ≡ Some 0 → to < length s.top.registers → OpsLead f ops (with_register s to (Some 0)) P → OpsLead f (Cast to base class target hint ∷ ops) s P
leads_cast_null f {ops} {s} {P} to base class target hint e inside h = record { run = rw (e, below to (length s.top.registers) inside) h.run }

pub leads_cast_unset : (f : Fixed) {ops : List Op} {s : Running} {P : Running → Stop → Type 0} (to base class target : ℕ) (hint : ℤ) → register s base ≡ None → to < length s.top.registers → OpsLead f ops (with_register s to None) P → OpsLead f (Cast to base class target hint ∷ ops) s P
leads_cast_unset f {ops} {s} {P} to base class target hint e inside h = record { run = rw (e, below to (length s.top.registers) inside) h.run }

-- Print of a number, of an address, and of the number of a class
pub leads_print_number : (f : Fixed) {ops : List Op} {s : Running} {P : Running → Stop → Type 0} (from word : ℕ) (width : Width) → register s from ≡ Some word → 0 < width.bytes → width.bytes < 9 → OpsLead f ops (record s { outs = s.outs ++ Number (number_of_word width word) ∷ [] }) P → OpsLead f (Print from (AsNumber width) ∷ ops) s P
leads_print_number f {ops} {s} {P} from word width e some narrow h = record { run = rw (e, width_is width.bytes some narrow) h.run }

pub leads_print_address : (f : Fixed) {ops : List Op} {s : Running} {P : Running → Stop → Type 0} (from word : ℕ) → register s from ≡ Some word → OpsLead f ops (record s { outs = s.outs ++ Address word ∷ [] }) P → OpsLead f (Print from AsAddress ∷ ops) s P
leads_print_address f {ops} {s} {P} from word e h = record { run = rw e h.run }

pub leads_print_class : (f : Fixed) {ops : List Op} {s : Running} {P : Running → Stop → Type 0} (from class : ℕ) → register s from ≡ Some class → class < 2 ^ 32 → OpsLead f ops (record s { outs = s.outs ++ Class class ∷ [] }) P → OpsLead f (Print from AsClass ∷ ops) s P
leads_print_class f {ops} {s} {P} from class e small h = record { run = rw (e, mod-eq_of_lt small) h.run }

-- Dump
pub leads_dump : (f : Fixed) {ops : List Op} {s : Running} {P : Running → Stop → Type 0} (from at : ℕ) → register s from ≡ Some at → OpsLead f ops (record s { outs = s.outs ++ DumpOut at ∷ [] }) P → OpsLead f (Dump from ∷ ops) s P
leads_dump f {ops} {s} {P} from at e h = record { run = rw e h.run }

-- ranges that are one, and ranges that lie apart
pub equal_ranges : (at bytes : ℕ) → are_equal_or_apart at at bytes ≡ true
equal_ranges at bytes = rw (same_number at) refl

pub apart_ranges : (from to bytes : ℕ) → (from + bytes ≤ to) ⊎ (to + bytes ≤ from) → are_equal_or_apart from to bytes ≡ true
apart_ranges from to bytes apart = by_cases (nat_eq from to) (nat_le (from + bytes) to) (⊎_elim (λ h. inl (within (from + bytes) to h)) (λ h. inr (within (to + bytes) from h)) apart)
  where
    by_cases : (same before : Bool) → (before ≡ true) ⊎ (nat_le (to + bytes) from ≡ true) → (same || (before || nat_le (to + bytes) from)) ≡ true
    by_cases true before h = refl
    by_cases false true h = refl
    by_cases false false h = ⊎_elim (λ e. cc) (λ e. e) h
