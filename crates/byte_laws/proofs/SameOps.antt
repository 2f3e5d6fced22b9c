-- Each kind of op, of two states that differ in notes alone: one line a kind.
use Rattle.std.proofs.Common.{ℕ, zero, suc, Some, List, [], ◌∷◌}
use Rattle.std.specs.Prelude.{slice_get}
use Rattle.byte_code.specs.declared.op.Finish.{Finish}
use Rattle.byte_code.specs.declared.op.Finish.TheVariants.{Check as CheckOp, Add, AddVbase, Convert, Move, WriteGlobal}
use Rattle.byte_code.specs.declared.op.TraceKind.{TraceKind}
use Rattle.byte_code.specs.declared.op.TraceKind.TheVariants.{Call as TraceCall, Built as TraceBuilt, Ending as TraceEnding}
use Rattle.byte_code.specs.declared.op.Op.{Op}
use Rattle.byte_code.specs.declared.op.Op.TheVariants.{Does, Const, ReadGlobal, Load, Store as StoreOp, Copy, LoadBits, StoreBits, CopyBits, Arith, TypeOf, Top, Cast, Print, Dump, CallEntry, CallCode, New, DeleteEntry, DeleteCode, Open, SetTable, Begin, SetPhase, SetView, ViewBack, Jump, JumpIf, Trace, Return, End}
use Rattle.byte_code.specs.Images.{word_at}
use Rattle.byte_code.specs.Numbers.{extended, extended_bits}
use Rattle.byte_shadow.specs.Shadows.{Notes}
use Rattle.byte_machine.specs.declared.turn.MachineTurn.TheVariants.{Ended}
use Rattle.byte_machine.specs.Frames.{MachineFrame}
use Rattle.byte_machine.specs.Running.{Fixed, Running, Answers, moved, register, table_word}
use Rattle.byte_machine.specs.Plans.{word_offset, frame_owner, with_notes}
use Rattle.byte_machine.specs.Calls.{nothing_used}
use Rattle.byte_machine.specs.Effects.{bytes_before, or_null, finish_effect, jumping, jumped_if, call_told, traced, effect_of}
use Rattle.byte_laws.proofs.Alike.{past, still, Alike, goes, casts, stops, stuck_both}
use Rattle.byte_laws.proofs.SameTests.{put_alike, with_word_alike, passed_alike, in_width_alike, in_bits_alike, checked_alike}
use Rattle.byte_laws.proofs.SameValues.{converted_alike, global_read_alike, global_written_alike, put_loaded_alike, with_memory_alike, copied_bytes_alike, copied_bits_alike, telling_alike, printed_alike}
use Rattle.byte_laws.proofs.SameCalls.{entry_called_alike, code_called_alike, new_made_alike, deleted_alike, returned_alike}
use Rattle.byte_laws.proofs.SamePlans.{part_opened_alike, table_set_alike, part_begun_alike, part_phased_alike, view_set_alike}

finish_alike : (f : Fixed) (finish : Finish) (s : Running) (n : Notes) → Alike (past s) (finish_effect f finish s) (finish_effect f finish (with_notes s n))
finish_alike f (CheckOp test) s n = checked_alike f test s n
finish_alike f (Add to base offset) s n = passed_alike s n to (register s base) (λ at. put_alike s n to _)
finish_alike f (AddVbase to base word) s n = passed_alike s n to (register s base) (λ at. with_word_alike (table_word f.image s.memory at (word_offset word)) (λ by. put_alike s n to _))
finish_alike f (Convert to from kind) s n = converted_alike s n to kind (register s from)
finish_alike f (Move to from) s n = put_alike s n to (register s from)
finish_alike f (WriteGlobal global from) s n = global_written_alike s n global (register s from)

jumped_alike : (s : Running) (n : Notes) (block word : ℕ) → Alike (past s) (jumped_if block s word) (jumped_if block (with_notes s n) word)
jumped_alike s n block zero = goes s n still
jumped_alike s n block (suc word) = goes (jumping block s) n still

call_alike : (s : Running) (n : Notes) (opened : List MachineFrame) → Alike (past s) (call_told s opened) (call_told (with_notes s n) opened)
call_alike s n [] = stuck_both
call_alike s n (frame ∷ frames) = with_word_alike _ (λ this. telling_alike s n _)

traced_alike : (s : Running) (n : Notes) (what : TraceKind) → Alike (past s) (traced what s) (traced what (with_notes s n))
traced_alike s n TraceCall = call_alike s n s.opened
traced_alike s n (TraceBuilt class) = with_word_alike (register s 0) (λ this. telling_alike s n _)
traced_alike s n (TraceEnding class) = with_word_alike (register s 0) (λ this. telling_alike s n _)

pub effect_alike : (f : Fixed) (op : Op) (s : Running) (n : Notes) → Alike (past s) (effect_of f op s) (effect_of f op (with_notes s n))
effect_alike f (Does finish) s n = finish_alike f finish s n
effect_alike f (Const to value) s n = put_alike s n to (Some value)
effect_alike f (ReadGlobal to global) s n = global_read_alike s n to (slice_get s.globals global)
effect_alike f (Load to base offset width) s n = with_word_alike (register s base) (λ at. in_width_alike width.bytes (put_loaded_alike s n to (extended width) _))
effect_alike f (StoreOp from base offset width) s n = with_word_alike (register s base) (λ at. with_word_alike (register s from) (λ word. in_width_alike width.bytes (with_memory_alike s n _ _)))
effect_alike f (Copy to from offset bytes) s n = with_word_alike (register s from) (λ source. with_word_alike (register s to) (λ target. in_width_alike bytes (copied_bytes_alike s n (moved source offset) (moved target offset) bytes _)))
effect_alike f (LoadBits to base offset first width) s n = with_word_alike (register s base) (λ at. in_bits_alike first width.bits (put_loaded_alike s n to (extended_bits width) _))
effect_alike f (StoreBits from base offset first width) s n = with_word_alike (register s base) (λ at. with_word_alike (register s from) (λ word. in_bits_alike first width.bits (with_memory_alike s n _ _)))
effect_alike f (CopyBits to from offset first bits) s n = with_word_alike (register s from) (λ source. with_word_alike (register s to) (λ target. in_bits_alike first bits (copied_bits_alike s n (moved source offset) (moved target offset) first bits _)))
effect_alike f (Arith kind width to left right) s n = with_word_alike (register s left) (λ a. with_word_alike (register s right) (λ b. in_width_alike width.bytes (put_alike s n to _)))
effect_alike f (TypeOf to base) s n = with_word_alike (register s base) (λ at. with_word_alike (table_word f.image s.memory at (bytes_before 8)) (λ info. with_word_alike (word_at f.image info) (λ class. put_alike s n to _)))
effect_alike f (Top to base) s n = passed_alike s n to (register s base) (λ at. with_word_alike (table_word f.image s.memory at (bytes_before 16)) (λ by. put_alike s n to _))
effect_alike f (Cast to base class target hint) s n = passed_alike s n to (register s base) (λ at. casts at class target hint (λ answer. put_alike s n to (Some (or_null answer))))
effect_alike f (Print from what) s n = with_word_alike (register s from) (λ word. printed_alike s n what word)
effect_alike f (Dump from) s n = with_word_alike (register s from) (λ at. telling_alike s n _)
effect_alike f (CallEntry this entry arguments result) s n = with_word_alike (register s this) (λ at. entry_called_alike f s n entry arguments result at)
effect_alike f (CallCode block this arguments result) s n = with_word_alike (register s this) (λ at. code_called_alike f s n block arguments result at)
effect_alike f (New size class block result) s n = new_made_alike f s n size class block result
effect_alike f (DeleteEntry this entry) s n = with_word_alike (register s this) (λ at. deleted_alike s n at (entry_called_alike f s n entry [] nothing_used at))
effect_alike f (DeleteCode this block) s n = with_word_alike (register s this) (λ at. deleted_alike s n at (code_called_alike f s n block [] nothing_used at))
effect_alike f (Open how) s n = with_word_alike (register s 0) (λ this. part_opened_alike f s n how how.count this)
effect_alike f (SetTable how) s n = with_word_alike (register s 0) (λ this. table_set_alike f s n how this)
effect_alike f (Begin class owner) s n = with_word_alike (register s 0) (λ this. part_begun_alike s n class (frame_owner s.top.handed owner this class) this)
effect_alike f (SetPhase class phase) s n = with_word_alike (register s 0) (λ this. part_phased_alike s n class phase this)
effect_alike f (SetView class owner) s n = with_word_alike (register s 0) (λ this. view_set_alike s n (frame_owner s.top.handed owner this class) this class)
effect_alike f ViewBack s n = view_set_alike s n _ _ _
effect_alike f (Jump block) s n = goes (jumping block s) n still
effect_alike f (JumpIf r block) s n = with_word_alike (register s r) (λ word. jumped_alike s n block word)
effect_alike f (Trace what) s n = traced_alike s n what
effect_alike f (Return from class) s n = returned_alike f s n from class s.opened
effect_alike f End s n = stops s n (Answers Ended) still
