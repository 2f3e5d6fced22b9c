-- No block answers that no step is left: that is the answer of a turn without a block.
use Rattle.std.proofs.Common.{◌≡◌, ℕ, zero, suc, ◌+◌, ◌*◌, Bool, true, false, Option, Some, None, Result, Ok, Err, List, [], ◌∷◌, refl, sym, ap, ◌∙◌, ℤ}
use Rattle.std.specs.Prelude.{nat_eq, nat_lt, nat_le, ◌&&◌, if◌then◌else◌, length, slice_get, find}
use Rattle.byte_memory.specs.declared.memory.MemoryFault.{MemoryFault}
use Rattle.byte_memory.specs.declared.memory.MemoryFault.TheVariants.{Unset, Closed, Range, NoMemory}
use Rattle.byte_memory.specs.declared.memory.Region.{Region}
use Rattle.byte_memory.specs.Regions.{rounded, starts}
use Rattle.byte_memory.specs.Store.{Store}
use Rattle.byte_code.specs.declared.op.ArithKind.{ArithKind}
use Rattle.byte_code.specs.declared.op.Check.{Check}
use Rattle.byte_code.specs.declared.op.Check.TheVariants.{NotNull, Open as OpenCheck, Ready, InView, SetRegister, SetLeaf, SetBits, HasCode, Derived, Whole, HeapObject, Complete, Never, Fits}
use Rattle.byte_code.specs.declared.op.Finish.{Finish}
use Rattle.byte_code.specs.declared.op.Finish.TheVariants.{Check as CheckOp, Add, AddVbase, Convert, Move, WriteGlobal}
use Rattle.byte_code.specs.declared.op.NumberKind.{NumberKind}
use Rattle.byte_code.specs.declared.op.Op.{Op}
use Rattle.byte_code.specs.declared.op.Op.TheVariants.{Does, Const, ReadGlobal, Load, Store as StoreOp, Copy, LoadBits, StoreBits, CopyBits, Arith, TypeOf, Top, Cast, Print, Dump, CallEntry, CallCode, New, DeleteEntry, DeleteCode, Open, SetTable, Begin, SetPhase, SetView, ViewBack, Jump, JumpIf, Trace, Return, End}
use Rattle.byte_code.specs.declared.op.Opening.{Opening}
use Rattle.byte_code.specs.declared.op.Phase.{Phase}
use Rattle.byte_code.specs.declared.op.PrintAs.{PrintAs}
use Rattle.byte_code.specs.declared.op.PrintAs.TheVariants.{Number as AsNumber, Address as AsAddress, Class as AsClass}
use Rattle.byte_code.specs.declared.op.ResultUse.{ResultUse}
use Rattle.byte_code.specs.declared.op.Setting.{Setting}
use Rattle.byte_code.specs.declared.op.TraceKind.{TraceKind}
use Rattle.byte_code.specs.declared.op.TraceKind.TheVariants.{Call as TraceCall, Built as TraceBuilt, Ending as TraceEnding}
use Rattle.byte_code.specs.declared.width.Width.{Width}
use Rattle.byte_code.specs.Images.{word_at}
use Rattle.byte_code.specs.Numbers.{extended, extended_bits}
use Rattle.byte_shadow.specs.Shadows.{ready_at, phased}
use Rattle.byte_machine.specs.declared.frames.Handed.{Handed}
use Rattle.byte_machine.specs.declared.heap.Opened.{Opened}
use Rattle.byte_machine.specs.declared.turn.MachineTurn.{MachineTurn}
use Rattle.byte_machine.specs.declared.turn.MachineTurn.TheVariants.{Went, Ended, Refused, OutOfSteps, Limit}
use Rattle.byte_machine.specs.Frames.{MachineFrame}
use Rattle.byte_machine.specs.Heap.{object_at, heap_limit}
use Rattle.byte_machine.specs.Running.{Fixed, Running, Stop, Answers, Returned, Effect, Goes, Asks, Casts, Tells, Stops, Stuck, moved, register, table_word, refuse, put_register, with_some_word, passed}
use Rattle.byte_machine.specs.Checks.{passes_if, of_address, null_checked, open_checked, same_address_and_class, with_pair, view_checked, in_width, in_bits, set_checked, leaf_checked, code_checked, begun_checked, with_object, complete_checked, fit_checked, checked}
use Rattle.byte_machine.specs.Values.{put_converted, global_read, global_written, put_loaded, with_memory, are_equal_or_apart, copied_bytes, copied_bits, print_effect}
use Rattle.byte_machine.specs.Calls.{Callee, callee, most_calls, unless_full, entry_called, nothing_used, deleted_unless_null, resumed_frame, uncovered, returned_to, result_moved, returned_with, result_checked, returned_by, operand, return_effect}
use Rattle.byte_machine.specs.Plans.{word_offset, frame_owner, handed_to, part_opened_by, part_opened, source_word, place_through, table_set, where_noted, unnoted, region_closed, is_ended, is_heap_object, closed_if, view_set, with_notes}
use Rattle.byte_machine.specs.Effects.{bytes_before, finish_effect, jumped_if, call_told, traced, effect_of}
use Rattle.byte_machine.specs.Runs.{MayLeadTo, Runs, finishing, Finishes, RunsBlock}

-- the answer is that no step is left
abbrev is_out_of_steps : MachineTurn → Bool
is_out_of_steps Went = false
is_out_of_steps Ended = false
is_out_of_steps (Refused rule line) = false
is_out_of_steps OutOfSteps = true
is_out_of_steps (Limit number) = false

abbrev stops_without_steps : Stop → Bool
stops_without_steps (Answers turn) = is_out_of_steps turn
stops_without_steps (Returned finish) = false

-- whatever an effect is answered, it does not stop for want of steps
data IsTimeless : Effect → Type 0 where
  goes : {s : Running} → IsTimeless (Goes s)
  asks : {size : ℕ} {next : ℕ → Effect} → ((at : ℕ) → IsTimeless (next at)) → IsTimeless (Asks size next)
  casts : {at class target : ℕ} {hint : ℤ} {next : Option ℕ → Effect} → ((answer : Option ℕ) → IsTimeless (next answer)) → IsTimeless (Casts at class target hint next)
  tells : {view_at view_class at class : ℕ} {next : Bool → Effect} → ((inside : Bool) → IsTimeless (next inside)) → IsTimeless (Tells view_at view_class at class next)
  stops : {s : Running} {stop : Stop} → stops_without_steps stop ≡ false → IsTimeless (Stops s stop)
  stuck : IsTimeless Stuck

if_timeless : (b : Bool) {e d : Effect} → IsTimeless e → IsTimeless d → IsTimeless (if b then e else d)
if_timeless true h k = h
if_timeless false h k = k

refuse_timeless : (rule : ℕ) (s : Running) → IsTimeless (refuse rule s)
refuse_timeless rule s = stops refl

put_timeless : (to : ℕ) (word : Option ℕ) (s : Running) → IsTimeless (put_register to word s)
put_timeless to word s = if_timeless (nat_lt to (length s.top.registers)) goes stuck

word_timeless : (word : Option ℕ) {next : ℕ → Effect} → ((word : ℕ) → IsTimeless (next word)) → IsTimeless (with_some_word word next)
word_timeless None h = stuck
word_timeless (Some word) h = h word

passed_timeless : (to : ℕ) (s : Running) (word : Option ℕ) {next : ℕ → Effect} → ((at : ℕ) → IsTimeless (next at)) → IsTimeless (passed to s word next)
passed_timeless to s None h = put_timeless to None s
passed_timeless to s (Some at) h = if_timeless (nat_eq at 0) (put_timeless to (Some 0) s) (h at)

-- tests

passes_timeless : (rule : ℕ) (s : Running) (b : Bool) → IsTimeless (passes_if rule s b)
passes_timeless rule s true = goes
passes_timeless rule s false = refuse_timeless rule s

address_timeless : (s : Running) (word : Option ℕ) {test : ℕ → Effect} → ((at : ℕ) → IsTimeless (test at)) → IsTimeless (of_address s word test)
address_timeless s None h = goes
address_timeless s (Some at) h = if_timeless (nat_eq at 0) goes (h at)

null_timeless : (s : Running) (word : Option ℕ) → IsTimeless (null_checked s word)
null_timeless s None = goes
null_timeless s (Some zero) = refuse_timeless 1 s
null_timeless s (Some (suc at)) = goes

open_timeless : (s : Running) (fault : Option MemoryFault) → IsTimeless (open_checked s fault)
open_timeless s None = goes
open_timeless s (Some (Closed at)) = refuse_timeless 2 s
open_timeless s (Some (Unset at)) = stuck
open_timeless s (Some (Range at)) = stuck
open_timeless s (Some NoMemory) = stuck

pair_timeless : (pair : Option (ℕ × ℕ)) {next : ℕ × ℕ → Effect} → ((pair : ℕ × ℕ) → IsTimeless (next pair)) → IsTimeless (with_pair pair next)
pair_timeless None h = stuck
pair_timeless (Some pair) h = h pair

view_timeless : (s : Running) (at class : ℕ) {next : Effect} → IsTimeless next → IsTimeless (view_checked s at class next)
view_timeless s at class h =
    pair_timeless (s.notes.owner at class) (λ owner. pair_timeless (s.notes.view owner.0 owner.1) (λ view. if_timeless (same_address_and_class view at class) h (tells (λ inside. if_timeless inside h (refuse_timeless 4 s)))))

width_timeless : (bytes : ℕ) {next : Effect} → IsTimeless next → IsTimeless (in_width bytes next)
width_timeless bytes h = if_timeless (nat_lt 0 bytes && nat_lt bytes 9) h stuck

bits_timeless : (first bits : ℕ) {next : Effect} → IsTimeless next → IsTimeless (in_bits first bits next)
bits_timeless first bits h = if_timeless (nat_lt first 8 && (nat_lt 0 bits && nat_le (first + bits) 64)) h stuck

set_timeless : (s : Running) (word : Option ℕ) → IsTimeless (set_checked s word)
set_timeless s None = refuse_timeless 5 s
set_timeless s (Some word) = goes

leaf_timeless : (s : Running) (fault : Option MemoryFault) (number : Option ℕ) → IsTimeless (leaf_checked s fault number)
leaf_timeless s (Some fault) number = stuck
leaf_timeless s None None = refuse_timeless 5 s
leaf_timeless s None (Some number) = goes

code_timeless : (s : Running) (word : Option ℕ) → IsTimeless (code_checked s word)
code_timeless s None = stuck
code_timeless s (Some zero) = refuse_timeless 6 s
code_timeless s (Some (suc record_at)) = goes

begun_timeless : (s : Running) (phase : Option Phase) → IsTimeless (begun_checked s phase)
begun_timeless s None = refuse_timeless 7 s
begun_timeless s (Some phase) = goes

object_timeless : (object : Option Opened) {next : Opened → Effect} → ((object : Opened) → IsTimeless (next object)) → IsTimeless (with_object object next)
object_timeless None h = stuck
object_timeless (Some object) h = h object

complete_timeless : (s : Running) (phase : Option Phase) → IsTimeless (complete_checked s phase)
complete_timeless s None = refuse_timeless 10 s
complete_timeless s (Some phase) = passes_timeless 10 s _

fit_timeless : (kind : ArithKind) (width : Width) (s : Running) (a b : Option ℕ) → IsTimeless (fit_checked kind width s a b)
fit_timeless kind width s (Some a) (Some b) = passes_timeless 12 s _
fit_timeless kind width s (Some a) None = goes
fit_timeless kind width s None b = goes

checked_timeless : (f : Fixed) (test : Check) (s : Running) → IsTimeless (checked f test s)
checked_timeless f (NotNull r) s = null_timeless s (register s r)
checked_timeless f (OpenCheck r) s = address_timeless s (register s r) (λ at. open_timeless s _)
checked_timeless f (Ready r offset class) s = address_timeless s (register s r) (λ at. passes_timeless 3 s _)
checked_timeless f (InView r offset class) s = address_timeless s (register s r) (λ at. view_timeless s (moved at offset) class goes)
checked_timeless f (SetRegister r) s = set_timeless s (register s r)
checked_timeless f (SetLeaf base offset width) s = address_timeless s (register s base) (λ at. width_timeless width.bytes (leaf_timeless s _ _))
checked_timeless f (SetBits base offset first width) s = address_timeless s (register s base) (λ at. bits_timeless first width.bits (leaf_timeless s _ _))
checked_timeless f (HasCode r entry) s = address_timeless s (register s r) (λ at. code_timeless s _)
checked_timeless f (Derived r offset class) s = address_timeless s (register s r) (λ at. begun_timeless s _)
checked_timeless f (Whole r class) s = address_timeless s (register s r) (λ at. pair_timeless (s.notes.owner at class) (λ owner. passes_timeless 8 s _))
checked_timeless f (HeapObject r class) s = address_timeless s (register s r) (λ at. pair_timeless (s.notes.owner at class) (λ owner. object_timeless (object_at s.objects at) (λ object. passes_timeless 9 s _)))
checked_timeless f (Complete r) s = address_timeless s (register s r) (λ at. object_timeless (object_at s.objects at) (λ object. complete_timeless s _))
checked_timeless f Never s = refuse_timeless 11 s
checked_timeless f (Fits kind width left right) s = width_timeless width.bytes (fit_timeless kind width s _ _)

-- words, globals and memory

converted_timeless : (to : ℕ) (kind : NumberKind) (s : Running) (word : Option ℕ) → IsTimeless (put_converted to kind s word)
converted_timeless to kind s None = put_timeless to None s
converted_timeless to kind s (Some word) = put_timeless to _ s

read_timeless : (to : ℕ) (s : Running) (word : Option (Option ℕ)) → IsTimeless (global_read to s word)
read_timeless to s None = stuck
read_timeless to s (Some word) = put_timeless to word s

written_timeless : (global : ℕ) (word : Option ℕ) (s : Running) → IsTimeless (global_written global word s)
written_timeless global word s = if_timeless (nat_lt global (length s.globals)) goes stuck

loaded_timeless : (to : ℕ) (word : ℕ → ℕ) (s : Running) (read : Result ℕ MemoryFault) → IsTimeless (put_loaded to word s read)
loaded_timeless to word s (Ok low) = put_timeless to (Some (word low)) s
loaded_timeless to word s (Err fault) = stuck

memory_timeless : (s : Running) (fault : Option MemoryFault) (memory : Store) → IsTimeless (with_memory s fault memory)
memory_timeless s (Some fault) memory = stuck
memory_timeless s None memory = goes

bytes_timeless : (s : Running) (from to bytes : ℕ) (fault : Option MemoryFault) → IsTimeless (copied_bytes s from to bytes fault)
bytes_timeless s from to bytes (Some fault) = stuck
bytes_timeless s from to bytes None = if_timeless (are_equal_or_apart from to bytes) (memory_timeless s _ _) stuck

copied_timeless : (s : Running) (from to first bits : ℕ) (fault : Option MemoryFault) → IsTimeless (copied_bits s from to first bits fault)
copied_timeless s from to first bits (Some fault) = stuck
copied_timeless s from to first bits None = if_timeless (are_equal_or_apart (8 * from) (8 * to) bits) (memory_timeless s _ _) stuck

printed_timeless : (what : PrintAs) (s : Running) (word : ℕ) → IsTimeless (print_effect what s word)
printed_timeless (AsNumber width) s word = width_timeless width.bytes goes
printed_timeless AsAddress s word = goes
printed_timeless AsClass s word = goes

-- calls, `new`, `delete` and returns

full_timeless : (s : Running) {next : Effect} → IsTimeless next → IsTimeless (unless_full s next)
full_timeless s h = if_timeless (nat_le most_calls s.calls) (stops refl) h

entry_timeless : (f : Fixed) (s : Running) (entry : ℕ) (arguments : List ℕ) (result : ResultUse) (this : ℕ) → IsTimeless (entry_called f s entry arguments result this)
entry_timeless f s entry arguments result this = by_callee (callee f.image s.memory this entry) refl
  where
    by_callee : (to : Option Callee) → callee f.image s.memory this entry ≡ to → IsTimeless (entry_called f s entry arguments result this)
    by_callee None e = rw e (full_timeless s stuck)
    by_callee (Some to) e = rw e (full_timeless s goes)

deleted_timeless : (this : ℕ) (s : Running) {next : Effect} → IsTimeless next → IsTimeless (deleted_unless_null this s next)
deleted_timeless this s h = if_timeless (nat_eq this 0) goes h

uncovered_timeless : (s : Running) (below : List MachineFrame) (f : Option MachineFrame) → IsTimeless (uncovered s below f)
uncovered_timeless s below None = stuck
uncovered_timeless s below (Some f) = stops refl

returned_to_timeless : (s : Running) (word : Option ℕ) (below : List MachineFrame) → IsTimeless (returned_to s word below)
returned_to_timeless s word [] = stuck
returned_to_timeless s word (f ∷ below) = uncovered_timeless s below (resumed_frame s.top.kept.to word f)

returned_with_timeless : (s : Running) (word : Option (Option ℕ)) → IsTimeless (returned_with s word)
returned_with_timeless s None = stuck
returned_with_timeless s (Some word) = returned_to_timeless s word s.below

result_timeless : (s : Running) (word found class : Option ℕ) {next : Effect} → IsTimeless next → IsTimeless (result_checked s word found class next)
result_timeless s (Some (suc at)) (Some found) (Some class) h =
    if_timeless (nat_eq found class) h (if_timeless (ready_at s.notes (suc at) class) (if_timeless (nat_eq s.top.kept.vbase 0) h (view_timeless s (suc at) class h)) (refuse_timeless 3 s))
result_timeless s (Some (suc at)) (Some found) None h = h
result_timeless s (Some (suc at)) None class h = h
result_timeless s (Some zero) found class h = h
result_timeless s None found class h = h

returned_by_timeless : (f : Fixed) (s : Running) (word class : Option ℕ) (again : ℕ) → IsTimeless (returned_by f s word class again)
returned_by_timeless f s word class zero = result_timeless s word s.top.kept.class class (returned_with_timeless s (result_moved f s word))
returned_by_timeless f s word class (suc again) = word_timeless (register s 0) (λ this. goes)

return_timeless : (f : Fixed) (s : Running) (from class : Option ℕ) (opened : List MachineFrame) → IsTimeless (return_effect f s from class opened)
return_timeless f s from class [] = returned_by_timeless f s (operand s from) class s.top.again
return_timeless f s from class (frame ∷ frames) = stuck

-- constructors and destructors

part_by_timeless : (f : Fixed) (s : Running) (how : Opening) (this again : ℕ) (handed : Option Handed) → IsTimeless (part_opened_by f s how this again handed)
part_by_timeless f s how this again None = stuck
part_by_timeless f s how this again (Some handed) = goes

part_timeless : (f : Fixed) (s : Running) (how : Opening) (count this : ℕ) → IsTimeless (part_opened f s how count this)
part_timeless f s how zero this = goes
part_timeless f s how (suc again) this = part_by_timeless f s how this again (handed_to f s.top.handed this how.hand)

table_timeless : (f : Fixed) (s : Running) (how : Setting) (this : ℕ) → IsTimeless (table_set f s how this)
table_timeless f s how this = word_timeless (source_word f s.top.handed how.source) (λ point. word_timeless (place_through f s.top.handed (moved this how.place) how.through) (λ at. memory_timeless s _ _))

noted_timeless : (phase : Option Phase) {next : Effect} → IsTimeless next → IsTimeless (where_noted phase next)
noted_timeless None h = stuck
noted_timeless (Some phase) h = h

unnoted_timeless : (phase : Option Phase) {next : Effect} → IsTimeless next → IsTimeless (unnoted phase next)
unnoted_timeless None h = h
unnoted_timeless (Some phase) h = stuck

region_timeless : (s : Running) (at : ℕ) (region : Option Region) → IsTimeless (region_closed s at region)
region_timeless s at None = stuck
region_timeless s at (Some region) = if_timeless region.is_open goes stuck

closed_timeless : (b : Bool) (s : Running) (at : ℕ) → IsTimeless (closed_if b s at)
closed_timeless false s at = goes
closed_timeless true s at = region_timeless s at (find (starts at) s.memory.regions)

view_set_timeless : (s : Running) (owner : ℕ × ℕ) (at class : ℕ) → IsTimeless (view_set s owner at class)
view_set_timeless s owner at class = noted_timeless (s.notes.phase owner.0 owner.1) goes

-- ops

finish_timeless : (f : Fixed) (finish : Finish) (s : Running) → IsTimeless (finish_effect f finish s)
finish_timeless f (CheckOp test) s = checked_timeless f test s
finish_timeless f (Add to base offset) s = passed_timeless to s (register s base) (λ at. put_timeless to _ s)
finish_timeless f (AddVbase to base word) s = passed_timeless to s (register s base) (λ at. word_timeless (table_word f.image s.memory at (word_offset word)) (λ by. put_timeless to _ s))
finish_timeless f (Convert to from kind) s = converted_timeless to kind s (register s from)
finish_timeless f (Move to from) s = put_timeless to (register s from) s
finish_timeless f (WriteGlobal global from) s = written_timeless global (register s from) s

jumped_timeless : (block : ℕ) (s : Running) (word : ℕ) → IsTimeless (jumped_if block s word)
jumped_timeless block s zero = goes
jumped_timeless block s (suc word) = goes

told_timeless : (s : Running) (opened : List MachineFrame) → IsTimeless (call_told s opened)
told_timeless s [] = stuck
told_timeless s (frame ∷ frames) = word_timeless _ (λ this. goes)

traced_timeless : (what : TraceKind) (s : Running) → IsTimeless (traced what s)
traced_timeless TraceCall s = told_timeless s s.opened
traced_timeless (TraceBuilt class) s = word_timeless (register s 0) (λ this. goes)
traced_timeless (TraceEnding class) s = word_timeless (register s 0) (λ this. goes)

effect_timeless : (f : Fixed) (op : Op) (s : Running) → IsTimeless (effect_of f op s)
effect_timeless f (Does finish) s = finish_timeless f finish s
effect_timeless f (Const to value) s = put_timeless to (Some value) s
effect_timeless f (ReadGlobal to global) s = read_timeless to s (slice_get s.globals global)
effect_timeless f (Load to base offset width) s = word_timeless (register s base) (λ at. width_timeless width.bytes (loaded_timeless to (extended width) s _))
effect_timeless f (StoreOp from base offset width) s = word_timeless (register s base) (λ at. word_timeless (register s from) (λ word. width_timeless width.bytes (memory_timeless s _ _)))
effect_timeless f (Copy to from offset bytes) s = word_timeless (register s from) (λ source. word_timeless (register s to) (λ target. width_timeless bytes (bytes_timeless s (moved source offset) (moved target offset) bytes _)))
effect_timeless f (LoadBits to base offset first width) s = word_timeless (register s base) (λ at. bits_timeless first width.bits (loaded_timeless to (extended_bits width) s _))
effect_timeless f (StoreBits from base offset first width) s = word_timeless (register s base) (λ at. word_timeless (register s from) (λ word. bits_timeless first width.bits (memory_timeless s _ _)))
effect_timeless f (CopyBits to from offset first bits) s = word_timeless (register s from) (λ source. word_timeless (register s to) (λ target. bits_timeless first bits (copied_timeless s (moved source offset) (moved target offset) first bits _)))
effect_timeless f (Arith kind width to left right) s = word_timeless (register s left) (λ a. word_timeless (register s right) (λ b. width_timeless width.bytes (put_timeless to _ s)))
effect_timeless f (TypeOf to base) s = word_timeless (register s base) (λ at. word_timeless (table_word f.image s.memory at (bytes_before 8)) (λ info. word_timeless (word_at f.image info) (λ class. put_timeless to _ s)))
effect_timeless f (Top to base) s = passed_timeless to s (register s base) (λ at. word_timeless (table_word f.image s.memory at (bytes_before 16)) (λ by. put_timeless to _ s))
effect_timeless f (Cast to base class target hint) s = passed_timeless to s (register s base) (λ at. casts (λ answer. put_timeless to _ s))
effect_timeless f (Print from what) s = word_timeless (register s from) (λ word. printed_timeless what s word)
effect_timeless f (Dump from) s = word_timeless (register s from) (λ at. goes)
effect_timeless f (CallEntry this entry arguments result) s = word_timeless (register s this) (λ at. entry_timeless f s entry arguments result at)
effect_timeless f (CallCode block this arguments result) s = word_timeless (register s this) (λ at. full_timeless s goes)
effect_timeless f (New size class block result) s = if_timeless (nat_lt heap_limit (s.heap + rounded size)) (stops refl) (full_timeless s (asks (λ at. goes)))
effect_timeless f (DeleteEntry this entry) s = word_timeless (register s this) (λ at. deleted_timeless at s (entry_timeless f s entry [] nothing_used at))
effect_timeless f (DeleteCode this block) s = word_timeless (register s this) (λ at. deleted_timeless at s (full_timeless s goes))
effect_timeless f (Open how) s = word_timeless (register s 0) (λ this. part_timeless f s how how.count this)
effect_timeless f (SetTable how) s = word_timeless (register s 0) (λ this. table_timeless f s how this)
effect_timeless f (Begin class owner) s = word_timeless (register s 0) (λ this. unnoted_timeless (s.notes.phase this class) goes)
effect_timeless f (SetPhase class phase) s = word_timeless (register s 0) (λ this. noted_timeless (s.notes.phase this class) (closed_timeless (is_ended phase && is_heap_object this class (object_at s.objects this)) (with_notes s (phased s.notes this class phase)) this))
effect_timeless f (SetView class owner) s = word_timeless (register s 0) (λ this. view_set_timeless s (frame_owner s.top.handed owner this class) this class)
effect_timeless f ViewBack s = view_set_timeless s _ _ _
effect_timeless f (Jump block) s = goes
effect_timeless f (JumpIf r block) s = word_timeless (register s r) (λ word. jumped_timeless block s word)
effect_timeless f (Trace what) s = traced_timeless what s
effect_timeless f (Return from class) s = return_timeless f s from class s.opened
effect_timeless f End s = stops refl

-- blocks

follow_timeless : (f : Fixed) {e : Effect} → IsTimeless e → (s new : Running) (stop : Stop) (rest : Running → Type 0) → ((next : Running) → rest next → stops_without_steps stop ≡ false) → MayLeadTo f e s new stop rest → stops_without_steps stop ≡ false
follow_timeless f (goes {s = next}) s new stop rest after r = after next r
follow_timeless f (asks h) s new stop rest after r = follow_timeless f (h r.0) s new stop rest after r.1.1
follow_timeless f (casts h) s new stop rest after r = follow_timeless f (h r.0) s new stop rest after r.1.1
follow_timeless f (tells h) s new stop rest after r = follow_timeless f (h r.0) s new stop rest after r.1.1
follow_timeless f (stops h) s new stop rest after r = ap stops_without_steps r.1 ∙ h
follow_timeless f stuck s new stop rest after r = absurd r

runs_timeless : (f : Fixed) (ops : List Op) (s new : Running) (stop : Stop) → Runs f ops s new stop → stops_without_steps stop ≡ false
runs_timeless f [] s new stop r = ap stops_without_steps r.1
runs_timeless f (op ∷ ops) s new stop r = follow_timeless f (effect_timeless f op s) s new stop (λ next. Runs f ops next new stop) (λ next h. runs_timeless f ops next new stop h) r

finishes_timeless : (f : Fixed) (mid : Running) (stop : Stop) (new : Running) (answer : MachineTurn) → stops_without_steps stop ≡ false → Finishes f mid stop new answer → is_out_of_steps answer ≡ false
finishes_timeless f mid (Answers turn) new answer h r = ap is_out_of_steps r.1 ∙ h
finishes_timeless f mid (Returned finish) new answer h r = runs_timeless f (finishing finish) mid new (Answers answer) r

pub block_is_timeless : (f : Fixed) (ops : List Op) (s new : Running) (answer : MachineTurn) → RunsBlock f ops s new answer → answer ≡ OutOfSteps → ⊥
block_is_timeless f ops s new answer r e =
    let wrong : false ≡ true = sym (finishes_timeless f r.mid r.stop new answer (runs_timeless f ops s r.mid r.stop r.runs) r.finishes) ∙ ap is_out_of_steps e in
    cc
