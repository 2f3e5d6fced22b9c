-- The tests of two states that differ in notes alone.
use Rattle.std.proofs.Common.{ℕ, zero, suc, ◌+◌, Bool, true, false, Option, Some, None, refl}
use Rattle.std.specs.Prelude.{nat_eq, nat_lt, nat_le, ◌&&◌, if◌then◌else◌}
use Rattle.byte_memory.specs.declared.memory.MemoryFault.{MemoryFault}
use Rattle.byte_memory.specs.declared.memory.MemoryFault.TheVariants.{Unset, Closed, Range, NoMemory}
use Rattle.byte_code.specs.declared.width.Width.{Width}
use Rattle.byte_code.specs.declared.op.ArithKind.{ArithKind}
use Rattle.byte_code.specs.declared.op.Check.{Check}
use Rattle.byte_code.specs.declared.op.Check.TheVariants.{NotNull, Open, Ready, InView, SetRegister, SetLeaf, SetBits, HasCode, Derived, Whole, HeapObject, Complete, Never, Fits}
use Rattle.byte_code.specs.declared.op.Phase.{Phase}
use Rattle.byte_shadow.specs.Shadows.{Notes}
use Rattle.byte_machine.specs.declared.heap.Opened.{Opened}
use Rattle.byte_machine.specs.declared.turn.MachineTurn.TheVariants.{Refused}
use Rattle.byte_machine.specs.Heap.{object_at}
use Rattle.byte_machine.specs.Running.{Fixed, Running, Effect, Answers, Tells, moved, register, refuse, put_register, with_some_word, with_register, passed}
use Rattle.byte_machine.specs.Checks.{passes_if, of_address, null_checked, open_checked, same_address_and_class, with_pair, view_tested, view_checked, in_width, in_bits, set_checked, leaf_checked, code_checked, begun_checked, with_object, complete_checked, fit_checked, checked}
use Rattle.byte_machine.specs.Plans.{with_notes}
use Rattle.byte_laws.proofs.Alike.{Past, past, still, Alike, goes, tells_left, tells_right, stops, refused_left, refused_right, stuck_left, stuck_right, stuck_both}

-- one of both refuses, or both do by one rule
pub refuse_left : (s : Running) (rule : ℕ) {e d : Effect} → Alike (past s) e d → Alike (past s) (refuse rule s) d
refuse_left s rule h = refused_left s rule s.line refl h

pub refuse_right : (s : Running) (n : Notes) (rule : ℕ) {e d : Effect} → Alike (past s) e d → Alike (past s) e (refuse rule (with_notes s n))
refuse_right s n rule h = refused_right (with_notes s n) rule s.line refl h

pub refuse_both : (s : Running) (n : Notes) (rule : ℕ) → Alike (past s) (refuse rule s) (refuse rule (with_notes s n))
refuse_both s n rule = stops s n (Answers (Refused rule s.line)) still

-- by one test
pub if_alike : {was : Past} (b : Bool) {e e' d d' : Effect} → Alike was e d → Alike was e' d' → Alike was (if b then e else e') (if b then d else d')
if_alike true h k = h
if_alike false h k = k

pub put_alike : (s : Running) (n : Notes) (to : ℕ) (word : Option ℕ) → Alike (past s) (put_register to word s) (put_register to word (with_notes s n))
put_alike s n to word = if_alike (nat_lt to _) (goes (with_register s to word) n still) stuck_both

pub with_word_alike : {was : Past} (word : Option ℕ) {next next' : ℕ → Effect} → ((word : ℕ) → Alike was (next word) (next' word)) → Alike was (with_some_word word next) (with_some_word word next')
with_word_alike None h = stuck_both
with_word_alike (Some word) h = h word

pub passed_alike : (s : Running) (n : Notes) (to : ℕ) (word : Option ℕ) {next next' : ℕ → Effect} → ((at : ℕ) → Alike (past s) (next at) (next' at)) → Alike (past s) (passed to s word next) (passed to (with_notes s n) word next')
passed_alike s n to None h = put_alike s n to None
passed_alike s n to (Some at) h = if_alike (nat_eq at 0) (put_alike s n to (Some 0)) (h at)

-- tests of notes may differ, and one of both may refuse
pub passes_alike : (s : Running) (n : Notes) (rule : ℕ) (b b' : Bool) → Alike (past s) (passes_if rule s b) (passes_if rule (with_notes s n) b')
passes_alike s n rule true true = goes s n still
passes_alike s n rule true false = refuse_right s n _ (goes s n still)
passes_alike s n rule false true = refuse_left s _ (goes s n still)
passes_alike s n rule false false = refuse_both s n _

pub of_address_alike : (s : Running) (n : Notes) (word : Option ℕ) {test test' : ℕ → Effect} → ((at : ℕ) → Alike (past s) (test at) (test' at)) → Alike (past s) (of_address s word test) (of_address (with_notes s n) word test')
of_address_alike s n None h = goes s n still
of_address_alike s n (Some at) h = if_alike (nat_eq at 0) (goes s n still) (h at)

null_alike : (s : Running) (n : Notes) (word : Option ℕ) → Alike (past s) (null_checked s word) (null_checked (with_notes s n) word)
null_alike s n None = goes s n still
null_alike s n (Some zero) = refuse_both s n _
null_alike s n (Some (suc at)) = goes s n still

open_alike : (s : Running) (n : Notes) (fault : Option MemoryFault) → Alike (past s) (open_checked s fault) (open_checked (with_notes s n) fault)
open_alike s n None = goes s n still
open_alike s n (Some (Closed at)) = refuse_both s n _
open_alike s n (Some (Unset at)) = stuck_both
open_alike s n (Some (Range at)) = stuck_both
open_alike s n (Some NoMemory) = stuck_both

-- one pair may be noted where the other is not
pub with_pair_alike : {was : Past} (p p' : Option (ℕ × ℕ)) {next next' : ℕ × ℕ → Effect} → ((pair pair' : ℕ × ℕ) → Alike was (next pair) (next' pair')) → Alike was (with_pair p next) (with_pair p' next')
with_pair_alike None None h = stuck_both
with_pair_alike None (Some pair) h = stuck_left (h pair pair)
with_pair_alike (Some pair) None h = stuck_right (h pair pair)
with_pair_alike (Some pair) (Some pair') h = h pair pair'

-- two questions of a view may differ, and each answer refuses or goes on alike
view_tested_alike : (s : Running) (n : Notes) (at class : ℕ) (view view' : ℕ × ℕ) {next next' : Effect} → Alike (past s) next next' → Alike (past s) (view_tested s at class view next) (view_tested (with_notes s n) at class view' next')
view_tested_alike s n at class view view' {next} {next'} h = left (same_address_and_class view at class)
  where
    right_told : (inside : Bool) → Alike (past s) next (if inside then next' else refuse 4 (with_notes s n))
    right_told true = h
    right_told false = refuse_right s n _ h

    right : (b : Bool) → Alike (past s) next (if b then next' else Tells view'.0 view'.1 at class (λ inside. if inside then next' else refuse 4 (with_notes s n)))
    right true = h
    right false = tells_right _ _ _ _ right_told

    left_told : (inside : Bool) → Alike (past s) (if inside then next else refuse 4 s) (view_tested (with_notes s n) at class view' next')
    left_told true = right (same_address_and_class view' at class)
    left_told false = refuse_left s _ (right (same_address_and_class view' at class))

    left : (b : Bool) → Alike (past s) (if b then next else Tells view.0 view.1 at class (λ inside. if inside then next else refuse 4 s)) (view_tested (with_notes s n) at class view' next')
    left true = right (same_address_and_class view' at class)
    left false = tells_left _ _ _ _ left_told

pub view_checked_alike : (s : Running) (n : Notes) (at class : ℕ) {next next' : Effect} → Alike (past s) next next' → Alike (past s) (view_checked s at class next) (view_checked (with_notes s n) at class next')
view_checked_alike s n at class h = with_pair_alike (s.notes.owner at class) (n.owner at class) (λ owner owner'. with_pair_alike (s.notes.view owner.0 owner.1) (n.view owner'.0 owner'.1) (λ view view'. view_tested_alike s n at class view view' h))

pub in_width_alike : {was : Past} (bytes : ℕ) {next next' : Effect} → Alike was next next' → Alike was (in_width bytes next) (in_width bytes next')
in_width_alike bytes h = if_alike (nat_lt 0 bytes && nat_lt bytes 9) h stuck_both

pub in_bits_alike : {was : Past} (first bits : ℕ) {next next' : Effect} → Alike was next next' → Alike was (in_bits first bits next) (in_bits first bits next')
in_bits_alike first bits h = if_alike (nat_lt first 8 && (nat_lt 0 bits && nat_le (first + bits) 64)) h stuck_both

set_alike : (s : Running) (n : Notes) (word : Option ℕ) → Alike (past s) (set_checked s word) (set_checked (with_notes s n) word)
set_alike s n None = refuse_both s n _
set_alike s n (Some word) = goes s n still

leaf_alike : (s : Running) (n : Notes) (fault : Option MemoryFault) (number : Option ℕ) → Alike (past s) (leaf_checked s fault number) (leaf_checked (with_notes s n) fault number)
leaf_alike s n (Some fault) number = stuck_both
leaf_alike s n None None = refuse_both s n _
leaf_alike s n None (Some number) = goes s n still

code_alike : (s : Running) (n : Notes) (word : Option ℕ) → Alike (past s) (code_checked s word) (code_checked (with_notes s n) word)
code_alike s n None = stuck_both
code_alike s n (Some zero) = refuse_both s n _
code_alike s n (Some (suc record_at)) = goes s n still

begun_alike : (s : Running) (n : Notes) (phase phase' : Option Phase) → Alike (past s) (begun_checked s phase) (begun_checked (with_notes s n) phase')
begun_alike s n None None = refuse_both s n _
begun_alike s n None (Some phase') = refuse_left s _ (goes s n still)
begun_alike s n (Some phase) None = refuse_right s n _ (goes s n still)
begun_alike s n (Some phase) (Some phase') = goes s n still

with_object_alike : {was : Past} (object : Option Opened) {next next' : Opened → Effect} → ((object : Opened) → Alike was (next object) (next' object)) → Alike was (with_object object next) (with_object object next')
with_object_alike None h = stuck_both
with_object_alike (Some object) h = h object

complete_alike : (s : Running) (n : Notes) (phase phase' : Option Phase) → Alike (past s) (complete_checked s phase) (complete_checked (with_notes s n) phase')
complete_alike s n None None = refuse_both s n _
complete_alike s n None (Some phase') = refuse_left s _ (passes_alike s n 10 true _)
complete_alike s n (Some phase) None = refuse_right s n _ (passes_alike s n 10 _ true)
complete_alike s n (Some phase) (Some phase') = passes_alike s n 10 _ _

fit_alike : (s : Running) (n : Notes) (kind : ArithKind) (width : Width) (a b : Option ℕ) → Alike (past s) (fit_checked kind width s a b) (fit_checked kind width (with_notes s n) a b)
fit_alike s n kind width (Some a) (Some b) = passes_alike s n 12 _ _
fit_alike s n kind width (Some a) None = goes s n still
fit_alike s n kind width None b = goes s n still

pub checked_alike : (f : Fixed) (test : Check) (s : Running) (n : Notes) → Alike (past s) (checked f test s) (checked f test (with_notes s n))
checked_alike f (NotNull r) s n = null_alike s n (register s r)
checked_alike f (Open r) s n = of_address_alike s n (register s r) (λ at. open_alike s n _)
checked_alike f (Ready r offset class) s n = of_address_alike s n (register s r) (λ at. passes_alike s n 3 _ _)
checked_alike f (InView r offset class) s n = of_address_alike s n (register s r) (λ at. view_checked_alike s n (moved at offset) class (goes s n still))
checked_alike f (SetRegister r) s n = set_alike s n (register s r)
checked_alike f (SetLeaf base offset width) s n = of_address_alike s n (register s base) (λ at. in_width_alike width.bytes (leaf_alike s n _ _))
checked_alike f (SetBits base offset first width) s n = of_address_alike s n (register s base) (λ at. in_bits_alike first width.bits (leaf_alike s n _ _))
checked_alike f (HasCode r entry) s n = of_address_alike s n (register s r) (λ at. code_alike s n _)
checked_alike f (Derived r offset class) s n = of_address_alike s n (register s r) (λ at. begun_alike s n _ _)
checked_alike f (Whole r class) s n = of_address_alike s n (register s r) (λ at. with_pair_alike (s.notes.owner at class) (n.owner at class) (λ owner owner'. passes_alike s n 8 (same_address_and_class owner at class) (same_address_and_class owner' at class)))
checked_alike f (HeapObject r class) s n = of_address_alike s n (register s r) (λ at. with_pair_alike (s.notes.owner at class) (n.owner at class) (λ owner owner'. with_object_alike (object_at s.objects at) (λ object. passes_alike s n 9 (same_address_and_class owner object.start object.class) (same_address_and_class owner' object.start object.class))))
checked_alike f (Complete r) s n = of_address_alike s n (register s r) (λ at. with_object_alike (object_at s.objects at) (λ object. complete_alike s n _ _))
checked_alike f Never s n = refuse_both s n _
checked_alike f (Fits kind width left right) s n = in_width_alike width.bytes (fit_alike s n kind width _ _)
