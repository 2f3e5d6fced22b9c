-- Calls, `new`, `delete` and returns of two states that differ in notes alone.
use Rattle.std.proofs.Common.{◌≡◌, ℕ, zero, suc, ◌+◌, Bool, true, false, Option, Some, None, List, [], ◌∷◌, refl}
use Rattle.std.specs.Prelude.{nat_eq, nat_le, nat_lt, if◌then◌else◌}
use Rattle.byte_memory.specs.Regions.{rounded}
use Rattle.byte_code.specs.declared.op.ResultUse.{ResultUse}
use Rattle.byte_shadow.specs.Shadows.{Notes, ready_at}
use Rattle.byte_machine.specs.declared.turn.MachineTurn.TheVariants.{Limit}
use Rattle.byte_machine.specs.Heap.{heap_limit}
use Rattle.byte_machine.specs.Frames.{MachineFrame, next_element}
use Rattle.byte_machine.specs.Running.{Fixed, Running, Effect, Answers, Returned, moved, register, refuse}
use Rattle.byte_machine.specs.Calls.{Callee, callee, most_calls, calling, unless_full, frame_at, kept_for, register_words, entry_called, code_called, new_effect, deleted_unless_null, resumed_frame, left_calls, uncovered, returned_to, result_moved, returned_with, result_checked, returned_by, operand, return_effect}
use Rattle.byte_machine.specs.Plans.{with_notes}
use Rattle.byte_laws.proofs.Alike.{past, still, Alike, goes, makes, stops, stuck_both}
use Rattle.byte_laws.proofs.SameTests.{refuse_left, refuse_right, refuse_both, if_alike, with_word_alike, view_checked_alike}

full_alike : (s : Running) (n : Notes) {next next' : Effect} → Alike (past s) next next' → Alike (past s) (unless_full s next) (unless_full (with_notes s n) next')
full_alike s n h = if_alike (nat_le most_calls s.calls) (stops s n (Answers (Limit 10)) still) h

pub entry_called_alike : (f : Fixed) (s : Running) (n : Notes) (entry : ℕ) (arguments : List ℕ) (result : ResultUse) (this : ℕ) → Alike (past s) (entry_called f s entry arguments result this) (entry_called f (with_notes s n) entry arguments result this)
entry_called_alike f s n entry arguments result this = by_callee (callee f.image s.memory this entry) refl
  where
    by_callee : (to : Option Callee) → callee f.image s.memory this entry ≡ to → Alike (past s) (entry_called f s entry arguments result this) (entry_called f (with_notes s n) entry arguments result this)
    by_callee None e = rw e (full_alike s n stuck_both)
    by_callee (Some to) e = rw e (full_alike s n (goes (calling (frame_at f to.block to.this (register_words s arguments) (kept_for result to.vbase to.add)) s) n still))

pub code_called_alike : (f : Fixed) (s : Running) (n : Notes) (block : ℕ) (arguments : List ℕ) (result : ResultUse) (this : ℕ) → Alike (past s) (code_called f s block arguments result this) (code_called f (with_notes s n) block arguments result this)
code_called_alike f s n block arguments result this = full_alike s n (goes (calling (frame_at f block this (register_words s arguments) (kept_for result 0 0)) s) n still)

pub new_made_alike : (f : Fixed) (s : Running) (n : Notes) (size class block : ℕ) (result : ResultUse) → Alike (past s) (new_effect f s size class block result) (new_effect f (with_notes s n) size class block result)
new_made_alike f s n size class block result = if_alike (nat_lt heap_limit (s.heap + rounded size)) (stops s n (Answers (Limit 8)) still) (full_alike s n (makes f s n size class block result still))

pub deleted_alike : (s : Running) (n : Notes) (this : ℕ) {next next' : Effect} → Alike (past s) next next' → Alike (past s) (deleted_unless_null this s next) (deleted_unless_null this (with_notes s n) next')
deleted_alike s n this h = if_alike (nat_eq this 0) (goes s n still) h

-- returns

uncovered_alike : (s : Running) (n : Notes) (below : List MachineFrame) (f : Option MachineFrame) → Alike (past s) (uncovered s below f) (uncovered (with_notes s n) below f)
uncovered_alike s n below None = stuck_both
uncovered_alike s n below (Some f) = stops (record s { top = f; below = below; calls = left_calls s }) n (Returned s.top.kept.finish) still

returned_to_alike : (s : Running) (n : Notes) (word : Option ℕ) (below : List MachineFrame) → Alike (past s) (returned_to s word below) (returned_to (with_notes s n) word below)
returned_to_alike s n word [] = stuck_both
returned_to_alike s n word (f ∷ below) = uncovered_alike s n below (resumed_frame s.top.kept.to word f)

returned_with_alike : (s : Running) (n : Notes) (word : Option (Option ℕ)) → Alike (past s) (returned_with s word) (returned_with (with_notes s n) word)
returned_with_alike s n None = stuck_both
returned_with_alike s n (Some word) = returned_to_alike s n word s.below

-- one result may be ready where the other is not
ready_alike : (s : Running) (n : Notes) (b b' : Bool) {next next' : Effect} → Alike (past s) next next' → Alike (past s) (if b then next else refuse 3 s) (if b' then next' else refuse 3 (with_notes s n))
ready_alike s n true true h = h
ready_alike s n true false h = refuse_right s n _ h
ready_alike s n false true h = refuse_left s _ h
ready_alike s n false false h = refuse_both s n _

result_checked_alike : (s : Running) (n : Notes) (word found class : Option ℕ) {next next' : Effect} → Alike (past s) next next' → Alike (past s) (result_checked s word found class next) (result_checked (with_notes s n) word found class next')
result_checked_alike s n (Some (suc at)) (Some found) (Some class) h =
    if_alike (nat_eq found class) h (ready_alike s n (ready_at s.notes (suc at) class) (ready_at n (suc at) class) (if_alike (nat_eq s.top.kept.vbase 0) h (view_checked_alike s n (suc at) class h)))
result_checked_alike s n (Some (suc at)) (Some found) None h = h
result_checked_alike s n (Some (suc at)) None class h = h
result_checked_alike s n (Some zero) found class h = h
result_checked_alike s n None found class h = h

returned_by_alike : (f : Fixed) (s : Running) (n : Notes) (word class : Option ℕ) (again : ℕ) → Alike (past s) (returned_by f s word class again) (returned_by f (with_notes s n) word class again)
returned_by_alike f s n word class zero = result_checked_alike s n word s.top.kept.class class (returned_with_alike s n (result_moved f s word))
returned_by_alike f s n word class (suc again) = with_word_alike (register s 0) (λ this. goes (record s { top = next_element s.top (moved this s.top.stride) again }) n still)

operand_alike : (s : Running) (n : Notes) (from : Option ℕ) → operand (with_notes s n) from ≡ operand s from
operand_alike s n None = refl
operand_alike s n (Some r) = refl

pub returned_alike : (f : Fixed) (s : Running) (n : Notes) (from class : Option ℕ) (opened : List MachineFrame) → Alike (past s) (return_effect f s from class opened) (return_effect f (with_notes s n) from class opened)
returned_alike f s n from class [] = rw (operand_alike s n from) (returned_by_alike f s n (operand s from) class s.top.again)
returned_alike f s n from class (frame ∷ frames) = stuck_both
