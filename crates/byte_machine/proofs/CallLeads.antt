-- One lemma for each call, `new` and `delete`, and each outcome.
use Rattle.std.proofs.Common.{◌≡◌, ℕ, zero, suc, ◌+◌, ◌*◌, ◌%◌, ◌^◌, ◌<◌, ◌≤◌, Some, List, [], ◌∷◌, arith, refl}
use Rattle.byte_memory.specs.Store.{Store, IsRoom}
use Rattle.byte_memory.specs.Regions.{rounded, total_of}
use Rattle.byte_code.specs.declared.code.ImageBytes.{ImageBytes}
use Rattle.byte_code.specs.declared.op.ResultUse.{ResultUse}
use Rattle.byte_code.specs.declared.op.Op.{Op}
use Rattle.byte_code.specs.declared.op.Op.TheVariants.{CallEntry, CallCode, New, DeleteEntry, DeleteCode}
use Rattle.byte_code.specs.Images.{word_at}
use Rattle.byte_machine.specs.declared.turn.MachineTurn.TheVariants.{Limit}
use Rattle.byte_machine.specs.Heap.{heap_limit}
use Rattle.byte_machine.specs.Running.{Fixed, Running, Stop, Answers, moved, register, table_word}
use Rattle.byte_machine.specs.Calls.{Callee, callee, callee_at, callee_by, calling, frame_at, kept_for, register_words, made_at, nothing_used, most_calls, moved_by_word}
use Rattle.byte_machine.specs.Runs.{MayAsk}
use Rattle.byte_machine.specs.Leads.{OpsLead}
use Rattle.byte_machine.proofs.Leads.{below, not_below, within, not_within, not_zero}

-- a call by an entry
pub leads_call_entry : (f : Fixed) {ops : List Op} {s : Running} {P : Running → Stop → Type 0} (this entry : ℕ) (arguments : List ℕ) (result : ResultUse) (at : ℕ) (to : Callee) → register s this ≡ Some at → s.calls < most_calls → callee f.image s.memory at entry ≡ Some to → OpsLead f ops (calling (frame_at f to.block to.this (register_words s arguments) (kept_for result to.vbase to.add)) s) P → OpsLead f (CallEntry this entry arguments result ∷ ops) s P
leads_call_entry f {ops} {s} {P} this entry arguments result at to e room there h = record { run = rw (e, not_within most_calls s.calls room, there) h.run }

pub leads_call_entry_full : (f : Fixed) {ops : List Op} {s : Running} {P : Running → Stop → Type 0} (this entry : ℕ) (arguments : List ℕ) (result : ResultUse) (at : ℕ) → register s this ≡ Some at → most_calls ≤ s.calls → P s (Answers (Limit 10)) → OpsLead f (CallEntry this entry arguments result ∷ ops) s P
leads_call_entry_full f {ops} {s} {P} this entry arguments result at e full h = record { run = rw (e, within most_calls s.calls full) h }

-- a call of a block
pub leads_call_code : (f : Fixed) {ops : List Op} {s : Running} {P : Running → Stop → Type 0} (block this : ℕ) (arguments : List ℕ) (result : ResultUse) (at : ℕ) → register s this ≡ Some at → s.calls < most_calls → OpsLead f ops (calling (frame_at f block at (register_words s arguments) (kept_for result 0 0)) s) P → OpsLead f (CallCode block this arguments result ∷ ops) s P
leads_call_code f {ops} {s} {P} block this arguments result at e room h = record { run = rw (e, not_within most_calls s.calls room) h.run }

pub leads_call_code_full : (f : Fixed) {ops : List Op} {s : Running} {P : Running → Stop → Type 0} (block this : ℕ) (arguments : List ℕ) (result : ResultUse) (at : ℕ) → register s this ≡ Some at → most_calls ≤ s.calls → P s (Answers (Limit 10)) → OpsLead f (CallCode block this arguments result ∷ ops) s P
leads_call_code_full f {ops} {s} {P} block this arguments result at e full h = record { run = rw (e, within most_calls s.calls full) h }

-- `new`, at any address
pub leads_new : (f : Fixed) {ops : List Op} {s : Running} {P : Running → Stop → Type 0} (size class block : ℕ) (result : ResultUse) → s.heap + rounded size ≤ heap_limit → s.calls < most_calls → MayAsk s size → ((at : ℕ) → IsRoom s.memory at size → OpsLead f ops (made_at f s size class block result at) P) → OpsLead f (New size class block result ∷ ops) s P
leads_new f {ops} {s} {P} size class block result fits room may h = record { run = rw (not_below heap_limit (s.heap + rounded size) fits, not_within most_calls s.calls room) (may, λ at there. (h at there).run) }

-- limit 8
pub leads_new_full : (f : Fixed) {ops : List Op} {s : Running} {P : Running → Stop → Type 0} (size class block : ℕ) (result : ResultUse) → heap_limit < s.heap + rounded size → P s (Answers (Limit 8)) → OpsLead f (New size class block result ∷ ops) s P
leads_new_full f {ops} {s} {P} size class block result past h = record { run = rw (below heap_limit (s.heap + rounded size) past) h }

-- limit 10
pub leads_new_deep : (f : Fixed) {ops : List Op} {s : Running} {P : Running → Stop → Type 0} (size class block : ℕ) (result : ResultUse) → s.heap + rounded size ≤ heap_limit → most_calls ≤ s.calls → P s (Answers (Limit 10)) → OpsLead f (New size class block result ∷ ops) s P
leads_new_deep f {ops} {s} {P} size class block result fits full h = record { run = rw (not_below heap_limit (s.heap + rounded size) fits, within most_calls s.calls full) h }

-- `delete` of 0, and by an entry
pub leads_delete_entry_null : (f : Fixed) {ops : List Op} {s : Running} {P : Running → Stop → Type 0} (this entry : ℕ) → register s this ≡ Some 0 → OpsLead f ops s P → OpsLead f (DeleteEntry this entry ∷ ops) s P
leads_delete_entry_null f {ops} {s} {P} this entry e h = record { run = rw e h.run }

pub leads_delete_entry : (f : Fixed) {ops : List Op} {s : Running} {P : Running → Stop → Type 0} (this entry at : ℕ) (to : Callee) → register s this ≡ Some at → (at ≡ 0 → ⊥) → s.calls < most_calls → callee f.image s.memory at entry ≡ Some to → OpsLead f ops (calling (frame_at f to.block to.this [] (kept_for nothing_used to.vbase to.add)) s) P → OpsLead f (DeleteEntry this entry ∷ ops) s P
leads_delete_entry f {ops} {s} {P} this entry at to e some room there h = record { run = rw (e, not_zero at some, not_within most_calls s.calls room, there) h.run }

pub leads_delete_entry_full : (f : Fixed) {ops : List Op} {s : Running} {P : Running → Stop → Type 0} (this entry at : ℕ) → register s this ≡ Some at → (at ≡ 0 → ⊥) → most_calls ≤ s.calls → P s (Answers (Limit 10)) → OpsLead f (DeleteEntry this entry ∷ ops) s P
leads_delete_entry_full f {ops} {s} {P} this entry at e some full h = record { run = rw (e, not_zero at some, within most_calls s.calls full) h }

-- the same by a block
pub leads_delete_code_null : (f : Fixed) {ops : List Op} {s : Running} {P : Running → Stop → Type 0} (this block : ℕ) → register s this ≡ Some 0 → OpsLead f ops s P → OpsLead f (DeleteCode this block ∷ ops) s P
leads_delete_code_null f {ops} {s} {P} this block e h = record { run = rw e h.run }

pub leads_delete_code : (f : Fixed) {ops : List Op} {s : Running} {P : Running → Stop → Type 0} (this block at : ℕ) → register s this ≡ Some at → (at ≡ 0 → ⊥) → s.calls < most_calls → OpsLead f ops (calling (frame_at f block at [] (kept_for nothing_used 0 0)) s) P → OpsLead f (DeleteCode this block ∷ ops) s P
leads_delete_code f {ops} {s} {P} this block at e some room h = record { run = rw (e, not_zero at some, not_within most_calls s.calls room) h.run }

pub leads_delete_code_full : (f : Fixed) {ops : List Op} {s : Running} {P : Running → Stop → Type 0} (this block at : ℕ) → register s this ≡ Some at → (at ≡ 0 → ⊥) → most_calls ≤ s.calls → P s (Answers (Limit 10)) → OpsLead f (DeleteCode this block ∷ ops) s P
leads_delete_code_full f {ops} {s} {P} this block at e some full h = record { run = rw (e, not_zero at some, within most_calls s.calls full) h }

-- where the heap's total is that of the regions, a `new` within the limit has room
pub room_within : (s : Running) (size : ℕ) → 0 < size → size ≤ 1048576 → total_of s.memory.regions ≡ s.heap → s.heap + rounded size ≤ heap_limit → MayAsk s size
room_within s size some small counted fits = record { positive = some; small = small; room = omega (arith, counted, fits) }

-- what runs by an entry

-- an address that no word moves, and one that a word of its table moves
pub moved_by_none : (image : ImageBytes) (memory : Store) (at : ℕ) → moved_by_word image memory at 0 ≡ Some at
moved_by_none image memory at = refl

pub moved_by_some : (image : ImageBytes) (memory : Store) (at bytes by : ℕ) → (bytes ≡ 0 → ⊥) → table_word image memory at bytes ≡ Some by → moved_by_word image memory at bytes ≡ Some (moved at by)
moved_by_some image memory at zero by some there = absurd (some refl)
moved_by_some image memory at (suc bytes) by some there = rw there refl

-- the record of an entry
pub record IsRecord (image : ImageBytes) (memory : Store) (this entry record_at code thunk : ℕ) : Type 0 where
  pub there : table_word image memory this (8 * entry) ≡ Some record_at
  pub some : record_at ≡ 0 → ⊥
  pub code_is : word_at image record_at ≡ Some code
  pub thunk_is : word_at image (record_at + 8) ≡ Some thunk

-- the words of a thunk
pub record IsThunk (image : ImageBytes) (thunk add vcall vbase back : ℕ) : Type 0 where
  pub some : thunk ≡ 0 → ⊥
  pub add_is : word_at image thunk ≡ Some add
  pub vcall_is : word_at image (thunk + 8) ≡ Some vcall
  pub vbase_is : word_at image (thunk + 16) ≡ Some vbase
  pub back_is : word_at image (thunk + 24) ≡ Some back

callee_there : (image : ImageBytes) (memory : Store) (this record_at code thunk : ℕ) → (record_at ≡ 0 → ⊥) → word_at image record_at ≡ Some code → word_at image (record_at + 8) ≡ Some thunk → callee_at image memory this record_at ≡ callee_by image memory this code thunk
callee_there image memory this zero code thunk some c t = absurd (some refl)
callee_there image memory this (suc record_at) code thunk some c t = rw (c, t) refl

-- without a thunk
pub callee_plain : (image : ImageBytes) (memory : Store) (this entry record_at code : ℕ) → IsRecord image memory this entry record_at code 0 → callee image memory this entry ≡ Some (record { block = code % 2 ^ 32; this = this; vbase = 0; add = 0 })
callee_plain image memory this entry record_at code is = rw is.there (callee_there image memory this record_at code 0 is.some is.code_is is.thunk_is)

-- with one
callee_of : (image : ImageBytes) (memory : Store) (this code thunk add vcall vbase back new : ℕ) → (thunk ≡ 0 → ⊥) → word_at image thunk ≡ Some add → word_at image (thunk + 8) ≡ Some vcall → word_at image (thunk + 16) ≡ Some vbase → word_at image (thunk + 24) ≡ Some back → moved_by_word image memory (moved this add) vcall ≡ Some new → callee_by image memory this code thunk ≡ Some (record { block = code % 2 ^ 32; this = new; vbase = vbase; add = back })
callee_of image memory this code zero add vcall vbase back new some a c v b moves = absurd (some refl)
callee_of image memory this code (suc thunk) add vcall vbase back new some a c v b moves = rw (a, c, moves, v, b) refl

pub callee_thunk : (image : ImageBytes) (memory : Store) (this entry record_at code thunk add vcall vbase back new : ℕ) → IsRecord image memory this entry record_at code thunk → IsThunk image thunk add vcall vbase back → moved_by_word image memory (moved this add) vcall ≡ Some new → callee image memory this entry ≡ Some (record { block = code % 2 ^ 32; this = new; vbase = vbase; add = back })
callee_thunk image memory this entry record_at code thunk add vcall vbase back new is has moves =
    rw is.there (rw (callee_there image memory this record_at code thunk is.some is.code_is is.thunk_is) (callee_of image memory this code thunk add vcall vbase back new has.some has.add_is has.vcall_is has.vbase_is has.back_is moves))
