-- One lemma for each check and outcome.
use Rattle.std.proofs.Common.{◌≡◌, ℕ, zero, suc, ◌+◌, ◌*◌, ◌<◌, ◌≤◌, Bool, true, false, Option, Some, None, List, ◌∷◌, subst, sym, refl, arith}
use Rattle.std.proofs.lemmas.Bool.Decides.{nat_tests}
use Rattle.std.specs.Prelude.{nat_eq, nat_lt, nat_le, ◌&&◌, if◌then◌else◌}
use Rattle.byte_memory.specs.Bits.{number_from}
use Rattle.byte_memory.specs.Store.{byte_span}
use Rattle.byte_memory.specs.Regions.{fault_at}
use Rattle.byte_memory.specs.declared.memory.MemoryFault.TheVariants.{Closed}
use Rattle.byte_code.specs.declared.width.Width.{Width}
use Rattle.byte_code.specs.declared.width.BitWidth.{BitWidth}
use Rattle.byte_code.specs.declared.op.ArithKind.{ArithKind}
use Rattle.byte_code.specs.declared.op.Check.{Check}
use Rattle.byte_code.specs.declared.op.Check.TheVariants.{NotNull, Open, Ready, InView, SetRegister, SetLeaf, SetBits, HasCode, Derived, Whole, HeapObject, Complete, Never, Fits}
use Rattle.byte_code.specs.declared.op.Finish.TheVariants.{Check as CheckOp}
use Rattle.byte_code.specs.declared.op.Op.{Op}
use Rattle.byte_code.specs.declared.op.Op.TheVariants.{Does}
use Rattle.byte_code.specs.declared.op.Phase.{Phase}
use Rattle.byte_code.specs.Images.{word_at}
use Rattle.byte_code.specs.Numbers.{number_of_word}
use Rattle.byte_shadow.specs.Shadows.{ready_at}
use Rattle.abi_dyncast.specs.Casts.{TellsWithin, CanTellWithin}
use Rattle.byte_machine.specs.declared.turn.MachineTurn.TheVariants.{Refused}
use Rattle.byte_machine.specs.declared.heap.Opened.{Opened}
use Rattle.byte_machine.specs.Heap.{object_at}
use Rattle.byte_machine.specs.Running.{Fixed, Running, Stop, Answers, Effect, Goes, moved, register, table_word}
use Rattle.byte_machine.specs.Checks.{of_address, same_address_and_class, is_complete_phase, exact, is_number_of, checked}
use Rattle.byte_machine.specs.Leads.{LeadsBy, LeadsIn, OpsLead}
use Rattle.byte_machine.proofs.Leads.{below, within, not_zero, IsIdle}

-- the register of whose address a check asks more than that it is no null
abbrev pub asks_of : Check → Option ℕ
asks_of (NotNull r) = None
asks_of (Open r) = Some r
asks_of (Ready r offset class) = Some r
asks_of (InView r offset class) = Some r
asks_of (SetRegister r) = None
asks_of (SetLeaf base offset width) = Some base
asks_of (SetBits base offset first width) = Some base
asks_of (HasCode r entry) = Some r
asks_of (Derived r offset class) = Some r
asks_of (Whole r class) = Some r
asks_of (HeapObject r class) = Some r
asks_of (Complete r) = Some r
asks_of Never = None
asks_of (Fits kind width left right) = None

idle : (s : Running) (word : Option ℕ) (test : ℕ → Effect) → IsIdle word → of_address s word test ≡ Goes s
idle s None test i = refl
idle s (Some at) test i = rw i refl

idle_at : (s : Running) (r r' : ℕ) (test : ℕ → Effect) → Some r ≡ Some r' → IsIdle (register s r') → of_address s (register s r) test ≡ Goes s
idle_at s r r' test e i =
    let same : r' ≡ r = cc in
    let here : IsIdle (register s r) = subst (λ x. IsIdle (register s x)) same i in
    idle s (register s r) test here

idle_check : (f : Fixed) (test : Check) (r : ℕ) (s : Running) → asks_of test ≡ Some r → IsIdle (register s r) → checked f test s ≡ Goes s
idle_check f (NotNull x) r s e i = cc
idle_check f (Open x) r s e i = idle_at s x r _ e i
idle_check f (Ready x offset class) r s e i = idle_at s x r _ e i
idle_check f (InView x offset class) r s e i = idle_at s x r _ e i
idle_check f (SetRegister x) r s e i = cc
idle_check f (SetLeaf x offset width) r s e i = idle_at s x r _ e i
idle_check f (SetBits x offset first width) r s e i = idle_at s x r _ e i
idle_check f (HasCode x entry) r s e i = idle_at s x r _ e i
idle_check f (Derived x offset class) r s e i = idle_at s x r _ e i
idle_check f (Whole x class) r s e i = idle_at s x r _ e i
idle_check f (HeapObject x class) r s e i = idle_at s x r _ e i
idle_check f (Complete x) r s e i = idle_at s x r _ e i
idle_check f Never r s e i = cc
idle_check f (Fits kind width left right) r s e i = cc

-- an unset register and the address 0 pass
pub leads_idle : (f : Fixed) {ops : List Op} {s : Running} {P : Running → Stop → Type 0} (test : Check) (r : ℕ) → asks_of test ≡ Some r → IsIdle (register s r) → OpsLead f ops s P → OpsLead f (Does (CheckOp test) ∷ ops) s P
leads_idle f {ops} {s} {P} test r e i h = record { run = subst (λ effect. LeadsBy f effect s (λ new. LeadsIn f ops new P) P) (sym (idle_check f test r s e i)) h.run }

-- a test that an address passes
passes : (f : Fixed) (s : Running) (ops : List Op) (P : Running → Stop → Type 0) (word : Option ℕ) (at : ℕ) (test : ℕ → Effect) → word ≡ Some at → LeadsIn f ops s P → LeadsBy f (test at) s (λ new. LeadsIn f ops new P) P → LeadsBy f (of_address s word test) s (λ new. LeadsIn f ops new P) P
passes f s ops P word at test e n h = rw e (by_zero (nat_eq at 0))
  where
    by_zero : (z : Bool) → LeadsBy f (if z then Goes s else test at) s (λ new. LeadsIn f ops new P) P
    by_zero true = n
    by_zero false = h

-- a test that it does not pass
fails : (f : Fixed) (s : Running) (ops : List Op) (P : Running → Stop → Type 0) (word : Option ℕ) (at : ℕ) (test : ℕ → Effect) → word ≡ Some at → (at ≡ 0 → ⊥) → LeadsBy f (test at) s (λ new. LeadsIn f ops new P) P → LeadsBy f (of_address s word test) s (λ new. LeadsIn f ops new P) P
fails f s ops P word at test e some h = rw (e, not_zero at some) h

-- 1: an address that is not 0 passes, and so does the unset state
pub leads_not_null : (f : Fixed) {ops : List Op} {s : Running} {P : Running → Stop → Type 0} (r at : ℕ) → register s r ≡ Some at → (at ≡ 0 → ⊥) → OpsLead f ops s P → OpsLead f (Does (CheckOp (NotNull r)) ∷ ops) s P
leads_not_null f {ops} {s} {P} r zero e some h = absurd (some refl)
leads_not_null f {ops} {s} {P} r (suc at) e some h = record { run = rw e h.run }

pub leads_not_null_unset : (f : Fixed) {ops : List Op} {s : Running} {P : Running → Stop → Type 0} (r : ℕ) → register s r ≡ None → OpsLead f ops s P → OpsLead f (Does (CheckOp (NotNull r)) ∷ ops) s P
leads_not_null_unset f {ops} {s} {P} r e h = record { run = rw e h.run }

pub leads_null : (f : Fixed) {ops : List Op} {s : Running} {P : Running → Stop → Type 0} (r : ℕ) → register s r ≡ Some 0 → P s (Answers (Refused 1 s.line)) → OpsLead f (Does (CheckOp (NotNull r)) ∷ ops) s P
leads_null f {ops} {s} {P} r e h = record { run = rw e h }

-- 2
pub leads_open : (f : Fixed) {ops : List Op} {s : Running} {P : Running → Stop → Type 0} (r at : ℕ) → register s r ≡ Some at → fault_at s.memory.regions at 1 ≡ None → OpsLead f ops s P → OpsLead f (Does (CheckOp (Open r)) ∷ ops) s P
leads_open f {ops} {s} {P} r at e there h = record { run = passes f s ops P (register s r) at _ e h.run (rw there h.run) }

pub leads_closed : (f : Fixed) {ops : List Op} {s : Running} {P : Running → Stop → Type 0} (r at a : ℕ) → register s r ≡ Some at → (at ≡ 0 → ⊥) → fault_at s.memory.regions at 1 ≡ Some (Closed a) → P s (Answers (Refused 2 s.line)) → OpsLead f (Does (CheckOp (Open r)) ∷ ops) s P
leads_closed f {ops} {s} {P} r at a e some there h = record { run = fails f s ops P (register s r) at _ e some (rw there h) }

-- 3
pub leads_ready : (f : Fixed) {ops : List Op} {s : Running} {P : Running → Stop → Type 0} (r offset class at : ℕ) → register s r ≡ Some at → ready_at s.notes (moved at offset) class ≡ true → OpsLead f ops s P → OpsLead f (Does (CheckOp (Ready r offset class)) ∷ ops) s P
leads_ready f {ops} {s} {P} r offset class at e there h = record { run = passes f s ops P (register s r) at _ e h.run (rw there h.run) }

pub leads_not_ready : (f : Fixed) {ops : List Op} {s : Running} {P : Running → Stop → Type 0} (r offset class at : ℕ) → register s r ≡ Some at → (at ≡ 0 → ⊥) → ready_at s.notes (moved at offset) class ≡ false → P s (Answers (Refused 3 s.line)) → OpsLead f (Does (CheckOp (Ready r offset class)) ∷ ops) s P
leads_not_ready f {ops} {s} {P} r offset class at e some there h = record { run = fails f s ops P (register s r) at _ e some (rw there h) }

-- 4: what a subobject's complete object and its view are
pub record HasView (s : Running) (at class : ℕ) (owner view : ℕ × ℕ) : Type 0 where
  pub owner_is : s.notes.owner at class ≡ Some owner
  pub view_is : s.notes.view owner.0 owner.1 ≡ Some view

-- where the test decides whether the subobject is the view or in it, and what is so goes on, or refuses by 4
pub record TellsOf (f : Fixed) (s : Running) (view : ℕ × ℕ) (at class : ℕ) (answer : Bool) : Type 0 where
  pub can : CanTellWithin (word_at f.image) f.image.base s.memory f.parts view.0 view.1
  pub is : (inside : Bool) → TellsWithin (word_at f.image) f.image.base s.memory view.0 view.1 at class inside → inside ≡ answer

-- it is the view
pub leads_is_view : (f : Fixed) {ops : List Op} {s : Running} {P : Running → Stop → Type 0} (r offset class at : ℕ) (owner view : ℕ × ℕ) → register s r ≡ Some at → HasView s (moved at offset) class owner view → same_address_and_class view (moved at offset) class ≡ true → OpsLead f ops s P → OpsLead f (Does (CheckOp (InView r offset class)) ∷ ops) s P
leads_is_view f {ops} {s} {P} r offset class at owner view e has same h = record { run = passes f s ops P (register s r) at _ e h.run (rw (has.owner_is, has.view_is, same) h.run) }

-- it is another base of the view
pub leads_in_view : (f : Fixed) {ops : List Op} {s : Running} {P : Running → Stop → Type 0} (r offset class at : ℕ) (owner view : ℕ × ℕ) → register s r ≡ Some at → HasView s (moved at offset) class owner view → same_address_and_class view (moved at offset) class ≡ false → TellsOf f s view (moved at offset) class true → OpsLead f ops s P → OpsLead f (Does (CheckOp (InView r offset class)) ∷ ops) s P
leads_in_view f {ops} {s} {P} r offset class at owner view e has other tells h = record { run = passes f s ops P (register s r) at _ e h.run (rw (has.owner_is, has.view_is, other) (tells.can, λ inside is. rw (tells.is inside is) h.run)) }

-- it is outside of the view
pub leads_outside_view : (f : Fixed) {ops : List Op} {s : Running} {P : Running → Stop → Type 0} (r offset class at : ℕ) (owner view : ℕ × ℕ) → register s r ≡ Some at → (at ≡ 0 → ⊥) → HasView s (moved at offset) class owner view → same_address_and_class view (moved at offset) class ≡ false → TellsOf f s view (moved at offset) class false → P s (Answers (Refused 4 s.line)) → OpsLead f (Does (CheckOp (InView r offset class)) ∷ ops) s P
leads_outside_view f {ops} {s} {P} r offset class at owner view e some has other tells h = record { run = fails f s ops P (register s r) at _ e some (rw (has.owner_is, has.view_is, other) (tells.can, λ inside is. rw (tells.is inside is) h)) }

-- 5
pub leads_set : (f : Fixed) {ops : List Op} {s : Running} {P : Running → Stop → Type 0} (r word : ℕ) → register s r ≡ Some word → OpsLead f ops s P → OpsLead f (Does (CheckOp (SetRegister r)) ∷ ops) s P
leads_set f {ops} {s} {P} r word e h = record { run = rw e h.run }

pub leads_unset : (f : Fixed) {ops : List Op} {s : Running} {P : Running → Stop → Type 0} (r : ℕ) → register s r ≡ None → P s (Answers (Refused 5 s.line)) → OpsLead f (Does (CheckOp (SetRegister r)) ∷ ops) s P
leads_unset f {ops} {s} {P} r e h = record { run = rw e h }

-- so many bytes can be reached there
pub record Reached (s : Running) (at bytes : ℕ) : Type 0 where
  pub some : 0 < bytes
  pub narrow : bytes < 9
  pub there : fault_at s.memory.regions at bytes ≡ None

pub width_is : (bytes : ℕ) → 0 < bytes → bytes < 9 → (nat_lt 0 bytes && nat_lt bytes 9) ≡ true
width_is bytes some narrow = rw (below 0 bytes some, below bytes 9 narrow) refl

pub leads_set_leaf : (f : Fixed) {ops : List Op} {s : Running} {P : Running → Stop → Type 0} (base offset : ℕ) (width : Width) (at low : ℕ) → register s base ≡ Some at → Reached s (moved at offset) width.bytes → number_from s.memory.bit (8 * moved at offset) (8 * width.bytes) ≡ Some low → OpsLead f ops s P → OpsLead f (Does (CheckOp (SetLeaf base offset width)) ∷ ops) s P
leads_set_leaf f {ops} {s} {P} base offset width at low e reach number h = record { run = passes f s ops P (register s base) at _ e h.run (rw (width_is width.bytes reach.some reach.narrow, reach.there, number) h.run) }

pub leads_unset_leaf : (f : Fixed) {ops : List Op} {s : Running} {P : Running → Stop → Type 0} (base offset : ℕ) (width : Width) (at : ℕ) → register s base ≡ Some at → (at ≡ 0 → ⊥) → Reached s (moved at offset) width.bytes → number_from s.memory.bit (8 * moved at offset) (8 * width.bytes) ≡ None → P s (Answers (Refused 5 s.line)) → OpsLead f (Does (CheckOp (SetLeaf base offset width)) ∷ ops) s P
leads_unset_leaf f {ops} {s} {P} base offset width at e some reach number h = record { run = fails f s ops P (register s base) at _ e some (rw (width_is width.bytes reach.some reach.narrow, reach.there, number) h) }

-- so many bits can be reached there, from this one of a byte on
pub record BitsReached (s : Running) (at first bits : ℕ) : Type 0 where
  pub inside : first < 8
  pub some : 0 < bits
  pub narrow : first + bits ≤ 64
  pub there : fault_at s.memory.regions at (byte_span first bits) ≡ None

pub bits_are : (first bits : ℕ) → first < 8 → 0 < bits → first + bits ≤ 64 → (nat_lt first 8 && (nat_lt 0 bits && nat_le (first + bits) 64)) ≡ true
bits_are first bits inside some narrow = rw (below first 8 inside, below 0 bits some, within (first + bits) 64 narrow) refl

pub leads_set_bits : (f : Fixed) {ops : List Op} {s : Running} {P : Running → Stop → Type 0} (base offset first : ℕ) (width : BitWidth) (at low : ℕ) → register s base ≡ Some at → BitsReached s (moved at offset) first width.bits → number_from s.memory.bit (8 * moved at offset + first) width.bits ≡ Some low → OpsLead f ops s P → OpsLead f (Does (CheckOp (SetBits base offset first width)) ∷ ops) s P
leads_set_bits f {ops} {s} {P} base offset first width at low e reach number h = record { run = passes f s ops P (register s base) at _ e h.run (rw (bits_are first width.bits reach.inside reach.some reach.narrow, reach.there, number) h.run) }

pub leads_unset_bits : (f : Fixed) {ops : List Op} {s : Running} {P : Running → Stop → Type 0} (base offset first : ℕ) (width : BitWidth) (at : ℕ) → register s base ≡ Some at → (at ≡ 0 → ⊥) → BitsReached s (moved at offset) first width.bits → number_from s.memory.bit (8 * moved at offset + first) width.bits ≡ None → P s (Answers (Refused 5 s.line)) → OpsLead f (Does (CheckOp (SetBits base offset first width)) ∷ ops) s P
leads_unset_bits f {ops} {s} {P} base offset first width at e some reach number h = record { run = fails f s ops P (register s base) at _ e some (rw (bits_are first width.bits reach.inside reach.some reach.narrow, reach.there, number) h) }

-- 6
pub leads_has_code : (f : Fixed) {ops : List Op} {s : Running} {P : Running → Stop → Type 0} (r entry at record_at : ℕ) → register s r ≡ Some at → table_word f.image s.memory at (8 * entry) ≡ Some record_at → (record_at ≡ 0 → ⊥) → OpsLead f ops s P → OpsLead f (Does (CheckOp (HasCode r entry)) ∷ ops) s P
leads_has_code f {ops} {s} {P} r entry at zero e there runs h = absurd (runs refl)
leads_has_code f {ops} {s} {P} r entry at (suc record_at) e there runs h = record { run = passes f s ops P (register s r) at _ e h.run (rw there h.run) }

pub leads_no_code : (f : Fixed) {ops : List Op} {s : Running} {P : Running → Stop → Type 0} (r entry at : ℕ) → register s r ≡ Some at → (at ≡ 0 → ⊥) → table_word f.image s.memory at (8 * entry) ≡ Some 0 → P s (Answers (Refused 6 s.line)) → OpsLead f (Does (CheckOp (HasCode r entry)) ∷ ops) s P
leads_no_code f {ops} {s} {P} r entry at e some there h = record { run = fails f s ops P (register s r) at _ e some (rw there h) }

-- 7
pub leads_derived : (f : Fixed) {ops : List Op} {s : Running} {P : Running → Stop → Type 0} (r offset class at : ℕ) (phase : Phase) → register s r ≡ Some at → s.notes.phase (moved at offset) class ≡ Some phase → OpsLead f ops s P → OpsLead f (Does (CheckOp (Derived r offset class)) ∷ ops) s P
leads_derived f {ops} {s} {P} r offset class at phase e there h = record { run = passes f s ops P (register s r) at _ e h.run (rw there h.run) }

pub leads_not_derived : (f : Fixed) {ops : List Op} {s : Running} {P : Running → Stop → Type 0} (r offset class at : ℕ) → register s r ≡ Some at → (at ≡ 0 → ⊥) → s.notes.phase (moved at offset) class ≡ None → P s (Answers (Refused 7 s.line)) → OpsLead f (Does (CheckOp (Derived r offset class)) ∷ ops) s P
leads_not_derived f {ops} {s} {P} r offset class at e some there h = record { run = fails f s ops P (register s r) at _ e some (rw there h) }

-- 8
pub leads_whole : (f : Fixed) {ops : List Op} {s : Running} {P : Running → Stop → Type 0} (r class at : ℕ) (owner : ℕ × ℕ) → register s r ≡ Some at → s.notes.owner at class ≡ Some owner → same_address_and_class owner at class ≡ true → OpsLead f ops s P → OpsLead f (Does (CheckOp (Whole r class)) ∷ ops) s P
leads_whole f {ops} {s} {P} r class at owner e there same h = record { run = passes f s ops P (register s r) at _ e h.run (rw (there, same) h.run) }

pub leads_not_whole : (f : Fixed) {ops : List Op} {s : Running} {P : Running → Stop → Type 0} (r class at : ℕ) (owner : ℕ × ℕ) → register s r ≡ Some at → (at ≡ 0 → ⊥) → s.notes.owner at class ≡ Some owner → same_address_and_class owner at class ≡ false → P s (Answers (Refused 8 s.line)) → OpsLead f (Does (CheckOp (Whole r class)) ∷ ops) s P
leads_not_whole f {ops} {s} {P} r class at owner e some there other h = record { run = fails f s ops P (register s r) at _ e some (rw (there, other) h) }

-- 9
pub leads_heap_object : (f : Fixed) {ops : List Op} {s : Running} {P : Running → Stop → Type 0} (r class at : ℕ) (owner : ℕ × ℕ) (object : Opened) → register s r ≡ Some at → s.notes.owner at class ≡ Some owner → object_at s.objects at ≡ Some object → same_address_and_class owner object.start object.class ≡ true → OpsLead f ops s P → OpsLead f (Does (CheckOp (HeapObject r class)) ∷ ops) s P
leads_heap_object f {ops} {s} {P} r class at owner object e there found same h = record { run = passes f s ops P (register s r) at _ e h.run (rw (there, found, same) h.run) }

pub leads_not_heap_object : (f : Fixed) {ops : List Op} {s : Running} {P : Running → Stop → Type 0} (r class at : ℕ) (owner : ℕ × ℕ) (object : Opened) → register s r ≡ Some at → (at ≡ 0 → ⊥) → s.notes.owner at class ≡ Some owner → object_at s.objects at ≡ Some object → same_address_and_class owner object.start object.class ≡ false → P s (Answers (Refused 9 s.line)) → OpsLead f (Does (CheckOp (HeapObject r class)) ∷ ops) s P
leads_not_heap_object f {ops} {s} {P} r class at owner object e some there found other h = record { run = fails f s ops P (register s r) at _ e some (rw (there, found, other) h) }

-- 10
pub leads_complete : (f : Fixed) {ops : List Op} {s : Running} {P : Running → Stop → Type 0} (r at : ℕ) (object : Opened) (phase : Phase) → register s r ≡ Some at → object_at s.objects at ≡ Some object → s.notes.phase object.start object.class ≡ Some phase → is_complete_phase phase ≡ true → OpsLead f ops s P → OpsLead f (Does (CheckOp (Complete r)) ∷ ops) s P
leads_complete f {ops} {s} {P} r at object phase e found there is h = record { run = passes f s ops P (register s r) at _ e h.run (rw (found, there, is) h.run) }

pub leads_not_complete : (f : Fixed) {ops : List Op} {s : Running} {P : Running → Stop → Type 0} (r at : ℕ) (object : Opened) (phase : Phase) → register s r ≡ Some at → (at ≡ 0 → ⊥) → object_at s.objects at ≡ Some object → s.notes.phase object.start object.class ≡ Some phase → is_complete_phase phase ≡ false → P s (Answers (Refused 10 s.line)) → OpsLead f (Does (CheckOp (Complete r)) ∷ ops) s P
leads_not_complete f {ops} {s} {P} r at object phase e some found there is h = record { run = fails f s ops P (register s r) at _ e some (rw (found, there, is) h) }

pub leads_not_begun : (f : Fixed) {ops : List Op} {s : Running} {P : Running → Stop → Type 0} (r at : ℕ) (object : Opened) → register s r ≡ Some at → (at ≡ 0 → ⊥) → object_at s.objects at ≡ Some object → s.notes.phase object.start object.class ≡ None → P s (Answers (Refused 10 s.line)) → OpsLead f (Does (CheckOp (Complete r)) ∷ ops) s P
leads_not_begun f {ops} {s} {P} r at object e some found there h = record { run = fails f s ops P (register s r) at _ e some (rw (found, there) h) }

-- 11
pub leads_never : (f : Fixed) {ops : List Op} {s : Running} {P : Running → Stop → Type 0} → P s (Answers (Refused 11 s.line)) → OpsLead f (Does (CheckOp Never) ∷ ops) s P
leads_never f {ops} {s} {P} h = record { run = h }

-- 12
pub leads_fits : (f : Fixed) {ops : List Op} {s : Running} {P : Running → Stop → Type 0} (kind : ArithKind) (width : Width) (left right a b : ℕ) → 0 < width.bytes → width.bytes < 9 → register s left ≡ Some a → register s right ≡ Some b → is_number_of width (exact kind (number_of_word width a) (number_of_word width b)) ≡ true → OpsLead f ops s P → OpsLead f (Does (CheckOp (Fits kind width left right)) ∷ ops) s P
leads_fits f {ops} {s} {P} kind width left right a b some narrow e e' is h = record { run = rw (width_is width.bytes some narrow, e, e', is) h.run }

pub leads_overflow : (f : Fixed) {ops : List Op} {s : Running} {P : Running → Stop → Type 0} (kind : ArithKind) (width : Width) (left right a b : ℕ) → 0 < width.bytes → width.bytes < 9 → register s left ≡ Some a → register s right ≡ Some b → is_number_of width (exact kind (number_of_word width a) (number_of_word width b)) ≡ false → P s (Answers (Refused 12 s.line)) → OpsLead f (Does (CheckOp (Fits kind width left right)) ∷ ops) s P
leads_overflow f {ops} {s} {P} kind width left right a b some narrow e e' is h = record { run = rw (width_is width.bytes some narrow, e, e', is) h }

-- where one of the two is unset nothing is asked
pub leads_fits_left_unset : (f : Fixed) {ops : List Op} {s : Running} {P : Running → Stop → Type 0} (kind : ArithKind) (width : Width) (left right : ℕ) → 0 < width.bytes → width.bytes < 9 → register s left ≡ None → OpsLead f ops s P → OpsLead f (Does (CheckOp (Fits kind width left right)) ∷ ops) s P
leads_fits_left_unset f {ops} {s} {P} kind width left right some narrow e h = record { run = rw (width_is width.bytes some narrow, e) h.run }

pub leads_fits_right_unset : (f : Fixed) {ops : List Op} {s : Running} {P : Running → Stop → Type 0} (kind : ArithKind) (width : Width) (left right a : ℕ) → 0 < width.bytes → width.bytes < 9 → register s left ≡ Some a → register s right ≡ None → OpsLead f ops s P → OpsLead f (Does (CheckOp (Fits kind width left right)) ∷ ops) s P
leads_fits_right_unset f {ops} {s} {P} kind width left right a some narrow e e' h = record { run = rw (width_is width.bytes some narrow, e, e') h.run }

-- one pair, and two
pub one_pair : (at class : ℕ) → same_address_and_class (at, class) at class ≡ true
one_pair at class = grind (arith, nat_tests)

pub two_pairs : (a c at class : ℕ) → ((a ≡ at) × (c ≡ class) → ⊥) → same_address_and_class (a, c) at class ≡ false
two_pairs a c at class other = by_tests (nat_eq a at) (nat_eq c class) refl refl
  where
    by_tests : (x y : Bool) → nat_eq a at ≡ x → nat_eq c class ≡ y → (x && y) ≡ false
    by_tests true true e e' = absurd (other (grind (arith, nat_tests), grind (arith, nat_tests)))
    by_tests true false e e' = refl
    by_tests false y e e' = refl
