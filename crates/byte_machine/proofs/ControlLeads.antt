-- One lemma for each op that leads on, tells or ends.
use Rattle.std.proofs.Common.{◌≡◌, ℕ, zero, suc, Option, Some, List, [], ◌∷◌, ◌++◌, subst, sym, refl}
use Rattle.byte_code.specs.declared.op.TraceKind.TheVariants.{Call as TraceCall, Built as TraceBuilt, Ending as TraceEnding}
use Rattle.byte_code.specs.declared.op.Op.{Op}
use Rattle.byte_code.specs.declared.op.Op.TheVariants.{Jump, JumpIf, Trace, End}
use Rattle.byte_machine.specs.declared.turn.MachineTurn.TheVariants.{Ended}
use Rattle.byte_machine.specs.declared.turn.RawOut.TheVariants.{Call, Built, Ending}
use Rattle.byte_machine.specs.Frames.{MachineFrame}
use Rattle.byte_machine.specs.Running.{Fixed, Running, Stop, Answers, register}
use Rattle.byte_machine.specs.Effects.{jumping, call_told}
use Rattle.byte_machine.specs.Leads.{LeadsBy, LeadsIn, OpsLead}

-- Jump
pub leads_jump : (f : Fixed) {ops : List Op} {s : Running} {P : Running → Stop → Type 0} (block : ℕ) → OpsLead f ops (jumping block s) P → OpsLead f (Jump block ∷ ops) s P
leads_jump f {ops} {s} {P} block h = record { run = h.run }

-- JumpIf, of a word that is not 0, and of 0
pub leads_jump_if : (f : Fixed) {ops : List Op} {s : Running} {P : Running → Stop → Type 0} (r block word : ℕ) → register s r ≡ Some word → (word ≡ 0 → ⊥) → OpsLead f ops (jumping block s) P → OpsLead f (JumpIf r block ∷ ops) s P
leads_jump_if f {ops} {s} {P} r block zero e some h = absurd (some refl)
leads_jump_if f {ops} {s} {P} r block (suc word) e some h = record { run = rw e h.run }

pub leads_jump_if_not : (f : Fixed) {ops : List Op} {s : Running} {P : Running → Stop → Type 0} (r block : ℕ) → register s r ≡ Some 0 → OpsLead f ops s P → OpsLead f (JumpIf r block ∷ ops) s P
leads_jump_if_not f {ops} {s} {P} r block e h = record { run = rw e h.run }

-- Trace of the frame that was opened last
pub leads_trace_call : (f : Fixed) {ops : List Op} {s : Running} {P : Running → Stop → Type 0} (frame : MachineFrame) (frames : List MachineFrame) (this : ℕ) (words : List (Option ℕ)) → s.opened ≡ frame ∷ frames → frame.registers ≡ Some this ∷ words → OpsLead f ops (record s { outs = s.outs ++ Call frame.block this ∷ [] }) P → OpsLead f (Trace TraceCall ∷ ops) s P
leads_trace_call f {ops} {s} {P} frame frames this words opened first h =
    let by_frame : LeadsBy f (call_told s (frame ∷ frames)) s (λ new. LeadsIn f ops new P) P = rw first h.run in
    record { run = subst (λ fs. LeadsBy f (call_told s fs) s (λ new. LeadsIn f ops new P) P) (sym opened) by_frame }

-- Trace of a subobject
pub leads_trace_built : (f : Fixed) {ops : List Op} {s : Running} {P : Running → Stop → Type 0} (class this : ℕ) → register s 0 ≡ Some this → OpsLead f ops (record s { outs = s.outs ++ Built class this ∷ [] }) P → OpsLead f (Trace (TraceBuilt class) ∷ ops) s P
leads_trace_built f {ops} {s} {P} class this e h = record { run = rw e h.run }

pub leads_trace_ending : (f : Fixed) {ops : List Op} {s : Running} {P : Running → Stop → Type 0} (class this : ℕ) → register s 0 ≡ Some this → OpsLead f ops (record s { outs = s.outs ++ Ending class this ∷ [] }) P → OpsLead f (Trace (TraceEnding class) ∷ ops) s P
leads_trace_ending f {ops} {s} {P} class this e h = record { run = rw e h.run }

-- End
pub leads_stop : (f : Fixed) {ops : List Op} {s : Running} {P : Running → Stop → Type 0} → P s (Answers Ended) → OpsLead f (End ∷ ops) s P
leads_stop f {ops} {s} {P} h = record { run = h }
