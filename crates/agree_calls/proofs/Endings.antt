-- A return without a result, and the ends of bodies.
use Rattle.std.proofs.Common.{◌≡◌, ℕ, Bool, true, false, Some, None, List, [], ◌∷◌, refl, if◌then◌else◌}
use Rattle.code_blocks.specs.Blocks.{Place, closing_ops}
use Rattle.code_ops.specs.Setups.{FunctionCode, MainCode}
use Rattle.agree_relation.specs.Worlds.{World, world_classes, fixed}
use Rattle.byte_code.specs.declared.op.Check.TheVariants.{Never}
use Rattle.byte_code.specs.declared.op.Finish.TheVariants.{Check as CheckOp}
use Rattle.byte_code.specs.declared.op.Op.TheVariants.{Does, Return as ReturnOp}
use Rattle.byte_machine.proofs.CheckLeads.{leads_never}
use Rattle.byte_machine.proofs.ControlLeads.{leads_stop}
use Rattle.byte_machine.proofs.ReturnLeads.{idle, leads_return, untaken}
use Rattle.byte_machine.specs.Calls.{left_calls}
use Rattle.byte_machine.specs.Frames.{MachineFrame}
use Rattle.byte_machine.specs.Leads.{OpsLead}
use Rattle.byte_machine.specs.Running.{Answers, Fixed, Returned, Running, Stop}
use Rattle.byte_machine.specs.declared.turn.MachineTurn.TheVariants.{Ended, Refused}
use Rattle.cxx_overrider.specs.Functions.{return_of}
use Rattle.cxx_overrider.specs.declared.FunctionId.{FunctionId}
use Rattle.path_model.specs.Rules.{returns_value}
use Rattle.path_model.proofs.Least.{closing_is}
use Rattle.path_model.specs.Rules.{closing_refusal}
use Rattle.path_model.specs.Values.{Objects}
use Rattle.path_rules.specs.declared.Undefined.TheVariants.{MissingReturn}

-- the frame below goes on as it waits
pub leads_nothing : (fx : Fixed) (b : Running) (P : Running → Stop → Type 0) (under : MachineFrame) (rest : List MachineFrame) → b.opened ≡ [] → b.top.again ≡ 0 → b.below ≡ under ∷ rest → b.top.kept.to ≡ None → P (record b { top = under; below = rest; calls = left_calls b }) (Returned b.top.kept.finish) → OpsLead fx (ReturnOp None None ∷ []) b P
leads_nothing fx b P under rest opened last below untaken_is h =
    leads_return fx None None None None under under rest (record { opened = opened; last = last; operand_is = refl }) (idle tt) (record { moved_is = refl; below_is = below; taker_is = untaken None b.top.kept.to under untaken_is }) h

-- the end of a function: rule 11 refuses it where there is a result to give
pub leads_closing : (w : World) (at : Place → ℕ) (n : FunctionId) (b : Running) (P : Running → Stop → Type 0) (s : Objects) → (closing_refusal (world_classes w) s n ≡ Some MissingReturn → P b (Answers (Refused 11 b.line)))
    → (closing_refusal (world_classes w) s n ≡ None → OpsLead (fixed w) (ReturnOp None None ∷ []) b P) → OpsLead (fixed w) (closing_ops w.setup at (FunctionCode n)) b P
leads_closing w at n b P s refused goes = by_result (returns_value (return_of (world_classes w) n)) (closing_is (world_classes w) s n)
  where
    by_result : (x : Bool) → closing_refusal (world_classes w) s n ≡ (if x then Some MissingReturn else None) → OpsLead (fixed w) (if x then Does (CheckOp Never) ∷ [] else ReturnOp None None ∷ []) b P
    by_result true e = leads_never (fixed w) (refused e)
    by_result false e = goes e

-- the end of `main`
pub leads_main_end : (w : World) (at : Place → ℕ) (b : Running) (P : Running → Stop → Type 0) → P b (Answers Ended) → OpsLead (fixed w) (closing_ops w.setup at MainCode) b P
leads_main_end w at b P h = leads_stop (fixed w) h
