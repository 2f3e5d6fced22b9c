-- Registers that are written while a block runs.
use Rattle.std.proofs.Common.{◌≡◌, ℕ, ◌+◌, ◌<◌, Option, List, length, refl, ◌++◌, append_assoc, sym, subst, ◌∙◌, arith}
use Rattle.std.specs.Prelude.{slice_set}
use Rattle.std.proofs.lemmas.Option.{slice_get_within}
use Rattle.byte_machine.specs.Frames.{register_of}
use Rattle.path_model.specs.States.{RunningBody as Body}
use Rattle.byte_code.specs.declared.op.Op.{Op}
use Rattle.byte_machine.specs.Running.{Fixed, Running, Stop}
use Rattle.byte_machine.specs.Leads.{OpsLead}
use Rattle.byte_machine.proofs.Registers.{register_same, register_other, registers_kept}
use Rattle.agree_parts.specs.Heaps.{Heap}
use Rattle.agree_relation.specs.Worlds.{World}
use Rattle.agree_relation.specs.Frames.{HasVariables}
use Rattle.agree_statements.specs.Registers.{at_registers, Wrote, body_on}

-- a register that is put
pub set_here : (b : Running) (old : List (Option ℕ)) (r : ℕ) (word : Option ℕ) → r < length old → register_of (slice_set old r word) r ≡ word
set_here b old r word inside = register_same (at_registers b old) r word inside

pub set_there : (b : Running) (old : List (Option ℕ)) (r q : ℕ) (word : Option ℕ) → (q ≡ r → ⊥) → register_of (slice_set old r word) q ≡ register_of old q
set_there b old r q word other = register_other (at_registers b old) r q word other

pub wrote_set : (b : Running) (old : List (Option ℕ)) (r : ℕ) (word : Option ℕ) → Wrote r old (slice_set old r word)
wrote_set b old r word = record { size = registers_kept (at_registers b old) r word; other = λ q other. set_there b old r q word other }

pub wrote_none : (r : ℕ) (old : List (Option ℕ)) → Wrote r old old
wrote_none r old = record { size = refl; other = λ q other. refl }

pub wrote_again : (r : ℕ) (old mid new : List (Option ℕ)) → Wrote r old mid → Wrote r mid new → Wrote r old new
wrote_again r old mid new a b = record { size = b.size ∙ a.size; other = λ q other. b.other q other ∙ a.other q other }

-- a register behind those of a body
abbrev pub IsFree : Body → ℕ → Type 0
IsFree f r = length f.locals + 1 < r

-- the variables of a body are kept
pub variables_kept : (w : World) (g : Heap) (f : Body) (r : ℕ) (old new : List (Option ℕ)) → IsFree f r → HasVariables w g f old → Wrote r old new → HasVariables w g f new
variables_kept w g f r old new free a b = record {
  size = b.size ∙ a.size;
  this = b.other 0 (λ e. omega arith) ∙ a.this;
  local = λ n v there. let within = slice_get_within f.locals n v there in b.other (n + 1) (λ e. omega arith) ∙ a.local n v there;
  spare = b.other (length f.locals + 1) (λ e. omega arith) ∙ a.spare;
}

-- another next statement
pub variables_on : (w : World) (g : Heap) (f : Body) (next : ℕ) (registers : List (Option ℕ)) → HasVariables w g f registers → HasVariables w g (body_on f f.locals next) registers
variables_on w g f next registers a = record { size = a.size; this = a.this; local = a.local; spare = a.spare }

-- ops in one group are ops in two
pub leads_grouped : (fx : Fixed) (first second rest : List Op) {s : Running} {P : Running → Stop → Type 0} → OpsLead fx (first ++ (second ++ rest)) s P → OpsLead fx ((first ++ second) ++ rest) s P
leads_grouped fx first second rest a = rw append_assoc a

pub leads_regrouped : (fx : Fixed) (first second third rest : List Op) {s : Running} {P : Running → Stop → Type 0} → OpsLead fx (first ++ (second ++ (third ++ rest))) s P → OpsLead fx (first ++ ((second ++ third) ++ rest)) s P
leads_regrouped fx first second third rest {s} {P} a = subst (λ (ops : List Op). OpsLead fx (first ++ ops) s P) (sym (append_assoc second third rest)) a
