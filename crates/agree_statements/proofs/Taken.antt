-- A variable takes a value that stands in a register, and control goes on.
use Rattle.std.proofs.Common.{◌≡◌, ℕ, ◌+◌, ◌<◌, ⊎_elim, Option, Some, List, [], ◌∷◌, length, map, set, length-set, refl, ap, sym, ◌∙◌, subst, arith}
use Rattle.std.specs.Prelude.{slice_get}
use Rattle.std.proofs.lemmas.Bool.{cases_eq}
use Rattle.std.proofs.lemmas.List.{map-set, length-map}
use Rattle.std.proofs.lemmas.Option.{slice_get_within}
use Rattle.foundation.proofs.Places.{get_set_other, get_set}
use Rattle.cxx_hierarchy.specs.declared.records.ClassId.{ClassId}
use Rattle.cxx_hierarchy.specs.declared.records.ValueType.{ValueType}
use Rattle.cxx_program.specs.declared.operand.Variable.{Variable}
use Rattle.cxx_program.specs.declared.operand.Variable.TheVariants.{Global, Local}
use Rattle.cxx_program.specs.declared.statement.TypedStatement.{TypedStatement}
use Rattle.cxx_program.specs.Typed.{variable_type}
use Rattle.path_model.specs.Values.{Value}
use Rattle.path_model.specs.States.{RunningBody as Body, assigned}
use Rattle.path_model.specs.Runs.{Moves}
use Rattle.byte_machine.specs.Frames.{register_of}
use Rattle.byte_code.specs.declared.op.Op.TheVariants.{Does, Jump}
use Rattle.byte_machine.specs.declared.turn.RawOut.{RawOut}
use Rattle.byte_machine.specs.Running.{Running}
use Rattle.byte_machine.specs.Leads.{OpsLead}
use Rattle.byte_machine.proofs.Leads.{leads_end}
use Rattle.byte_machine.proofs.ValueLeads.{leads_move, leads_write_global}
use Rattle.byte_machine.proofs.ControlLeads.{leads_jump}
use Rattle.code_ops.specs.Operands.{assign_op}
use Rattle.agree_parts.specs.Heaps.{Heap}
use Rattle.agree_relation.specs.Worlds.{World, fixed, world_classes}
use Rattle.agree_relation.specs.Words.{register_word}
use Rattle.agree_relation.specs.Frames.{HasVariables}
use Rattle.agree_relation.specs.Agrees.{ReadAs}
use Rattle.agree_statements.specs.Registers.{at_registers, body_on}
use Rattle.agree_statements.proofs.Registers.{set_here, set_there}
use Rattle.agree_statements.proofs.After.{state_on}
use Rattle.agree_statements.proofs.Moves.{move_in}
use Rattle.agree_statements.proofs.Scenes.{Scene, here, scope, sees, values_count, registers_enough}
use Rattle.agree_statements.proofs.Finish.{Reaches, to_next, finished}

-- a local is set, and its register
pub variables_set : (w : World) (g : Heap) (f : Body) (b : Running) (locals : List Value) (at next n : ℕ) (v : Value) (old : List (Option ℕ)) → HasVariables w g (body_on f locals at) old → n < length locals → n + 1 < length old → HasVariables w g (body_on f (set locals n v) next) (set old (n + 1) (register_word w g v))
variables_set w g f b locals at next n v old a known inside = record {
  size = length-set old (n + 1) (register_word w g v) ∙ a.size;
  this = set_there b old (n + 1) 0 (register_word w g v) (λ e. omega arith) ∙ a.this;
  local = λ m u there. ⊎_elim
      (λ (e : m ≡ n).
      let same : Some v ≡ Some u = sym (get_set locals n v known) ∙ ap (λ i. slice_get (set locals n v) i) (sym e) ∙ there in
      let one : v ≡ u = cc in
      ap (λ i. register_of (set old (n + 1) (register_word w g v)) (i + 1)) e ∙ set_here b old (n + 1) (register_word w g v) inside ∙ ap (register_word w g) one)
      (λ (other : m ≡ n → ⊥). set_there b old (n + 1) (m + 1) (register_word w g v) (λ e. other (omega arith)) ∙ a.local m u (sym (get_set_other locals n m v other) ∙ there))
      (cases_eq m n);
  spare = ap (λ i. register_of (set old (n + 1) (register_word w g v)) (i + 1)) (length-set locals n v) ∙ set_there b old (n + 1) (length locals + 1) (register_word w g v) (λ e. omega arith) ∙ a.spare;
}

module _ {statement : TypedStatement} (scene : Scene statement) (locals : List Value) where
  open scene use {w, at, s, f, below, body, b}

  -- nothing is told
  pub silent : ReadAs w at (here scene) b.outs []
  silent = subst (λ (o : List RawOut). ReadAs w at (here scene) o []) (sym scene.begins.silent) tt

  pub leads_given : (variable : Variable) (t : ValueType ClassId) (v : Value) (from : ℕ) (old : List (Option ℕ)) → variable_type (scope scene) variable ≡ Some t → length locals ≡ length body.locals → register_of old from ≡ register_word w (here scene) v → HasVariables w (here scene) (body_on f locals f.next) old
      → move_in w s ≡ Moves (assigned (state_on s s.objects s.globals (body_on f locals statement.next) below) variable v) []
      → OpsLead (fixed w) (Does (assign_op variable from) ∷ Jump (to_next scene statement.next) ∷ []) (at_registers b old) (Reaches scene)
  leads_given (Global n) t v from old there count has variables moves =
      let g = here scene in
      let known = values_count (world_classes w) s.objects.classes s.globals w.setup.program.globals (sees scene).globals in
      let within = slice_get_within w.setup.program.globals n t there in
      let size : length b.globals ≡ length s.globals = ap length scene.begins.stands.globals ∙ length-map s.globals (register_word w g) in
      let words : set b.globals n (register_of old from) ≡ map (register_word w g) (set s.globals n v) = ap (λ (x : Option ℕ). set b.globals n x) has ∙ ap (λ (ws : List (Option ℕ)). set ws n (register_word w g v)) scene.begins.stands.globals ∙ sym (map-set (register_word w g) s.globals n v) in
      leads_write_global (fixed w) n from (omega arith)
      (leads_jump (fixed w) (to_next scene statement.next) (leads_end (fixed w)
      (finished scene s.objects b.memory (set s.globals n v) (set b.globals n (register_of old from)) locals statement.next old b.outs [] (record { classes = refl; phases = refl }) refl scene.begins.stands.columns words
      (record { size = variables.size; this = variables.this; local = variables.local; spare = variables.spare }) silent moves)))
  leads_given (Local n) t v from old there count has variables moves =
      let g = here scene in
      let within = slice_get_within body.locals n t there in
      let enough = registers_enough scene in
      let inside : n + 1 < length old = omega (arith, variables.size) in
      let set_variables = variables_set w g f b locals f.next statement.next n v old variables (omega arith) inside in
      leads_move (fixed w) (n + 1) from inside
      (leads_jump (fixed w) (to_next scene statement.next) (leads_end (fixed w)
      (finished scene s.objects b.memory s.globals b.globals (set locals n v) statement.next (set old (n + 1) (register_of old from)) b.outs [] (record { classes = refl; phases = refl }) refl scene.begins.stands.columns scene.begins.stands.globals
      (subst (λ (x : Option ℕ). HasVariables w g (body_on f (set locals n v) statement.next) (set old (n + 1) x)) (sym has) set_variables) silent moves)))
