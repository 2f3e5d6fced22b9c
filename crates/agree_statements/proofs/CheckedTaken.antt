-- A pointer that was made is tested for its conversion, converted, and taken.
use Rattle.std.proofs.Common.{◌≡◌, ℕ, ◌<◌, false, Option, Some, None, List, [], ◌∷◌, ◌++◌, refl, sym, subst}
use Rattle.cxx_hierarchy.specs.declared.records.ClassId.{ClassId}
use Rattle.cxx_hierarchy.specs.declared.records.ValueType.TheVariants.{Pointer as PointerType}
use Rattle.cxx_program.specs.declared.operand.Variable.{Variable}
use Rattle.cxx_program.specs.declared.operand.Conversion.{Conversion}
use Rattle.cxx_program.specs.declared.statement.Converted.{Converted}
use Rattle.cxx_program.specs.declared.statement.TypedStatement.{TypedStatement}
use Rattle.cxx_program.specs.Typed.{Converts}
use Rattle.path_rules.specs.declared.Undefined.{Undefined}
use Rattle.path_model.specs.Values.{Value, converted_to}
use Rattle.path_model.specs.Uses.{convert}
use Rattle.path_model.specs.Rules.{names}
use Rattle.path_model.specs.Order.{first_broken, sorted}
use Rattle.path_model.specs.States.{sight}
use Rattle.path_model.specs.Runs.{Moves, IsRefused}
use Rattle.path_model.specs.TypedStates.{IsValue}
use Rattle.byte_machine.specs.Frames.{register_of}
use Rattle.byte_code.specs.declared.op.Op.{Op}
use Rattle.byte_code.specs.declared.op.Op.TheVariants.{Jump}
use Rattle.byte_machine.specs.Leads.{OpsLead}
use Rattle.code_ops.specs.Arguments.{free, taken_ops, checked_taken}
use Rattle.code_ops.specs.Operands.{ops_of}
use Rattle.code_ops.specs.Uses.{convert_used, check_list}
use Rattle.agree_relation.specs.Worlds.{world_classes, fixed}
use Rattle.agree_relation.specs.Words.{register_word}
use Rattle.agree_relation.specs.Frames.{HasVariables}
use Rattle.agree_statements.specs.Registers.{at_registers, body_on}
use Rattle.agree_statements.proofs.Tests.{leads_checks}
use Rattle.agree_statements.proofs.Useds.{along_convert}
use Rattle.agree_statements.proofs.Scenes.{Scene, here, block}
use Rattle.agree_statements.proofs.Finish.{Reaches, to_next, refused}
use Rattle.agree_statements.proofs.Moves.{move_in}
use Rattle.agree_statements.proofs.Rights.{Taking, took, tells, sure, ops_append, leads_taken}

module _ {statement : TypedStatement} (scene : Scene statement) (locals : List Value) (variable : Variable) (x : Converted) (take : Taking scene locals variable x) where
  open scene use {w, at, s, f, below, body, b}

  pub leads_checked : (v : Value) (d : ClassId) (c : Conversion) (n from : ℕ) (old : List (Option ℕ)) → n < 7 → Converts (world_classes w) (PointerType d) c take.target → IsValue (world_classes w) s.objects.classes v (PointerType d) → names (λ p. s.objects.is_closed p.object) v ≡ false → register_of old from ≡ register_word w (here scene) v
      → HasVariables w (here scene) (body_on f locals f.next) old → ((rule : Undefined) → first_broken (world_classes w) s.objects (sorted (convert v c)) ≡ Some rule → move_in w s ≡ IsRefused rule statement.line)
      → (first_broken (world_classes w) s.objects (sorted (convert v c)) ≡ None → move_in w s ≡ Moves (took scene locals variable (converted_to v c)) [])
      → OpsLead (fixed w) (ops_of (checked_taken (block scene) variable (Some d) c (free (block scene) n) from) ++ (Jump (to_next scene statement.next) ∷ [])) (at_registers b old) (Reaches scene)
  leads_checked v d c n from old few to typed open_there has variables refuses goes =
      let h = world_classes w in
      let uses = convert v c in
      let used = convert_used (Some d) c from in
      subst (λ (ops : List Op). OpsLead (fixed w) ops (at_registers b old) (Reaches scene)) (sym (ops_append (check_list used) (taken_ops (block scene) variable (Some d) c (free (block scene) n) from) (Jump (to_next scene statement.next) ∷ [])))
      (leads_checks (fixed w) (at_registers b old) (Reaches scene) h s.objects uses used
      (along_convert w (sight s (body_on f locals f.next)) (at_registers b old) (Reaches scene) scene.world scene.begins.stands.columns uses from v (PointerType d) take.target c (tells scene old) (λ none. open_there) (λ u there. there) to typed has)
      (λ fine none. leads_taken scene locals variable x take v (PointerType d) c n from old few to (sure scene v c uses none (λ u there. there) open_there) typed has variables (goes fine))
      (λ rule broken. refused scene rule (at_registers b old) refl (refuses rule broken)))
