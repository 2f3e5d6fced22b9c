-- The result of a return is read and tested.
use Rattle.code_ops.specs.Arguments.{argument_front, argument_used, free}
use Rattle.code_ops.specs.Operands.{operand_register}
use Rattle.code_ops.specs.Uses.{check_ops}
use Rattle.agree_relation.specs.Frames.{HasVariables}
use Rattle.agree_relation.specs.Words.{register_word}
use Rattle.agree_relation.specs.Worlds.{world_classes, fixed}
use Rattle.agree_statements.proofs.Finish.{Reaches, refused}
use Rattle.agree_statements.proofs.Moves.{move_in}
use Rattle.agree_statements.proofs.OperandRight.{argument_type}
use Rattle.agree_statements.proofs.Operands.{leads_operand}
use Rattle.agree_statements.proofs.Registers.{variables_kept}
use Rattle.agree_statements.proofs.Rights.{free_in, tells}
use Rattle.agree_statements.proofs.Scenes.{Scene, block, here, is_free, scope, sees, variables}
use Rattle.agree_statements.proofs.Tests.{leads_checks}
use Rattle.agree_statements.proofs.Useds.{along_argument}
use Rattle.agree_statements.specs.Registers.{at_registers}
use Rattle.byte_code.specs.declared.op.Op.{Op}
use Rattle.byte_machine.specs.Leads.{OpsLead}
use Rattle.byte_machine.specs.Frames.{register_of}
use Rattle.cxx_hierarchy.specs.declared.records.ClassId.{ClassId}
use Rattle.cxx_hierarchy.specs.declared.records.ValueType.{ValueType}
use Rattle.cxx_program.specs.Typed.{IsArgument}
use Rattle.cxx_program.specs.declared.operand.Argument.{Argument}
use Rattle.cxx_program.specs.declared.statement.TypedStatement.{TypedStatement}
use Rattle.path_model.specs.Order.{first_broken, sorted}
use Rattle.path_model.specs.Rules.{is_broken}
use Rattle.path_model.specs.Runs.{IsRefused}
use Rattle.path_model.specs.States.{sight}
use Rattle.path_model.specs.Uses.{argument_uses}
use Rattle.path_model.specs.Values.{value_of_operand}
use Rattle.path_rules.specs.declared.Undefined.{Undefined}
use Rattle.std.proofs.Common.{◌≡◌, ℕ, false, Option, Some, None, List, ◌++◌, refl, arith}

module _ {statement : TypedStatement} (scene : Scene statement) (a : Argument) (t : ValueType ClassId) (typed : IsArgument (world_classes scene.w) (scope scene) a t) where
  open scene use {w, s, f, b}

  pub leads_returned : {ops : List Op} → ((rule : Undefined) → first_broken (world_classes w) s.objects (sorted (argument_uses (sight s f) a)) ≡ Some rule → move_in w s ≡ IsRefused rule statement.line)
      → ((new : List (Option ℕ)) → HasVariables w (here scene) f new → register_of new (operand_register (free (block scene) 0) a.operand) ≡ register_word w (here scene) (value_of_operand (sight s f) a.operand) → first_broken (world_classes w) s.objects (sorted (argument_uses (sight s f) a)) ≡ None
      → ((r : Undefined) → is_broken (world_classes w) s.objects (argument_uses (sight s f) a) r ≡ false) → OpsLead (fixed w) ops (at_registers b new) (Reaches scene))
      → OpsLead (fixed w) (argument_front a (free (block scene) 0) ++ (check_ops (argument_used (block scene) a (free (block scene) 0)) ++ ops)) b (Reaches scene)
  leads_returned refuses goes =
      let h = world_classes w in
      let r = free (block scene) 0 in
      let uses = argument_uses (sight s f) a in
      let has = argument_type h (scope scene) a t typed in
      let stands = variables scene in
      leads_operand (fixed w) w (here scene) s f (scope scene) b a.operand has.0 r b.top.registers (sees scene) scene.begins.stands.globals stands has.1 (free_in scene f.locals b.top.registers 0 (omega arith) stands)
      (λ new read. leads_checks (fixed w) (at_registers b new) (Reaches scene) h s.objects uses (argument_used (block scene) a r)
      (along_argument w (sight s f) (at_registers b new) (Reaches scene) scene.world scene.begins.stands.columns uses (block scene) r a t (sees scene) (tells scene new) (λ u there. there) typed read.word)
      (λ clear none. goes new (variables_kept w (here scene) f r b.top.registers new (is_free scene 0) stands read.wrote) read.word clear none)
      (λ rule broken. refused scene rule (at_registers b new) refl (refuses rule broken)))
