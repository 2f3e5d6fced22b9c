-- `v = x;`
use Rattle.std.proofs.Common.{◌≡◌, ℕ, false, Option, List, [], ◌∷◌, ◌++◌, pos, inl, inr, refl, sym, subst, arith}
use Rattle.cxx_hierarchy.specs.declared.records.ClassId.{ClassId}
use Rattle.cxx_hierarchy.specs.declared.records.Scalar.TheVariants.{Int}
use Rattle.cxx_hierarchy.specs.declared.records.ValueType.{ValueType}
use Rattle.cxx_hierarchy.specs.declared.records.ValueType.TheVariants.{Number as NumberType}
use Rattle.cxx_hierarchy.specs.Classes.{Classes}
use Rattle.cxx_program.specs.declared.operand.Variable.{Variable}
use Rattle.cxx_program.specs.declared.operand.TypedOperand.{TypedOperand}
use Rattle.cxx_program.specs.declared.operand.Conversion.{Conversion}
use Rattle.cxx_program.specs.declared.operand.Argument.{Argument}
use Rattle.cxx_program.specs.declared.statement.TypedRight.TheVariants.{Operand}
use Rattle.cxx_program.specs.declared.statement.TypedStatement.{TypedStatement}
use Rattle.cxx_program.specs.Typed.{Converts, Scope, HasType, of_number, IsArgument, a_value, a_null, an_operand, IsConverted, a_right, a_null_right}
use Rattle.path_rules.specs.declared.Undefined.{Undefined}
use Rattle.path_rules.specs.declared.Undefined.TheVariants.{Dangling}
use Rattle.path_model.specs.Rules.{is_broken}
use Rattle.path_model.specs.Runs.{Moves}
use Rattle.byte_machine.specs.Frames.{register_of}
use Rattle.agree_relation.specs.Words.{register_word}
use Rattle.agree_relation.specs.Frames.{HasVariables}
use Rattle.agree_statements.proofs.Moves.{move_in}
use Rattle.path_model.specs.Values.{Value, Null, value_of_operand, converted_to}
use Rattle.path_model.specs.Uses.{StatementUse, Reads, argument_uses}
use Rattle.path_model.proofs.TypedRanges.{zero_in_range}
use Rattle.path_model.proofs.TypedValues.{operand_typed}
use Rattle.byte_code.specs.declared.op.Op.TheVariants.{Jump}
use Rattle.byte_machine.specs.Leads.{OpsLead}
use Rattle.code_ops.specs.Arguments.{free, taken_ops, argument_used}
use Rattle.code_ops.specs.Operands.{operand_class, operand_register, ops_of}
use Rattle.agree_relation.specs.Worlds.{world_classes, fixed}
use Rattle.agree_statements.specs.Registers.{at_registers, body_on}
use Rattle.agree_statements.proofs.Registers.{variables_kept}
use Rattle.agree_statements.proofs.Operands.{leads_operand}
use Rattle.agree_statements.proofs.Tests.{leads_checks, unbroken}
use Rattle.agree_statements.proofs.Useds.{along_argument, class_of_type}
use Rattle.agree_statements.proofs.Conversions.{leads_null}
use Rattle.agree_statements.proofs.Scenes.{Scene, here, scope, block, sight_with}
use Rattle.agree_statements.proofs.Finish.{Reaches, to_next, refused}
use Rattle.agree_statements.proofs.Taken.{leads_given}
use Rattle.agree_statements.proofs.Rights.{Taking, DoesRight, took, tells, sure, free_of, free_in, leads_taken}

-- the operand and its conversion as an argument
abbrev pub argument : TypedOperand → Conversion → Argument
argument p c = record { operand = p; conversion = c }

operand_argument : (h : Classes) (e : Scope) (p : TypedOperand) (c : Conversion) (t : ValueType ClassId) → IsConverted h e (record { right = Operand p; conversion = c }) t → IsArgument h e (argument p c) t
operand_argument h e p c t (a_right _ s _ (an_operand _ _ has) to) = a_value (argument p c) s t has to
operand_argument h e _ _ _ (a_null_right d) = a_null d

-- the type of an argument's operand
pub argument_type : (h : Classes) (e : Scope) (a : Argument) (t : ValueType ClassId) → IsArgument h e a t → (s : ValueType ClassId) × HasType e a.operand s
argument_type h e _ _ (a_value a s t has to) = (s, has)
argument_type h e _ _ (a_null d) = (NumberType Int, of_number (pos 0) Int (zero_in_range Int))

module _ {statement : TypedStatement} (scene : Scene statement) (locals : List Value) (variable : Variable) (p : TypedOperand) (c : Conversion) (take : Taking scene locals variable (record { right = Operand p; conversion = c })) where
  open scene use {w, at, s, f, below, body, b}

  abbrev uses : List StatementUse
  uses = argument_uses (sight_with scene locals) (argument p c)

  -- behind the tests
  ends : (a : Argument) (target : ValueType ClassId) → target ≡ take.target → IsArgument (world_classes w) (scope scene) a target → (new : List (Option ℕ)) → register_of new (operand_register (free (block scene) 0) a.operand) ≡ register_word w (here scene) (value_of_operand (sight_with scene locals) a.operand)
      → HasVariables w (here scene) (body_on f locals f.next) new → ((r : Undefined) → is_broken (world_classes w) s.objects (argument_uses (sight_with scene locals) a) r ≡ false) → move_in w s ≡ Moves (took scene locals variable (converted_to (value_of_operand (sight_with scene locals) a.operand) a.conversion)) []
      → OpsLead (fixed w) (ops_of (taken_ops (block scene) variable (operand_class (scope scene) a.operand) a.conversion (free (block scene) 2) (operand_register (free (block scene) 0) a.operand)) ++ (Jump (to_next scene statement.next) ∷ [])) (at_registers b new) (Reaches scene)
  ends _ _ same (a_value a t u has to) new word variables none moves =
      let v = value_of_operand (sight_with scene locals) a.operand in
      let open_there = unbroken (fixed w) b (Reaches scene) (world_classes w) s.objects (argument_uses (sight_with scene locals) a) (Reads v) Dangling (none Dangling) (inl refl) in
      subst (λ (k : Option ClassId). OpsLead (fixed w) (ops_of (taken_ops (block scene) variable k a.conversion (free (block scene) 2) (operand_register (free (block scene) 0) a.operand)) ++ (Jump (to_next scene statement.next) ∷ [])) (at_registers b new) (Reaches scene)) (sym (class_of_type (scope scene) a.operand t has))
      (leads_taken scene locals variable (record { right = Operand p; conversion = c }) take v t a.conversion 2 (operand_register (free (block scene) 0) a.operand) new (omega arith) (subst (λ (y : ValueType ClassId). Converts (world_classes w) t a.conversion y) same to)
      (sure scene v a.conversion (argument_uses (sight_with scene locals) a) none (λ u there. inr there) open_there) (operand_typed (world_classes w) (scope scene) (sight_with scene locals) take.sees a.operand t has) word variables moves)
  ends _ _ same (a_null d) new word variables none moves =
      let to = free (block scene) 2 in
      leads_null w s.objects b scene.world scene.begins.stands.columns (Reaches scene) to (free (block scene) 0) new word (free_in scene locals new 2 (omega arith) variables)
      (λ last wrote is. leads_given scene locals variable take.target Null to last take.there take.count is (variables_kept w (here scene) (body_on f locals f.next) to new last (free_of scene locals 2 take.count) variables wrote) moves)

  pub operand_does : DoesRight scene locals variable (record { right = Operand p; conversion = c })
  operand_does old variables =
      let h = world_classes w in
      let e = scope scene in
      let a = operand_argument h e p c take.target take.typed in
      let t = argument_type h e (argument p c) take.target a in
      let r = free (block scene) 0 in
      leads_operand (fixed w) w (here scene) s (body_on f locals f.next) e b p t.0 r old take.sees scene.begins.stands.globals variables t.1 (free_in scene locals old 0 (omega arith) variables)
      (λ new read. leads_checks (fixed w) (at_registers b new) (Reaches scene) h s.objects uses (argument_used (block scene) (argument p c) r)
      (along_argument w (sight_with scene locals) (at_registers b new) (Reaches scene) scene.world scene.begins.stands.columns uses (block scene) r (argument p c) take.target take.sees (tells scene new) (λ u there. there) a read.word)
      (λ fine none. ends (argument p c) take.target refl a new read.word (variables_kept w (here scene) (body_on f locals f.next) r old new (free_of scene locals 0 take.count) variables read.wrote) none (take.fine fine))
      (λ rule broken. refused scene rule (at_registers b new) refl (take.refused rule broken)))
