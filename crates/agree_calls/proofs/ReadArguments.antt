-- The arguments of a call are read into registers of their own.
use Rattle.code_ops.specs.Arguments.{Block, argument_read, arguments_front, block_in, free}
use Rattle.code_ops.specs.Operands.{operand_ops, operand_register}
use Rattle.agree_parts.specs.Heaps.{Heap}
use Rattle.agree_relation.specs.Frames.{HasVariables}
use Rattle.agree_relation.specs.Words.{register_word}
use Rattle.agree_relation.specs.Worlds.{World, world_classes}
use Rattle.agree_statements.proofs.OperandRight.{argument_type}
use Rattle.agree_statements.proofs.Operands.{HasGlobals, leads_operand, operand_apart}
use Rattle.agree_statements.proofs.Registers.{leads_grouped, variables_kept}
use Rattle.agree_statements.specs.Registers.{at_registers}
use Rattle.byte_code.specs.declared.op.Op.{Op}
use Rattle.byte_machine.specs.Leads.{OpsLead}
use Rattle.byte_machine.specs.Running.{Fixed, Running, Stop}
use Rattle.byte_machine.specs.Frames.{register_of}
use Rattle.cxx_program.specs.Typed.{IsArgument, Scope, Types, scope_of}
use Rattle.cxx_program.specs.declared.operand.Argument.{Argument}
use Rattle.cxx_program.specs.declared.program.TypedBody.{TypedBody}
use Rattle.path_model.proofs.TypedValues.{IsTypedSight}
use Rattle.path_model.specs.States.{RunningBody as Body, ProgramState, sight}
use Rattle.path_model.specs.Values.{Sight, value_of_operand}
use Rattle.std.proofs.Common.{◌≡◌, ℕ, suc, ◌+◌, ◌*◌, ◌≤◌, Option, List, [], ◌∷◌, ◌++◌, length, refl, ◌∙◌, arith}
use Rattle.std.specs.List.{AllZip}

-- each argument stands in the register into which it was read
abbrev pub AreHeld : World → Heap → Block → Sight → ℕ → List Argument → List (Option ℕ) → Type 0
AreHeld w g k see n [] words = Unit {0}
AreHeld w g k see n (a ∷ more) words = (register_of words (operand_register (argument_read k n) a.operand) ≡ register_word w g (value_of_operand see a.operand)) × AreHeld w g k see (suc n) more words

-- no other registers were written but those of the arguments from n on
pub record ReadFrom (k : Block) (n : ℕ) (old new : List (Option ℕ)) : Type 0 where
  pub size : length new ≡ length old
  pub other : (q : ℕ) → ((m : ℕ) → n ≤ m → q ≡ argument_read k m → ⊥) → register_of new q ≡ register_of old q

module _ (fx : Fixed) (w : World) (g : Heap) (s : ProgramState) (f : Body) (body : TypedBody) (b : Running) (P : Running → Stop → Type 0) (sees : IsTypedSight (world_classes w) (scope_of (world_classes w) w.setup.program.globals body) (sight s f)) (globals : HasGlobals w g s.globals b) (count : length f.locals ≡ length body.locals) where
  abbrev k : Block
  k = block_in w.setup body

  abbrev e : Scope
  e = scope_of (world_classes w) w.setup.program.globals body

  pub leads_arguments_front : (n : ℕ) (arguments : List Argument) (types : Types) (old : List (Option ℕ)) {ops : List Op} → AllZip (IsArgument (world_classes w) (scope_of (world_classes w) w.setup.program.globals body)) arguments types → HasVariables w g f old
      → free (block_in w.setup body) (6 + 2 * (n + length arguments)) ≤ length old + 1
      → ((new : List (Option ℕ)) → ReadFrom (block_in w.setup body) n old new → HasVariables w g f new → AreHeld w g (block_in w.setup body) (sight s f) n arguments new → OpsLead fx ops (at_registers b new) P)
      → OpsLead fx (arguments_front (block_in w.setup body) n arguments ++ ops) (at_registers b old) P
  leads_arguments_front n [] types old typed variables room rest = rest old (record { size = refl; other = λ q apart. refl }) variables tt
  leads_arguments_front n (a ∷ more) [] old typed variables room rest = absurd typed
  leads_arguments_front n (a ∷ more) (t ∷ types) old {ops} typed variables room rest =
      let r = argument_read k n in
      let has = argument_type (world_classes w) e a t typed.0 in
      leads_grouped fx (operand_ops r a.operand) (arguments_front k (suc n) more) ops
      (leads_operand fx w g s f e b a.operand has.0 r old sees globals variables has.1 (omega (arith, room))
      (λ mid read. let size = read.wrote.size in
      leads_arguments_front (suc n) more types mid typed.1 (variables_kept w g f r old mid (omega (arith, count)) variables read.wrote) (omega (arith, room, size))
      (λ new further kept held. rest new
      (record { size = further.size ∙ read.wrote.size; other = λ q apart. further.other q (λ m less is. apart m (omega (arith, less)) is) ∙ read.wrote.other q (λ is. apart n (omega arith) is) })
      kept
      (further.other (operand_register r a.operand) (λ m less is. operand_apart w s f e a.operand has.0 r (argument_read k m) sees has.1 (omega (arith, count)) (λ same. absurd (omega (arith, less, same))) is) ∙ read.word, held))))
