-- The arguments of a call, each read into a register, are converted into others.
use Rattle.std.proofs.Common.{◌≡◌, ℕ, suc, ◌+◌, ◌*◌, ◌<◌, ◌≤◌, false, Option, List, [], ◌∷◌, ◌++◌, length, map, refl, ap, sym, subst, ◌∙◌, arith}
use Rattle.agree_calls.proofs.Conversions.{leads_argument}
use Rattle.agree_calls.specs.Shown.{NamesOpen, ShowsViews}
use Rattle.code_ops.specs.Arguments.{block_in, Block, argument_converted, argument_ops, argument_read, arguments_ops, arguments_registers, free}
use Rattle.code_ops.specs.Operands.{operand_register, ops_of}
use Rattle.agree_relation.specs.Columns.{ColumnsStand}
use Rattle.agree_relation.specs.Words.{heap_of, register_word}
use Rattle.agree_relation.specs.Worlds.{IsProgramWorld, World, world_classes, fixed}
use Rattle.agree_statements.specs.Registers.{Wrote, at_registers}
use Rattle.byte_code.specs.declared.op.Op.{Op}
use Rattle.byte_code.specs.declared.op.Op.TheVariants.{Does}
use Rattle.byte_machine.specs.Leads.{OpsLead}
use Rattle.byte_machine.specs.Running.{Running, Stop}
use Rattle.byte_machine.specs.Frames.{register_of}
use Rattle.cxx_hierarchy.specs.declared.records.ClassId.{ClassId}
use Rattle.cxx_hierarchy.specs.declared.records.ValueType.{ValueType}
use Rattle.cxx_program.specs.Typed.{HasType, IsArgument, Scope, Types, a_null, a_value, of_variable, scope_of, variable_type}
use Rattle.cxx_program.specs.declared.operand.Argument.{Argument}
use Rattle.cxx_program.specs.declared.operand.TypedOperand.{TypedOperand}
use Rattle.cxx_program.specs.declared.operand.TypedOperand.TheVariants.{Number as NumberOperand, This, Variable as VariableOperand}
use Rattle.cxx_program.specs.declared.operand.Variable.TheVariants.{Global, Local}
use Rattle.cxx_program.specs.declared.program.TypedBody.{TypedBody}
use Rattle.path_model.specs.Rules.{is_broken}
use Rattle.path_model.proofs.TypedValues.{IsTypedSight}
use Rattle.path_model.specs.Uses.{convert}
use Rattle.path_model.specs.Values.{Objects, Sight, Value, argument_value, value_of_operand}
use Rattle.path_rules.specs.declared.Undefined.{Undefined}
use Rattle.std.proofs.lemmas.List.{append_assoc, map-append}
use Rattle.std.proofs.lemmas.Option.{slice_get_within}
use Rattle.std.specs.List.{AllZip}

module _ (w : World) (s : Objects) (b : Running) (P : Running → Stop → Type 0) (world : IsProgramWorld w) (columns : ColumnsStand w s b.memory b.objects b.heap b.notes) (shows : ShowsViews w s b.memory) (body : TypedBody) (see : Sight) (same_objects : see.objects ≡ s)
    (sees : IsTypedSight (world_classes w) (scope_of (world_classes w) w.setup.program.globals body) see) where
  abbrev k : Block
  k = block_in w.setup body

  abbrev pub WordOf : Value → Option ℕ
  WordOf v = register_word w (heap_of s.classes b.memory.regions) v

  -- each argument stands in the register into which it was read
  abbrev pub AreRead : ℕ → List Argument → List (Option ℕ) → Type 0
  AreRead n [] words = Unit {0}
  AreRead n (a ∷ more) words = (register_of words (operand_register (argument_read (block_in w.setup body) n) a.operand) ≡ WordOf (value_of_operand see a.operand)) × AreRead (suc n) more words

  -- and its value in the one into which it was converted
  abbrev pub AreConverted : ℕ → List Argument → List (Option ℕ) → Type 0
  AreConverted n [] words = Unit {0}
  AreConverted n (a ∷ more) words = (register_of words (argument_converted (block_in w.setup body) n) ≡ WordOf (argument_value see a)) × AreConverted (suc n) more words

  -- no rule refuses a conversion
  abbrev pub AreFine : List Argument → Type 0
  AreFine [] = Unit {0}
  AreFine (a ∷ more) = (NamesOpen s (value_of_operand see a.operand) × ((r : Undefined) → is_broken (world_classes w) s (convert (value_of_operand see a.operand) a.conversion) r ≡ false)) × AreFine more

  -- the registers of later arguments alone were written
  pub record WroteFrom (n : ℕ) (old new : List (Option ℕ)) : Type 0 where
    pub size : length new ≡ length old
    pub other : (q : ℕ) → ((m : ℕ) → n ≤ m → q ≡ argument_converted (block_in w.setup body) m → ⊥) → register_of new q ≡ register_of old q

  -- an operand is in none of them
  operand_apart : (e : Scope) (x : TypedOperand) (t : ValueType ClassId) (n m : ℕ) → e ≡ scope_of (world_classes w) w.setup.program.globals body → HasType e x t → operand_register (argument_read (block_in w.setup body) n) x ≡ argument_converted (block_in w.setup body) m → ⊥
  operand_apart e (VariableOperand (Global i)) t n m same has is = absurd (omega arith)
  operand_apart e (VariableOperand (Local i)) t n m same (of_variable _ _ there) is =
      let inside : i < length body.locals = slice_get_within body.locals i t (ap (λ (x : Scope). variable_type x (Local i)) (sym same) ∙ there) in absurd (omega (arith, inside, is))
  operand_apart e This t n m same has is = absurd (omega (arith, is))
  operand_apart e (NumberOperand z) t n m same has is = absurd (omega (arith, is))

  argument_apart : (a : Argument) (t : ValueType ClassId) (n m : ℕ) → IsArgument (world_classes w) (scope_of (world_classes w) w.setup.program.globals body) a t → operand_register (argument_read (block_in w.setup body) n) a.operand ≡ argument_converted (block_in w.setup body) m → ⊥
  argument_apart _ _ n m (a_value a of t has converts_it) is = operand_apart (scope_of (world_classes w) w.setup.program.globals body) a.operand of n m refl has is
  argument_apart _ _ n m (a_null d) is = absurd (omega (arith, is))

  read_still : (n m : ℕ) (more : List Argument) (types : Types) (old new : List (Option ℕ)) → AllZip (IsArgument (world_classes w) (scope_of (world_classes w) w.setup.program.globals body)) more types → Wrote (argument_converted (block_in w.setup body) m) old new → AreRead n more old → AreRead n more new
  read_still n m [] types old new typed wrote reads_there = tt
  read_still n m (a ∷ more) [] old new typed wrote reads_there = absurd typed
  read_still n m (a ∷ more) (t ∷ types) old new typed wrote reads_there =
      (wrote.other (operand_register (argument_read (block_in w.setup body) n) a.operand) (λ e. argument_apart a t n m typed.0 e) ∙ reads_there.0, read_still (suc n) m more types old new typed.1 wrote reads_there.1)

  pub leads_arguments : (n : ℕ) (arguments : List Argument) (types : Types) (old : List (Option ℕ)) {ops : List Op} → AllZip (IsArgument (world_classes w) (scope_of (world_classes w) w.setup.program.globals body)) arguments types
      → AreRead n arguments old → AreFine arguments → free (block_in w.setup body) (6 + 2 * (n + length arguments)) ≤ length old + 1
      → ((new : List (Option ℕ)) → WroteFrom n old new → AreConverted n arguments new → OpsLead (fixed w) ops (at_registers b new) P)
      → OpsLead (fixed w) (ops_of (arguments_ops (block_in w.setup body) n arguments) ++ ops) (at_registers b old) P
  leads_arguments n [] types old typed reads_there fine room rest = rest old (record { size = refl; other = λ q apart. refl }) tt
  leads_arguments n (a ∷ more) [] old typed reads_there fine room rest = absurd typed
  leads_arguments n (a ∷ more) (t ∷ types) old {ops} typed reads_there fine room rest =
      let here_ops = argument_ops (block_in w.setup body) a (argument_converted (block_in w.setup body) n) (argument_read (block_in w.setup body) n) in
      let later = arguments_ops (block_in w.setup body) (suc n) more in
      let parts : ops_of (here_ops ++ later) ++ ops ≡ ops_of here_ops ++ (ops_of later ++ ops) = ap (λ (front : List Op). front ++ ops) (map-append Does here_ops later) ∙ append_assoc (ops_of here_ops) (ops_of later) ops in
      subst (λ (list : List Op). OpsLead (fixed w) list (at_registers b old) P) (sym parts)
      (leads_argument w s b P world columns shows (block_in w.setup body) see a t (argument_converted (block_in w.setup body) n) (argument_read (block_in w.setup body) n) old refl same_objects sees typed.0 reads_there.0 (omega (arith, room)) fine.0.0 fine.0.1
      (λ new wrote is. let size = wrote.size in
      leads_arguments (suc n) more types new typed.1 (read_still (suc n) n more types old new typed.1 wrote reads_there.1) fine.1 (omega (arith, room, size))
      (λ last wrote_last done. rest last
      (record { size = wrote_last.size ∙ wrote.size; other = λ q apart. wrote_last.other q (λ m less e. apart m (omega (arith, less)) e) ∙ wrote.other q (λ e. apart n (omega arith) e) })
      (wrote_last.other (argument_converted (block_in w.setup body) n) (λ m less e. absurd (omega (arith, less, e))) ∙ is, done))))

  -- the words that a call passes
  pub passed_words : (n : ℕ) (arguments : List Argument) (words : List (Option ℕ)) → AreConverted n arguments words → map (λ (r : ℕ). register_of words r) (arguments_registers (block_in w.setup body) n arguments) ≡ map (register_word w (heap_of s.classes b.memory.regions)) (map (argument_value see) arguments)
  passed_words n [] words are = refl
  passed_words n (a ∷ more) words are = ap (λ (x : Option ℕ). x ∷ map (λ (r : ℕ). register_of words r) (arguments_registers (block_in w.setup body) (suc n) more)) are.0 ∙ ap (λ (xs : List (Option ℕ)). WordOf (argument_value see a) ∷ xs) (passed_words (suc n) more words are.1)
