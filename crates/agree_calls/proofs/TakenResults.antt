-- A result that stands in a register is tested, converted and given to a variable.
use Rattle.std.proofs.Common.{◌≡◌, ℕ, ◌<◌, false, Option, Some, None, List, [], ◌∷◌, ◌++◌, length, ap, sym, subst, ◌∙◌, slice_set}
use Rattle.agree_calls.proofs.Conversions.{leads_converted}
use Rattle.agree_calls.specs.Shown.{NamesOpen, ShowsViews}
use Rattle.code_ops.specs.Arguments.{Block, checked_taken, taken_ops}
use Rattle.code_ops.specs.Operands.{assign_op, converted_ops, ops_of, pointed}
use Rattle.code_ops.specs.Setups.{Setup, local_register}
use Rattle.code_ops.specs.Uses.{check_list, convert_used}
use Rattle.agree_relation.specs.Columns.{ColumnsStand}
use Rattle.agree_relation.specs.Words.{heap_of, register_word}
use Rattle.agree_relation.specs.Worlds.{IsProgramWorld, World, world_classes, fixed}
use Rattle.agree_statements.proofs.Tests.{leads_checks}
use Rattle.agree_statements.proofs.Useds.{TellsViews, along_convert}
use Rattle.agree_statements.specs.Registers.{Wrote, at_registers}
use Rattle.byte_code.specs.declared.op.Op.{Op}
use Rattle.byte_code.specs.declared.op.Op.TheVariants.{Does}
use Rattle.byte_machine.proofs.Leads.{leads_end}
use Rattle.byte_machine.proofs.ValueLeads.{leads_move, leads_write_global}
use Rattle.byte_machine.specs.Leads.{OpsLead}
use Rattle.byte_machine.specs.Running.{Answers, Fixed, Running, Stop}
use Rattle.byte_machine.specs.declared.turn.MachineTurn.TheVariants.{Refused, Went}
use Rattle.byte_machine.specs.Frames.{register_of}
use Rattle.cxx_hierarchy.specs.declared.records.ClassId.{ClassId}
use Rattle.cxx_hierarchy.specs.declared.records.ValueType.{ValueType}
use Rattle.cxx_program.specs.Typed.{Converts}
use Rattle.cxx_program.specs.declared.operand.Conversion.{Conversion}
use Rattle.cxx_program.specs.declared.operand.Variable.{Variable}
use Rattle.cxx_program.specs.declared.operand.Variable.TheVariants.{Global, Local}
use Rattle.path_model.specs.Order.{first_broken, sorted}
use Rattle.path_model.specs.Rules.{is_broken}
use Rattle.path_model.specs.TypedStates.{IsValue}
use Rattle.path_model.specs.Uses.{convert}
use Rattle.path_model.specs.Values.{Objects, Unset, Value, converted_to}
use Rattle.path_rules.specs.Rules.{undefined_no}
use Rattle.path_rules.specs.declared.Undefined.{Undefined}
use Rattle.std.proofs.lemmas.List.{map-append}

-- a variable with another word
abbrev pub variable_set : Running → List (Option ℕ) → Variable → Option ℕ → Running
variable_set b registers (Global n) word = record (at_registers b registers) { globals = slice_set b.globals n word }
variable_set b registers (Local n) word = at_registers b (slice_set registers (local_register n) word)

-- it has a place
abbrev pub HasPlace : Running → List (Option ℕ) → Variable → Type 0
HasPlace b registers (Global n) = n < length b.globals
HasPlace b registers (Local n) = local_register n < length registers

pub leads_assign : (fx : Fixed) (b : Running) (P : Running → Stop → Type 0) (variable : Variable) (from : ℕ) (registers : List (Option ℕ)) → HasPlace b registers variable → P (variable_set b registers variable (register_of registers from)) (Answers Went) → OpsLead fx (ops_of (assign_op variable from ∷ [])) (at_registers b registers) P
leads_assign fx b P (Global n) from registers inside rest = leads_write_global fx n from inside (leads_end fx rest)
leads_assign fx b P (Local n) from registers inside rest = leads_move fx (local_register n) from inside (leads_end fx rest)

module _ (w : World) (s : Objects) (b : Running) (P : Running → Stop → Type 0) (world : IsProgramWorld w) (columns : ColumnsStand w s b.memory b.objects b.heap b.notes) (shows : ShowsViews w s b.memory) where
  -- what follows once the variable has the value
  abbrev pub IsTaken : (to : ℕ) (old : List (Option ℕ)) → Variable → Value → Type 0
  IsTaken to old variable v = (new : List (Option ℕ)) → Wrote to old new → register_of new to ≡ register_word w (heap_of s.classes b.memory.regions) v → HasPlace b new variable × P (variable_set b new variable (register_of new to)) (Answers Went)

  two_parts : (block : Block) (variable : Variable) (class : Option ClassId) (c : Conversion) (to from : ℕ) → block.x ≡ w.setup → ops_of (taken_ops block variable class c to from) ≡ ops_of (converted_ops w.setup class c to from) ++ ops_of (assign_op variable to ∷ [])
  two_parts block variable class c to from same =
      ap (λ (x : Setup). ops_of (converted_ops x class c to from ++ (assign_op variable to ∷ []))) same ∙ map-append Does (converted_ops w.setup class c to from) (assign_op variable to ∷ [])

  -- without tests, where no rule can refuse it
  pub leads_taken : (block : Block) (variable : Variable) (of t : ValueType ClassId) (c : Conversion) (to from : ℕ) (v : Value) (old : List (Option ℕ)) → block.x ≡ w.setup → Converts (world_classes w) of c t → IsValue (world_classes w) s.classes v of
      → register_of old from ≡ register_word w (heap_of s.classes b.memory.regions) v → to < length old → NamesOpen s v → ((r : Undefined) → is_broken (world_classes w) s (convert v c) r ≡ false) → IsTaken to old variable (converted_to v c)
      → OpsLead (fixed w) (ops_of (taken_ops block variable (pointed of) c to from)) (at_registers b old) P
  leads_taken block variable of t c to from v old same_setup converts_it typed e inside unclosed fine rest =
      subst (λ (ops : List Op). OpsLead (fixed w) ops (at_registers b old) P) (sym (two_parts block variable (pointed of) c to from same_setup))
      (leads_converted w s b P world columns shows of t c to from v old converts_it typed e inside unclosed fine
      (λ new wrote is. let a = rest new wrote is in leads_assign (fixed w) b P variable to new a.0 a.1))

  -- with the tests of the conversion
  pub leads_checked_taken : (block : Block) (variable : Variable) (of t : ValueType ClassId) (c : Conversion) (to from : ℕ) (v : Value) (old : List (Option ℕ)) → block.x ≡ w.setup → ((words : List (Option ℕ)) → TellsViews w s (at_registers b words)) → Converts (world_classes w) of c t → IsValue (world_classes w) s.classes v of
      → register_of old from ≡ register_word w (heap_of s.classes b.memory.regions) v → to < length old → NamesOpen s v
      → (first_broken (world_classes w) s (sorted (convert v c)) ≡ None → IsTaken to old variable (converted_to v c)) → ((rule : Undefined) → first_broken (world_classes w) s (sorted (convert v c)) ≡ Some rule → P (at_registers b old) (Answers (Refused (undefined_no rule) b.line)))
      → OpsLead (fixed w) (ops_of (checked_taken block variable (pointed of) c to from)) (at_registers b old) P
  leads_checked_taken block variable of t c to from v old same_setup tells converts_it typed e inside unclosed goes refuses =
      subst (λ (ops : List Op). OpsLead (fixed w) ops (at_registers b old) P) (sym (map-append Does (check_list (convert_used (pointed of) c from)) (taken_ops block variable (pointed of) c to from)))
      (leads_checks (fixed w) (at_registers b old) P (world_classes w) s (convert v c) (convert_used (pointed of) c from)
      (along_convert w (record { objects = s; globals = []; this = Unset; locals = [] }) (at_registers b old) P world columns (convert v c) from v of t c (tells old) (λ none. unclosed) (λ u there. there) converts_it typed e)
      (λ none fine. leads_taken block variable of t c to from v old same_setup converts_it typed e inside unclosed fine (goes none))
      refuses)
