-- A value in a register is converted, and first tested.
use Rattle.std.proofs.Common.{◌≡◌, ℕ, ◌<◌, true, false, Option, Some, List, [], ◌∷◌, ◌++◌, length, refl, sym, subst, inl, inr}
use Rattle.agree_calls.proofs.Bases.{AfterSet}
use Rattle.agree_calls.specs.Shown.{ShowsViews, NamesOpen}
use Rattle.code_ops.specs.Arguments.{Block, argument_ops}
use Rattle.code_ops.specs.Operands.{converted_ops, operand_class, operand_register, ops_of, pointed}
use Rattle.code_ops.specs.Setups.{Setup}
use Rattle.code_ops.specs.Uses.{check_ops, convert_used}
use Rattle.agree_parts.specs.Heaps.{Heap}
use Rattle.agree_relation.specs.Columns.{ColumnsStand}
use Rattle.agree_relation.specs.Words.{heap_of, register_word}
use Rattle.agree_relation.specs.Worlds.{IsProgramWorld, World, world_classes, fixed}
use Rattle.agree_statements.proofs.ArgumentLeads.{leads_argument_sure}
use Rattle.agree_statements.proofs.Conversions.{IsSure, leads_converted as converted_leads}
use Rattle.agree_statements.proofs.Tests.{leads_checks, unbroken}
use Rattle.agree_statements.proofs.Useds.{TellsViews, along_convert, shared_dynamic}
use Rattle.agree_statements.specs.Registers.{at_registers}
use Rattle.byte_code.specs.declared.op.Op.{Op}
use Rattle.byte_machine.specs.Leads.{OpsLead}
use Rattle.byte_machine.specs.Running.{Answers, Running, Stop}
use Rattle.byte_machine.specs.declared.turn.MachineTurn.TheVariants.{Refused}
use Rattle.byte_machine.specs.Frames.{register_of}
use Rattle.cxx_hierarchy.specs.declared.records.ClassId.{ClassId}
use Rattle.cxx_hierarchy.specs.declared.records.ValueType.{ValueType}
use Rattle.cxx_program.specs.Typed.{Converts, IsArgument}
use Rattle.cxx_program.specs.declared.operand.Argument.{Argument}
use Rattle.cxx_program.specs.declared.operand.Conversion.{Conversion}
use Rattle.cxx_program.specs.declared.operand.Conversion.TheVariants.{Base as ToBase}
use Rattle.cxx_subobject.proofs.VirtualBaseLemmas.{shared_is}
use Rattle.cxx_subobject.specs.declared.Subobject.{Subobject}
use Rattle.path_model.proofs.TypedValues.{IsTypedSight, operand_typed}
use Rattle.path_model.specs.Order.{first_broken, sorted}
use Rattle.path_model.specs.Rules.{is_broken, is_outside, is_unready, names}
use Rattle.path_model.specs.TypedStates.{IsValue}
use Rattle.path_model.specs.Uses.{Guards, StatementUse, Views, convert, is_shared, uses_of_view}
use Rattle.path_model.specs.Values.{Objects, Sight, Unset, Value, argument_value, converted_to, value_of_operand}
use Rattle.path_rules.specs.Rules.{undefined_no}
use Rattle.path_rules.specs.declared.Undefined.{Undefined}
use Rattle.path_rules.specs.declared.Undefined.TheVariants.{NotReady, OutsideView}

module _ (w : World) (s : Objects) (b : Running) (P : Running → Stop → Type 0) (world : IsProgramWorld w) (columns : ColumnsStand w s b.memory b.objects b.heap b.notes) (shows : ShowsViews w s b.memory) where
  abbrev g : Heap
  g = heap_of s.classes b.memory.regions

  abbrev pub Holds : List (Option ℕ) → ℕ → Value → Type 0
  Holds words r v = register_of words r ≡ register_word w (heap_of s.classes b.memory.regions) v

  abbrev pub Next : (to : ℕ) (old : List (Option ℕ)) → Value → List Op → Type 0
  Next to old v ops = AfterSet w s b P world columns shows to old v ops

  -- no rule refuses the conversion
  abbrev pub IsFineFor : Value → Conversion → Type 0
  IsFineFor v c = (r : Undefined) → is_broken (world_classes w) s (convert v c) r ≡ false

  unguarded : (v : Value) (rest : List StatementUse) → is_broken (world_classes w) s (Guards v ∷ rest) NotReady ≡ false → names (is_unready s) v ≡ false
  unguarded v rest e = unbroken (fixed w) b P (world_classes w) s (Guards v ∷ rest) (Guards v) NotReady e (inl refl)

  unviewed : (v : Value) (i : Subobject) → is_broken (world_classes w) s (convert v (ToBase i)) OutsideView ≡ false → is_shared i ≡ true → names (is_outside (world_classes w) s) v ≡ false
  unviewed v i e shared_is =
      let with_view : is_broken (world_classes w) s (Guards v ∷ uses_of_view true v) OutsideView ≡ false = subst (λ x. is_broken (world_classes w) s (Guards v ∷ uses_of_view x v) OutsideView ≡ false) shared_is e in
      unbroken (fixed w) b P (world_classes w) s (Guards v ∷ Views v ∷ []) (Views v) OutsideView with_view (inr (inl refl))

  -- its pointer is then sure to be moved well
  fine_sure : (v : Value) (c : Conversion) → NamesOpen s v → IsFineFor v c → IsSure w s b v c
  fine_sure v c unclosed fine p k i is base through made valid =
      let fine_base : IsFineFor v (ToBase i) = subst (λ (x : Conversion). IsFineFor v x) base fine in
      shows.of p k made (subst (λ (x : Value). NamesOpen s x) is unclosed) (subst (λ (x : Value). names (is_unready s) x ≡ false) is (unguarded v (uses_of_view (is_shared i) v) (fine_base NotReady)))
      (subst (λ (x : Value). names (is_outside (world_classes w) s) x ≡ false) is (unviewed v i (fine_base OutsideView) through)) (shared_dynamic (world_classes w) k i valid through)

  -- a value of a type becomes one of another
  pub leads_converted : (of t : ValueType ClassId) (c : Conversion) (to from : ℕ) (v : Value) (old : List (Option ℕ)) {ops : List Op} → Converts (world_classes w) of c t → IsValue (world_classes w) s.classes v of → Holds old from v → to < length old → NamesOpen s v → IsFineFor v c → Next to old (converted_to v c) ops
      → OpsLead (fixed w) (ops_of (converted_ops w.setup (pointed of) c to from) ++ ops) (at_registers b old) P
  leads_converted of t c to from v old converts typed e inside unclosed fine rest = converted_leads w s b world columns P v of t c to from old converts (fine_sure v c unclosed fine) typed e inside rest

  -- an argument that was read
  pub leads_argument : (block : Block) (see : Sight) (a : Argument) (t : ValueType ClassId) (to r : ℕ) (old : List (Option ℕ)) {ops : List Op} → block.x ≡ w.setup → see.objects ≡ s → IsTypedSight (world_classes w) block.scope see → IsArgument (world_classes w) block.scope a t → Holds old (operand_register r a.operand) (value_of_operand see a.operand) → to < length old
      → NamesOpen s (value_of_operand see a.operand) → IsFineFor (value_of_operand see a.operand) a.conversion → Next to old (argument_value see a) ops → OpsLead (fixed w) (ops_of (argument_ops block a to r) ++ ops) (at_registers b old) P
  leads_argument block see a t to r old {ops} same objects sees typed e inside unclosed fine rest =
      subst (λ (x : Setup). OpsLead (fixed w) (ops_of (converted_ops x (operand_class block.scope a.operand) a.conversion to (operand_register r a.operand)) ++ ops) (at_registers b old) P) (sym same)
      (leads_argument_sure w s b world columns P block.scope see a t to r old (λ u has. subst (λ (o : Objects). IsValue (world_classes w) o.classes (value_of_operand see a.operand) u) objects (operand_typed (world_classes w) block.scope see sees a.operand u has)) typed
      (fine_sure (value_of_operand see a.operand) a.conversion unclosed fine) e inside rest)

  -- a value that was just made is tested and converted
  pub leads_checked : (of t : ValueType ClassId) (c : Conversion) (to from : ℕ) (v : Value) (old : List (Option ℕ)) {ops : List Op} → ((words : List (Option ℕ)) → TellsViews w s (at_registers b words)) → Converts (world_classes w) of c t → IsValue (world_classes w) s.classes v of → Holds old from v → to < length old → NamesOpen s v
      → (IsFineFor v c → Next to old (converted_to v c) ops) → ((rule : Undefined) → first_broken (world_classes w) s (sorted (convert v c)) ≡ Some rule → P (at_registers b old) (Answers (Refused (undefined_no rule) b.line)))
      → OpsLead (fixed w) (check_ops (convert_used (pointed of) c from) ++ (ops_of (converted_ops w.setup (pointed of) c to from) ++ ops)) (at_registers b old) P
  leads_checked of t c to from v old {ops} tells converts typed e inside unclosed rest refused =
      leads_checks (fixed w) (at_registers b old) P (world_classes w) s (convert v c) (convert_used (pointed of) c from)
      (along_convert w (record { objects = s; globals = []; this = Unset; locals = [] }) (at_registers b old) P world columns (convert v c) from v of t c (tells old) (λ none. unclosed) (λ u there. there) converts typed e)
      (λ none fine. leads_converted of t c to from v old converts typed e inside unclosed fine (rest fine))
      refused
