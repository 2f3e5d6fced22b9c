-- `print(x);`
use Rattle.std.proofs.Common.{◌≡◌, ℕ, ◌<◌, length, inl, true, false, Option, Some, None, List, [], ◌∷◌, ◌++◌, pos, refl, ap, sym, ◌∙◌, subst, arith}
use Rattle.std.specs.Prelude.{ℤ, negsuc}
use Rattle.cxx_hierarchy.specs.declared.records.ClassId.{ClassId}
use Rattle.cxx_hierarchy.specs.declared.records.Scalar.{Scalar}
use Rattle.cxx_hierarchy.specs.declared.records.ValueType.{ValueType}
use Rattle.cxx_hierarchy.specs.declared.records.ValueType.TheVariants.{Number as NumberType, Pointer as PointerType}
use Rattle.cxx_hierarchy.specs.Classes.{Classes}
use Rattle.cxx_hierarchy.specs.Scalars.{IsInRange}
use Rattle.path_model.specs.declared.outs.Out.{Out}
use Rattle.path_model.specs.Rules.{is_unset}
use Rattle.agree_relation.specs.Agrees.{Agrees}
use Rattle.byte_machine.specs.Leads.{LeadsBlock}
use Rattle.code_blocks.specs.Blocks.{statement_ops}
use Rattle.code_ops.specs.Arguments.{free}
use Rattle.code_ops.specs.Operands.{operand_register}
use Rattle.code_ops.specs.Setups.{register_width}
use Rattle.code_ops.specs.Uses.{reads}
use Rattle.code_statements.specs.Statements.{print_as, operand_print, written_width}
use Rattle.agree_statements.proofs.Tests.{unbroken}
use Rattle.agree_statements.proofs.Told.{part_lies}
use Rattle.agree_statements.specs.Registers.{body_on}
use Rattle.cxx_program.specs.declared.operand.TypedOperand.{TypedOperand}
use Rattle.cxx_program.specs.declared.operand.TypedOperand.TheVariants.{Variable as VariableOperand, This, Number as NumberOperand}
use Rattle.cxx_program.specs.declared.statement.TypedKind.TheVariants.{Print}
use Rattle.cxx_program.specs.declared.statement.TypedStatement.{TypedStatement}
use Rattle.cxx_program.specs.Typed.{Scope, HasType, of_variable, of_number, IsTyped, prints}
use Rattle.path_rules.specs.declared.Undefined.TheVariants.{Unset as UnsetUse}
use Rattle.path_model.specs.declared.outs.Out.TheVariants.{Number as NumberOut, Pointer as PointerOut}
use Rattle.path_model.specs.Values.{Value, Unset, Number, Null, Pointer, Sight, value_of_operand}
use Rattle.path_model.specs.Uses.{StatementUse, Reads}
use Rattle.path_model.specs.Outs.{location_of}
use Rattle.path_model.specs.States.{sight}
use Rattle.path_model.specs.Effects.{telling, value_out}
use Rattle.path_model.specs.TypedStates.{IsValue}
use Rattle.path_model.specs.Runs.{move_by}
use Rattle.path_model.proofs.TypedValues.{operand_typed}
use Rattle.byte_machine.specs.Frames.{register_of}
use Rattle.byte_code.specs.declared.width.Width.{Width}
use Rattle.byte_code.specs.declared.op.Op.TheVariants.{Print as PrintOp, Jump}
use Rattle.byte_code.specs.declared.op.PrintAs.{PrintAs}
use Rattle.byte_code.specs.declared.op.PrintAs.TheVariants.{Number as AsNumber, Address as AsAddress}
use Rattle.byte_code.specs.Numbers.{word_of, number_of_word}
use Rattle.byte_machine.specs.declared.turn.RawOut.{RawOut}
use Rattle.byte_machine.specs.declared.turn.RawOut.TheVariants.{Number as RawNumber, Address as RawAddress}
use Rattle.byte_machine.specs.Running.{Running, Stop}
use Rattle.byte_machine.specs.Leads.{OpsLead}
use Rattle.byte_machine.proofs.Leads.{leads_end}
use Rattle.byte_machine.proofs.ValueLeads.{leads_print_number, leads_print_address}
use Rattle.byte_machine.proofs.ControlLeads.{leads_jump}
use Rattle.agree_parts.specs.Heaps.{Heap}
use Rattle.agree_parts.specs.Addresses.{address}
use Rattle.agree_relation.specs.Worlds.{world_classes, places_in, fixed}
use Rattle.agree_relation.specs.Words.{register_word}
use Rattle.agree_relation.specs.Frames.{HasVariables}
use Rattle.agree_relation.specs.Agrees.{ReadAs}
use Rattle.agree_statements.specs.Registers.{at_registers}
use Rattle.agree_statements.proofs.Numbers.{register_read, written_read}
use Rattle.agree_statements.proofs.Registers.{variables_kept, variables_on}
use Rattle.agree_statements.proofs.Operands.{leads_operand}
use Rattle.agree_statements.proofs.Tests.{leads_checks}
use Rattle.agree_statements.proofs.Useds.{along_reads}
use Rattle.agree_statements.proofs.After.{state_on}
use Rattle.agree_statements.proofs.Moves.{move_in, move_fine, move_refused}
use Rattle.agree_statements.proofs.Scenes.{Scene, top, here, scope, block, kind_typed, sees, variables, is_free, has_free}
use Rattle.agree_statements.proofs.Finish.{Reaches, to_next, ended, refused, finished}

-- the width in which a number operand is printed
record PrintsNumber (e : Scope) (x : TypedOperand) (z : ℤ) : Type 0 where
  width : Width
  is : operand_print e x ≡ AsNumber width
  some : 0 < width.bytes
  narrow : width.bytes < 9
  read : number_of_word width (word_of z) ≡ z

print_number : (see : Sight) (e : Scope) (x : TypedOperand) (t : Scalar) (z : ℤ) → HasType e x (NumberType t) → value_of_operand see x ≡ Number z → IsInRange t z → PrintsNumber e x z
print_number see e (VariableOperand x) t z (of_variable _ _ there) is range =
    record { width = register_width t; is = ap print_as there; some = omega arith; narrow = omega arith; read = register_read t z range }
print_number see e This t z has is range = elim has [ ]
print_number see e (NumberOperand y) t z (of_number _ _ _) is range =
    let same : y ≡ z = cc in
    record { width = written_width y; is = refl; some = wide y; narrow = small y; read = subst (λ (u : ℤ). number_of_word (written_width y) (word_of u) ≡ u) same (written_read t y (subst (IsInRange t) (sym same) range)) }
  where
    wide : (u : ℤ) → 0 < (written_width u).bytes
    wide (pos a) = omega arith
    wide (negsuc a) = omega arith

    small : (u : ℤ) → (written_width u).bytes < 9
    small (pos a) = omega arith
    small (negsuc a) = omega arith

print_pointer : (e : Scope) (x : TypedOperand) (c : ClassId) → HasType e x (PointerType c) → operand_print e x ≡ AsAddress
print_pointer e (VariableOperand x) c (of_variable _ _ there) = ap print_as there
print_pointer e This c has = refl
print_pointer e (NumberOperand z) c has = elim has [ ]

print_typed : (h : Classes) (e : Scope) (x : TypedOperand) → IsTyped h e (Print x) → (t : ValueType ClassId) × HasType e x t
print_typed h e x (prints _ t has) = (t, has)

module _ (x : TypedOperand) (line next : ℕ) (scene : Scene (record { kind = Print x; line = line; next = next })) where
  open scene use {w, at, s, f, below, body, b}

  abbrev print : TypedStatement
  print = record { kind = Print x; line = line; next = next }

  abbrev g : Heap
  g = here scene

  abbrev v : Value
  v = value_of_operand (sight s f) x

  abbrev P : Running → Stop → Type 0
  P = Reaches scene

  abbrev r : ℕ
  r = operand_register (free (block scene) 0) x

  abbrev to : ℕ
  to = to_next scene next

  abbrev uses : List StatementUse
  uses = Reads v ∷ []

  -- what was told is the value
  ends : (raw : RawOut) (out : Out) (new : List (Option ℕ)) → HasVariables w g f new → move_in w s ≡ move_by (telling (state_on s s.objects s.globals (body_on f f.locals next) below) (Some out)) None → ReadAs w at g (raw ∷ []) (out ∷ []) →
      OpsLead (fixed w) (Jump to ∷ []) (ended b b.memory b.globals new (b.outs ++ raw ∷ [])) P
  ends raw out new variables_there moves same =
      let told : ReadAs w at g (b.outs ++ raw ∷ []) (out ∷ []) = subst (λ (o : List RawOut). ReadAs w at g (o ++ raw ∷ []) (out ∷ [])) (sym scene.begins.silent) same in
      leads_jump (fixed w) to (leads_end (fixed w)
      (finished scene s.objects b.memory s.globals b.globals f.locals next new (b.outs ++ raw ∷ []) (out ∷ []) (record { classes = refl; phases = refl }) refl scene.begins.stands.columns scene.begins.stands.globals (variables_on w g f next new variables_there) told moves))

  -- by what the operand has
  by_value : (value_is : Value) (t : ValueType ClassId) (new : List (Option ℕ)) → v ≡ value_is → HasType (scope scene) x t → IsValue (world_classes w) s.objects.classes value_is t → register_of new r ≡ register_word w g value_is → is_unset value_is ≡ false → HasVariables w g f new
      → move_in w s ≡ move_by (telling (state_on s s.objects s.globals (body_on f f.locals next) below) (value_out s.objects v)) None →
      OpsLead (fixed w) (PrintOp r (operand_print (scope scene) x) ∷ Jump to ∷ []) (at_registers b new) P
  by_value Unset t new is has typed word set variables_there moves = absurd (let f' : true ≡ false = set in cc)
  by_value (Number z) (PointerType c) new is has typed word set variables_there moves = absurd typed
  by_value (Number z) (NumberType t) new is has typed word set variables_there moves =
      let p = print_number (sight s f) (scope scene) x t z has is typed in
      subst (λ (a : PrintAs). OpsLead (fixed w) (PrintOp r a ∷ Jump to ∷ []) (at_registers b new) P) (sym p.is)
      (leads_print_number (fixed w) r (word_of z) p.width word p.some p.narrow
      (ends (RawNumber (number_of_word p.width (word_of z))) (NumberOut z) new variables_there (moves ∙ ap (λ (u : Value). move_by (telling (state_on s s.objects s.globals (body_on f f.locals next) below) (value_out s.objects u)) None) is) (p.read, tt)))
  by_value Null (NumberType t) new is has typed word set variables_there moves = absurd typed
  by_value Null (PointerType c) new is has typed word set variables_there moves =
      subst (λ (a : PrintAs). OpsLead (fixed w) (PrintOp r a ∷ Jump to ∷ []) (at_registers b new) P) (sym (print_pointer (scope scene) x c has))
      (leads_print_address (fixed w) r 0 word
      (ends (RawAddress 0) (PointerOut None) new variables_there (moves ∙ ap (λ (u : Value). move_by (telling (state_on s s.objects s.globals (body_on f f.locals next) below) (value_out s.objects u)) None) is) (refl, tt)))
  by_value (Pointer p) (NumberType t) new is has typed word set variables_there moves = absurd typed
  by_value (Pointer p) (PointerType c) new is has typed word set variables_there moves =
      subst (λ (a : PrintAs). OpsLead (fixed w) (PrintOp r a ∷ Jump to ∷ []) (at_registers b new) P) (sym (print_pointer (scope scene) x c has))
      (leads_print_address (fixed w) r (address (world_classes w) (places_in w) g p) word
      (ends (RawAddress (address (world_classes w) (places_in w) g p)) (PointerOut (Some (location_of s.objects p))) new variables_there
      (moves ∙ ap (λ (u : Value). move_by (telling (state_on s s.objects s.globals (body_on f f.locals next) below) (value_out s.objects u)) None) is) (part_lies w s.objects b.memory.regions p c typed, tt)))

  pub print_does : LeadsBlock (fixed w) (statement_ops w.setup at (top scene).on.routine body f.next print) b (Agrees w at (move_in w s))
  print_does =
      let e = scope scene in
      let typed = print_typed (world_classes w) e x (kind_typed scene) in
      let value_typed = operand_typed (world_classes w) e (sight s f) (sees scene) x typed.0 typed.1 in
      let stands = variables scene in
      let inside : free (block scene) 0 < length b.top.registers = subst (λ (n : ℕ). free (block scene) 0 < n) (sym stands.size) (has_free scene 0 (omega arith)) in
      leads_operand (fixed w) w g s f e b x typed.0 (free (block scene) 0) b.top.registers (sees scene) scene.begins.stands.globals stands typed.1 inside
      (λ new read. leads_checks (fixed w) (at_registers b new) P (world_classes w) s.objects uses (reads e (free (block scene) 0) x)
      (along_reads w (sight s f) (at_registers b new) P scene.world scene.begins.stands.columns uses e (free (block scene) 0) x typed.0 (sees scene) typed.1 read.word)
      (λ fine none. by_value v typed.0 new refl typed.1 value_typed read.word (unbroken (fixed w) (at_registers b new) P (world_classes w) s.objects uses (Reads v) UnsetUse (none UnsetUse) (inl refl))
      (variables_kept w g f (free (block scene) 0) b.top.registers new (is_free scene 0) stands read.wrote)
      (move_fine w s f below body print scene.world scene.next tt fine refl))
      (λ rule broken. refused scene rule (at_registers b new) refl (move_refused w s f below body print scene.world scene.next rule tt broken)))
