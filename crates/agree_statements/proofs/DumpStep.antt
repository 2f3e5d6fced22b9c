-- `dump(p);`
use Rattle.std.proofs.Common.{◌≡◌, ℕ, ◌+◌, false, Option, None, List, [], ◌∷◌, ◌++◌, inl, inr, refl, ap, ◌∙◌, arith}
use Rattle.std.specs.Prelude.{map}
use Rattle.cxx_hierarchy.specs.declared.records.ClassId.{ClassId}
use Rattle.cxx_hierarchy.specs.declared.records.ValueType.TheVariants.{Pointer as PointerType}
use Rattle.cxx_hierarchy.specs.Classes.{Classes}
use Rattle.cxx_program.specs.declared.operand.TypedOperand.{TypedOperand}
use Rattle.cxx_program.specs.declared.statement.TypedKind.TheVariants.{Dump}
use Rattle.cxx_program.specs.declared.statement.TypedStatement.{TypedStatement}
use Rattle.cxx_program.specs.Typed.{Scope, HasType, IsTyped, dumps}
use Rattle.path_plan.specs.Whole.{whole_part}
use Rattle.path_rules.specs.declared.Undefined.{Undefined}
use Rattle.path_rules.specs.declared.Undefined.TheVariants.{NullUse, Unset as UnsetUse, NotComplete}
use Rattle.path_rules.specs.Rules.{undefined_no}
use Rattle.path_model.specs.declared.outs.Out.TheVariants.{Dump as DumpOut}
use Rattle.path_model.specs.Values.{Value, Unset, Number, Null, Pointer, value_of_operand}
use Rattle.path_model.specs.Places.{leaves_of}
use Rattle.path_model.specs.Uses.{StatementUse, Reads, Follows, Dumps}
use Rattle.path_model.specs.Rules.{breaks, is_null, is_unset}
use Rattle.path_model.specs.Outs.{dump_leaf}
use Rattle.path_model.specs.States.{sight}
use Rattle.path_model.specs.Effects.{telling, dump_out, object_out}
use Rattle.path_model.specs.Runs.{move_by}
use Rattle.path_model.specs.TypedStates.{IsValue}
use Rattle.path_model.proofs.TypedValues.{operand_typed}
use Rattle.byte_machine.specs.Frames.{register_of}
use Rattle.byte_code.specs.declared.op.Op.TheVariants.{Dump as DumpOp, Jump}
use Rattle.byte_machine.specs.declared.turn.RawOut.TheVariants.{Dump as RawDump}
use Rattle.byte_machine.specs.Leads.{OpsLead, LeadsBlock}
use Rattle.byte_machine.proofs.ValueLeads.{leads_dump}
use Rattle.code_blocks.specs.Blocks.{statement_ops}
use Rattle.code_ops.specs.Arguments.{free}
use Rattle.code_ops.specs.Operands.{operand_register}
use Rattle.code_ops.specs.Uses.{checks_of, reads}
use Rattle.code_ops.specs.declared.uses.Used.TheVariants.{Follows as FollowsWord, Dumps as DumpsWord}
use Rattle.agree_parts.specs.Addresses.{address}
use Rattle.agree_parts.proofs.Inside.{part_inside}
use Rattle.agree_relation.specs.Worlds.{world_classes, places_in, fixed}
use Rattle.agree_relation.specs.Words.{register_word}
use Rattle.agree_relation.specs.Frames.{HasVariables}
use Rattle.agree_relation.specs.Agrees.{Agrees, IsDumpedAt}
use Rattle.agree_relation.proofs.Objects.{objects_laid}
use Rattle.agree_statements.specs.Registers.{at_registers, body_on}
use Rattle.agree_statements.specs.Tests.{Decide, IsTested, NoneBefore, nothing, tested}
use Rattle.agree_statements.proofs.Registers.{variables_kept}
use Rattle.agree_statements.proofs.Operands.{leads_operand}
use Rattle.agree_statements.proofs.Tests.{leads_checks, along_append, unbroken}
use Rattle.agree_statements.proofs.Useds.{along_reads, followed}
use Rattle.agree_statements.proofs.ObjectChecks.{decides_complete}
use Rattle.agree_statements.proofs.After.{state_on}
use Rattle.agree_statements.proofs.Moves.{move_in, move_fine, move_refused}
use Rattle.agree_statements.proofs.Scenes.{Scene, top, here, scope, block, kind_typed, sees, variables, is_free}
use Rattle.agree_statements.proofs.Finish.{Reaches, to_next, refused}
use Rattle.agree_statements.proofs.Rights.{free_in}
use Rattle.agree_statements.proofs.TypeSteps.{tells_out}

dump_typed : (h : Classes) (e : Scope) (x : TypedOperand) (c : ClassId) → IsTyped h e (Dump x c) → HasType e x (PointerType c)
dump_typed h e _ _ (dumps x c has) = has

module _ (x : TypedOperand) (c : ClassId) (line next : ℕ) (scene : Scene (record { kind = Dump x c; line = line; next = next })) where
  open scene use {w, at, s, f, below, body, b}

  abbrev dump : TypedStatement
  dump = record { kind = Dump x c; line = line; next = next }

  abbrev v : Value
  v = value_of_operand (sight s f) x

  abbrev from : ℕ
  from = operand_register (free (block scene) 0) x

  abbrev uses : List StatementUse
  uses = Reads v ∷ Follows v ∷ Dumps v ∷ []

  dumped : (new : List (Option ℕ)) → IsValue (world_classes w) s.objects.classes v (PointerType c) → register_of new from ≡ register_word w (here scene) v → IsTested (fixed w) (at_registers b new) (Reaches scene) (world_classes w) s.objects uses (Dumps v) (DumpsWord from)
  dumped new typed has = record { each = by_rule }
    where
      by_rule : (rule : Undefined) → NoneBefore (world_classes w) s.objects uses rule → Decide (fixed w) (at_registers b new) (Reaches scene) (undefined_no rule) (checks_of rule (DumpsWord from)) (breaks (world_classes w) s.objects rule (Dumps v))
      by_rule NotComplete before = decides_complete w s.objects (at_registers b new) (Reaches scene) scene.world scene.begins.stands.columns from v c typed has
      by_rule rule before = refl

  -- the heap object of the part is told
  tells_dump : (y : Value) (new : List (Option ℕ)) → IsValue (world_classes w) s.objects.classes y (PointerType c) → is_unset y ≡ false → is_null y ≡ false → HasVariables w (here scene) f new → register_of new from ≡ register_word w (here scene) y
      → move_in w s ≡ move_by (telling (state_on s s.objects s.globals (body_on f f.locals next) below) (dump_out (world_classes w) s.objects y)) None
      → OpsLead (fixed w) (DumpOp from ∷ Jump (to_next scene next) ∷ []) (at_registers b new) (Reaches scene)
  tells_dump Unset new typed set some kept has moves = absurd (cc)
  tells_dump (Number z) new typed set some kept has moves = absurd typed
  tells_dump Null new typed set some kept has moves = absurd (cc)
  tells_dump (Pointer p) new made set some kept has moves =
      let h = world_classes w in
      let g = here scene in
      let d = made.class in
      let there = address h (places_in w) g p in
      let laid = objects_laid w s.objects b.memory.regions b.objects b.heap scene.world scene.begins.stands.columns.objects in
      let at_object : IsDumpedAt w g (p.object + 1) d there = record { object = p.object; number_is = refl; class = made.made; inside = part_inside h w.setup.rows g p c laid made } in
      leads_dump (fixed w) from there has
      (tells_out scene (RawDump there) (DumpOut (p.object + 1) d (map (dump_leaf s.objects) (leaves_of h d (whole_part p.object d)))) next new kept
      (moves ∙ ap (λ (o : Option ClassId). move_by (telling (state_on s s.objects s.globals (body_on f f.locals next) below) (object_out h s.objects p.object o)) None) made.made) (at_object, tt))

  pub dump_does : LeadsBlock (fixed w) (statement_ops w.setup at (top scene).on.routine body f.next (record { kind = Dump x c; line = line; next = next })) b (Agrees w at (move_in w s))
  dump_does =
      let h = world_classes w in
      let e = scope scene in
      let r = free (block scene) 0 in
      let has = dump_typed h e x c (kind_typed scene) in
      let typed = operand_typed h e (sight s f) (sees scene) x (PointerType c) has in
      leads_operand (fixed w) w (here scene) s f e b x (PointerType c) r b.top.registers (sees scene) scene.begins.stands.globals (variables scene) has (free_in scene f.locals b.top.registers 0 (omega arith) (variables scene))
      (λ new read. leads_checks (fixed w) (at_registers b new) (Reaches scene) h s.objects uses (reads e r x ++ (FollowsWord from ∷ DumpsWord from ∷ []))
      (along_append (fixed w) (at_registers b new) (Reaches scene) h s.objects uses (Reads v ∷ []) (Follows v ∷ Dumps v ∷ []) (reads e r x) (FollowsWord from ∷ DumpsWord from ∷ [])
      (along_reads w (sight s f) (at_registers b new) (Reaches scene) scene.world scene.begins.stands.columns uses e r x (PointerType c) (sees scene) has read.word)
      (tested (Follows v) (FollowsWord from) (followed w (sight s f) (at_registers b new) (Reaches scene) scene.world scene.begins.stands.columns uses from v c typed read.word)
      (tested (Dumps v) (DumpsWord from) (dumped new typed read.word) nothing)))
      (λ fine none. tells_dump v new typed
      (unbroken (fixed w) b (Reaches scene) h s.objects uses (Reads v) UnsetUse (none UnsetUse) (inl refl))
      (unbroken (fixed w) b (Reaches scene) h s.objects uses (Follows v) NullUse (none NullUse) (inr (inl refl)))
      (variables_kept w (here scene) f r b.top.registers new (is_free scene 0) (variables scene) read.wrote) read.word (move_fine w s f below body dump scene.world scene.next tt fine refl))
      (λ rule broken. refused scene rule (at_registers b new) refl (move_refused w s f below body dump scene.world scene.next rule tt broken)))
