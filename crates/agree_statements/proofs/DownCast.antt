-- `v = static_cast<D*>(p);`, from a base to a class derived from it
use Rattle.std.proofs.Common.{◌≡◌, ℕ, true, false, Option, Some, None, List, [], ◌∷◌, ◌++◌, inl, inr, refl, ap, sym, ◌∙◌, subst, arith}
use Rattle.std.specs.Prelude.{slice_set, is_none}
use Rattle.cxx_hierarchy.specs.declared.records.ClassId.{ClassId}
use Rattle.cxx_hierarchy.specs.declared.records.ValueType.TheVariants.{Pointer as PointerType}
use Rattle.cxx_hierarchy.specs.Classes.{Classes}
use Rattle.cxx_subobject.specs.declared.Subobject.{Subobject}
use Rattle.cxx_subobject.specs.declared.Root.TheVariants.{Whole}
use Rattle.cxx_subobject.specs.Locations.{ObjectPart}
use Rattle.cxx_program.specs.declared.operand.Variable.{Variable}
use Rattle.cxx_program.specs.declared.operand.TypedOperand.{TypedOperand}
use Rattle.cxx_program.specs.declared.operand.Conversion.{Conversion}
use Rattle.cxx_program.specs.declared.statement.TypedCast.TheVariants.{Down}
use Rattle.cxx_program.specs.declared.statement.TypedRight.TheVariants.{Cast}
use Rattle.cxx_program.specs.declared.statement.TypedStatement.{TypedStatement}
use Rattle.cxx_program.specs.Typed.{IsProperBase, Casts, cast_down}
use Rattle.path_rules.specs.declared.Undefined.TheVariants.{Unset as UnsetUse, BadDowncast}
use Rattle.path_model.specs.Values.{Value, Unset, Number, Null, Pointer, value_of_operand}
use Rattle.path_model.specs.Uses.{StatementUse, Reads, Guards, Downs, cast_uses, derived_of, down_value, value_or}
use Rattle.path_model.specs.Rules.{is_broken, is_unset, names}
use Rattle.path_model.specs.Outs.{class_or_first}
use Rattle.path_model.specs.TypedStates.{IsValue}
use Rattle.byte_machine.specs.Frames.{register_of}
use Rattle.byte_code.specs.declared.op.Op.{Op}
use Rattle.byte_code.specs.declared.op.Op.TheVariants.{Does}
use Rattle.byte_code.specs.declared.op.Finish.TheVariants.{Add}
use Rattle.byte_machine.specs.Leads.{OpsLead}
use Rattle.byte_machine.specs.Running.{moved}
use Rattle.byte_machine.proofs.ValueLeads.{leads_add, leads_add_null}
use Rattle.code_ops.specs.Arguments.{free, pointed_class}
use Rattle.code_ops.specs.Operands.{operand_register}
use Rattle.code_ops.specs.Uses.{reads}
use Rattle.code_ops.specs.declared.uses.Used.TheVariants.{Guards as GuardsWord, Downs as DownsWord}
use Rattle.code_statements.specs.Rights.{back_by, cast_used}
use Rattle.agree_parts.specs.Addresses.{address}
use Rattle.agree_parts.proofs.Inside.{part_positive}
use Rattle.agree_relation.specs.Worlds.{world_classes, places_in, fixed}
use Rattle.agree_relation.specs.Words.{register_word}
use Rattle.agree_relation.specs.Frames.{HasVariables}
use Rattle.agree_relation.proofs.Objects.{objects_laid}
use Rattle.agree_statements.specs.Registers.{at_registers, Wrote, body_on}
use Rattle.agree_statements.specs.Tests.{Along, nothing, tested}
use Rattle.agree_statements.proofs.Registers.{set_here, wrote_set, variables_kept}
use Rattle.agree_statements.proofs.Tests.{along_append, unbroken}
use Rattle.agree_statements.proofs.Useds.{operand_class_is, guarded, along_reads}
use Rattle.agree_statements.proofs.Scenes.{Scene, here, scope, block, sight_with}
use Rattle.agree_statements.proofs.Finish.{Reaches}
use Rattle.agree_statements.proofs.Rights.{Taking, DoesRight, free_of, free_in}
use Rattle.agree_statements.proofs.CastRights.{the_cast, cast_reads, cast_taken, leads_cast_front}
use Rattle.agree_statements.proofs.DownChecks.{back_is, downed}

-- the class of the pointer is a base of the target, by a path through no virtual base
record IsDown (h : Classes) (c : ClassId) (target : ClassId) (i : Subobject) : Type 0 where
  proper : IsProperBase h target i c
  root : i.root ≡ Whole

down_typed : (h : Classes) (c d target : ClassId) (i : Subobject) → Casts h c (Down target i) d → IsDown h c target i
down_typed h c _ target i (cast_down _ _ _ proper root known) = record { proper = proper; root = root }

module _ {statement : TypedStatement} (scene : Scene statement) (locals : List Value) (variable : Variable) (target : ClassId) (i : Subobject) (x : TypedOperand) (c : Conversion) (take : Taking scene locals variable (record { right = Cast (Down target i) x; conversion = c })) where
  open scene use {w, at, s, f, below, body, b}

  abbrev v : Value
  v = value_of_operand (sight_with scene locals) x

  abbrev from : ℕ
  from = operand_register (free (block scene) 0) x

  abbrev uses : List StatementUse
  uses = cast_uses (Down target i) v

  abbrev back : ℕ
  back = back_by ((places_in w).place target i)

  abbrev class : ClassId
  class = (the_cast scene locals variable (Down target i) x c take).from

  down : IsDown (world_classes w) class target i
  down = let k = the_cast scene locals variable (Down target i) x c take in down_typed (world_classes w) k.from k.to target i k.casts

  class_at_is : pointed_class (block scene) x ≡ class
  class_at_is = ap class_or_first (operand_class_is (scope scene) x class (the_cast scene locals variable (Down target i) x c take).has)

  down_tests : (new : List (Option ℕ)) → register_of new from ≡ register_word w (here scene) v → Along (fixed w) (at_registers b new) (Reaches scene) (world_classes w) s.objects uses uses (cast_used (block scene) (Down target i) (free (block scene) 0) x)
  down_tests new has =
      let h = world_classes w in
      let r = free (block scene) 0 in
      let typed = cast_reads scene locals variable (Down target i) x c take in
      subst (λ (q : ClassId). Along (fixed w) (at_registers b new) (Reaches scene) h s.objects uses uses (reads (scope scene) r x ++ (GuardsWord from 0 q.0 ∷ DownsWord from back target.0 ∷ []))) (sym class_at_is)
      (along_append (fixed w) (at_registers b new) (Reaches scene) h s.objects uses (Reads v ∷ []) (Guards v ∷ Downs v target i ∷ []) (reads (scope scene) r x) (GuardsWord from 0 class.0 ∷ DownsWord from back target.0 ∷ [])
      (along_reads w (sight_with scene locals) (at_registers b new) (Reaches scene) scene.world scene.begins.stands.columns uses (scope scene) r x (PointerType class) take.sees (the_cast scene locals variable (Down target i) x c take).has has)
      (tested (Guards v) (GuardsWord from 0 class.0) (guarded w (sight_with scene locals) (at_registers b new) (Reaches scene) scene.world scene.begins.stands.columns uses from v class typed has)
      (tested (Downs v target i) (DownsWord from back target.0) (downed w s.objects (at_registers b new) (Reaches scene) scene.world scene.begins.stands.columns target class i (down).proper.valid (down).root (down).proper.class uses from v scene.next.seen (inr (inl refl)) typed has) nothing)))

  -- the subobject that the rule finds
  found : (p : ObjectPart) → v ≡ Pointer p → is_broken (world_classes w) s.objects uses BadDowncast ≡ false → (t : Subobject) × (derived_of (world_classes w) s.objects target i p ≡ Some t)
  found p is none =
      let fine = unbroken (fixed w) b (Reaches scene) (world_classes w) s.objects uses (Downs v target i) BadDowncast none (inr (inr (inl refl))) in
      by_found (derived_of (world_classes w) s.objects target i p) (subst (λ (y : Value). names (λ q. is_none (derived_of (world_classes w) s.objects target i q)) y ≡ false) is fine)
    where
      by_found : (o : Option Subobject) → is_none o ≡ false → (t : Subobject) × (o ≡ Some t)
      by_found None somewhere = absurd (let f : true ≡ false = somewhere in cc)
      by_found (Some t) somewhere = (t, refl)

  -- a pointer goes back to it, and null stays null
  casts_down : {ops : List Op} (y : Value) (new : List (Option ℕ)) → v ≡ y → IsValue (world_classes w) s.objects.classes y (PointerType class) → is_unset y ≡ false → is_broken (world_classes w) s.objects uses BadDowncast ≡ false → HasVariables w (here scene) (body_on f locals f.next) new → register_of new from ≡ register_word w (here scene) y
      → ((last : List (Option ℕ)) → Wrote (free (block scene) 1) new last → register_of last (free (block scene) 1) ≡ register_word w (here scene) (down_value (world_classes w) s.objects target i y) → OpsLead (fixed w) ops (at_registers b last) (Reaches scene))
      → OpsLead (fixed w) (Does (Add (free (block scene) 1) from back) ∷ ops) (at_registers b new) (Reaches scene)
  casts_down Unset new is typed set none kept has rest = absurd (let e : true ≡ false = set in cc)
  casts_down (Number z) new is typed set none kept has rest = absurd typed
  casts_down Null new is typed set none kept has rest =
      let to = free (block scene) 1 in
      let inside = free_in scene locals new 1 (omega arith) kept in
      leads_add_null (fixed w) to from back has inside (rest (slice_set new to (Some 0)) (wrote_set b new to (Some 0)) (set_here b new to (Some 0) inside))
  casts_down (Pointer p) new is made set none kept has rest =
      let h = world_classes w in
      let g = here scene in
      let to = free (block scene) 1 in
      let inside = free_in scene locals new 1 (omega arith) kept in
      let laid = objects_laid w s.objects b.memory.regions b.objects b.heap scene.world scene.begins.stands.columns.objects in
      let some = part_positive h w.setup.rows g p class laid made in
      let t = found p is none in
      let there = back_is w s.objects b (Reaches scene) scene.world scene.begins.stands.columns target class i (down).proper.valid (down).root (down).proper.class p t.0 made t.1 in
      let word = Some (moved (address h (places_in w) g p) back) in
      leads_add (fixed w) to from back (address h (places_in w) g p) has (λ e. omega arith) inside
      (rest (slice_set new to word) (wrote_set b new to word) (set_here b new to word inside ∙ ap (λ (n : ℕ). Some n) there ∙ ap (λ (o : Option Subobject). register_word w g (value_or p Unset o)) (sym t.1)))

  pub down_cast_does : DoesRight scene locals variable (record { right = Cast (Down target i) x; conversion = c })
  down_cast_does old variables =
      let to = free (block scene) 1 in
      leads_cast_front scene locals variable (Down target i) x c take old variables down_tests
      (λ new none fine kept has.
      casts_down v new refl (cast_reads scene locals variable (Down target i) x c take) (unbroken (fixed w) b (Reaches scene) (world_classes w) s.objects uses (Reads v) UnsetUse (none UnsetUse) (inl refl)) (none BadDowncast) kept has
      (λ last wrote is. cast_taken scene locals variable (Down target i) x c take last none (inl refl) fine (variables_kept w (here scene) (body_on f locals f.next) to new last (free_of scene locals 1 take.count) kept wrote) is))
