-- What a call uses is tested in the registers that have its values.
use Rattle.agree_calls.proofs.Aimed.{inner_ready}
use Rattle.agree_calls.proofs.ReadArguments.{AreHeld}
use Rattle.agree_calls.proofs.Stages.{front_uses}
use Rattle.code_ops.specs.Arguments.{Block, argument_read, argument_used, arguments_used, block_in, free}
use Rattle.code_ops.specs.Operands.{operand_register}
use Rattle.code_ops.specs.Uses.{arrow_used, checks_of, views_if}
use Rattle.code_ops.specs.declared.uses.Used.{Used}
use Rattle.code_ops.specs.declared.uses.Used.TheVariants.{Views as ViewsWord}
use Rattle.agree_parts.proofs.Sums.{to_inner}
use Rattle.agree_parts.specs.Addresses.{address}
use Rattle.abi_primary.specs.Kinds.{IsDynamic}
use Rattle.abi_slots.proofs.Dynamics.{dynamic_whole, virtual_dynamic}
use Rattle.agree_relation.proofs.Moved.{moved_to_part}
use Rattle.agree_relation.specs.Columns.{ColumnsStand}
use Rattle.agree_relation.specs.Words.{register_word}
use Rattle.agree_relation.specs.Worlds.{IsProgramWorld, World, world_classes, fixed, places_in}
use Rattle.code_statements.specs.Rights.{call_used, call_views, qualifier_distance, through_class}
use Rattle.agree_statements.proofs.Checks.{decides_inside, heap, idle_null, idle_unset, laid, part_some}
use Rattle.agree_statements.proofs.PlaceTests.{plain_root}
use Rattle.agree_statements.proofs.Tests.{along_append, unbroken}
use Rattle.agree_statements.proofs.Useds.{TellsViews, along_argument, along_arrow, open_read, shared_dynamic, viewed}
use Rattle.agree_statements.specs.Tests.{Along, Decide, Decides, IsTested, NoneBefore, nothing, tested}
use Rattle.byte_code.specs.declared.op.Check.TheVariants.{InView}
use Rattle.byte_machine.proofs.CheckLeads.{leads_idle}
use Rattle.byte_machine.specs.Running.{Running, Stop, register}
use Rattle.cxx_hierarchy.specs.Classes.{Classes}
use Rattle.cxx_hierarchy.specs.declared.records.ClassId.{ClassId}
use Rattle.cxx_hierarchy.specs.declared.records.Function.{Function as FunctionRecord}
use Rattle.cxx_hierarchy.specs.declared.records.ValueType.TheVariants.{Pointer as PointerType}
use Rattle.cxx_program.specs.Typed.{IsArgument, IsCall, IsWay, Scope, Types, scope_of}
use Rattle.cxx_program.specs.declared.operand.Argument.{Argument}
use Rattle.cxx_program.specs.declared.program.TypedBody.{TypedBody}
use Rattle.cxx_program.specs.declared.statement.TypedCall.{TypedCall}
use Rattle.cxx_search.proofs.Virtuals.{test_virtual}
use Rattle.cxx_subobject.specs.declared.Subobject.{Subobject}
use Rattle.foundation.proofs.Members.{Has, has_left, has_right}
use Rattle.foundation.proofs.Truth.{split}
use Rattle.path_model.proofs.TypedValues.{IsTypedSight, inner_made, operand_typed}
use Rattle.path_model.specs.Order.{asked_views}
use Rattle.path_model.specs.Outs.{class_or_first}
use Rattle.path_model.specs.Rules.{breaks, is_outside, is_unready, names}
use Rattle.path_model.specs.Typed.{AllSettled}
use Rattle.path_model.specs.TypedStates.{IsValue}
use Rattle.path_model.specs.Uses.{Guards, Reads, StatementUse, Views, argument_uses, arrow, goes_to, is_shared, is_shared_way, uses_of_view}
use Rattle.path_model.specs.Values.{Null, Number, Pointer, Sight, Unset, Value, inner_part, to_base, value_of_operand}
use Rattle.path_rules.specs.Rules.{undefined_no}
use Rattle.path_rules.specs.declared.Undefined.{Undefined}
use Rattle.path_rules.specs.declared.Undefined.TheVariants.{Dangling, NotReady, OutsideView}
use Rattle.std.proofs.Common.{◌≡◌, ℕ, suc, Bool, true, false, inl, inr, Option, Some, None, List, [], ◌∷◌, ◌++◌, refl, ap, sym, subst, arith}
use Rattle.std.specs.List.{AllZip, flat_map}
use Rattle.std.specs.Prelude.{◌||◌}

-- the pointer of a call whose view is needed is one to a dynamic class
pointer_dynamic : (h : Classes) (e : Scope) (call : TypedCall) (d : FunctionRecord ClassId) → IsCall h e call d → (call.is_dispatched || is_shared_way call.qualifier) ≡ true → IsDynamic h call.class
pointer_dynamic h e call d c need = split call.is_dispatched (λ x. call.is_dispatched ≡ x → (x || is_shared_way call.qualifier) ≡ true → IsDynamic h call.class)
    (λ flag _ _.
    let dispatched = c.dispatched flag in
    let through : c.through ≡ call.class = sym (subst (λ q. IsWay h call.class q c.through) dispatched.0 c.way) in
    subst (λ (k : ClassId). IsDynamic h k) through (dynamic_whole h c.through call.function.class call.base c.base c.of_class (virtual_dynamic h call.function (test_virtual h call.function dispatched.1))))
    (λ flag _ far. by_way call.qualifier c.way far) refl need
  where
    by_way : (q : Option Subobject) → IsWay h call.class q c.through → is_shared_way q ≡ true → IsDynamic h call.class
    by_way None way far = absurd (let k : false ≡ true = far in cc)
    by_way (Some i) way far = shared_dynamic h call.class i way.valid far

module _ (w : World) (see : Sight) (b : Running) (P : Running → Stop → Type 0) (world : IsProgramWorld w) (columns : ColumnsStand w see.objects b.memory b.objects b.heap b.notes) (all : List StatementUse) where
  abbrev Tests : List StatementUse → List Used → Type 0
  Tests us ds = Along (fixed w) b P (world_classes w) see.objects all us ds

  abbrev Holds : ℕ → Value → Type 0
  Holds r v = register b r ≡ register_word w (heap w see.objects b P world columns) v

  -- the view of the class before `::`, which lies so far behind the pointer
  decides_behind : (r : ℕ) (v : Value) (c k : ClassId) (i : Subobject) → TellsViews w see.objects b → AllSettled (world_classes w) see.objects → names (is_unready see.objects) v ≡ false → names (λ p. see.objects.is_closed p.object) v ≡ false → IsWay (world_classes w) c (Some i) k → is_shared i ≡ false → IsDynamic (world_classes w) k
      → IsValue (world_classes w) see.objects.classes v (PointerType c) → register b r ≡ register_word w (heap w see.objects b P world columns) v → Decides (fixed w) b P 4 (InView r ((places_in w).place c i) k.0) (names (is_outside (world_classes w) see.objects) (to_base i v))
  decides_behind r Unset c k i tells settled ready opened way plain dynamic typed e = record { leads = λ ops goes refuses. leads_idle (fixed w) (InView r ((places_in w).place c i) k.0) r refl (idle_unset (register b r) e) (goes refl) }
  decides_behind r (Number z) c k i tells settled ready opened way plain dynamic typed e = absurd typed
  decides_behind r Null c k i tells settled ready opened way plain dynamic typed e = record { leads = λ ops goes refuses. leads_idle (fixed w) (InView r ((places_in w).place c i) k.0) r refl (idle_null (register b r) e) (goes refl) }
  decides_behind r (Pointer p) c k i tells settled ready opened way plain dynamic typed e =
      let h = world_classes w in
      let g = heap w see.objects b P world columns in
      let made = inner_made h see.objects.classes p c k i typed way.valid way.class in
      let fine = inner_ready h see.objects p c i typed.of_class (settled p.object typed.class typed.made) way.valid ready in
      decides_inside w see.objects b P world columns r ((places_in w).place c i) (address h (places_in w) g p) (inner_part p i) k (tells.of (inner_part p i) k made opened fine dynamic) e (part_some w see.objects b P world columns p c typed)
      (moved_to_part h w.setup.rows g (address h (places_in w) g p) ((places_in w).place c i) (inner_part p i) k (laid w see.objects b P world columns) made (to_inner h w.setup.rows g p c i typed way.valid (plain_root h c i way.valid plain)))

  viewed_way : (body : TypedBody) (call : TypedCall) (q : Option Subobject) (k : ClassId) (r : ℕ) (v : Value) → TellsViews w see.objects b → AllSettled (world_classes w) see.objects → Has all (Reads v) → Has all (Guards v) → IsWay (world_classes w) call.class q k → is_shared_way q ≡ false → IsDynamic (world_classes w) k
      → IsValue (world_classes w) see.objects.classes v (PointerType call.class) → register b r ≡ register_word w (heap w see.objects b P world columns) v
      → IsTested (fixed w) b P (world_classes w) see.objects all (Views (goes_to q v)) (ViewsWord r (qualifier_distance (block_in w.setup body) (record call { qualifier = q })) (through_class (record call { qualifier = q })).0)
  viewed_way body call None k r v tells settled reads guards way plain dynamic typed e =
      viewed w see b P world columns all r v call.class tells (open_read w see b P world columns all v reads) guards (subst (λ (c : ClassId). IsDynamic (world_classes w) c) (sym way) dynamic) typed e
  viewed_way body call (Some i) k r v tells settled reads guards way plain dynamic typed e =
      subst (λ (c : ClassId). IsTested (fixed w) b P (world_classes w) see.objects all (Views (to_base i v)) (ViewsWord r ((places_in w).place call.class i) c.0)) (sym (ap class_or_first way.class)) (record { each = by_rule })
    where
      by_rule : (rule : Undefined) → NoneBefore (world_classes w) see.objects all rule → Decide (fixed w) b P (undefined_no rule) (checks_of rule (ViewsWord r ((places_in w).place call.class i) k.0)) (breaks (world_classes w) see.objects rule (Views (to_base i v)))
      by_rule OutsideView before = decides_behind r v call.class k i tells settled
          (unbroken (fixed w) b P (world_classes w) see.objects all (Guards v) NotReady (before NotReady (omega arith)) guards) (unbroken (fixed w) b P (world_classes w) see.objects all (Reads v) Dangling (before Dangling (omega arith)) reads)
          way plain dynamic typed e
      by_rule rule before = refl

  along_arguments : (k : Block) (n : ℕ) (arguments : List Argument) (types : Types) → IsTypedSight (world_classes w) k.scope see → TellsViews w see.objects b → ((u : StatementUse) → Has (flat_map (argument_uses see) arguments) u → Has all u) → AllZip (IsArgument (world_classes w) k.scope) arguments types
      → AreHeld w (heap w see.objects b P world columns) k see n arguments b.top.registers → Along (fixed w) b P (world_classes w) see.objects all (flat_map (argument_uses see) arguments) (arguments_used k n arguments)
  along_arguments k n [] types sees tells within typed held = nothing
  along_arguments k n (a ∷ more) [] sees tells within typed held = absurd typed
  along_arguments k n (a ∷ more) (t ∷ types) sees tells within typed held =
      along_append (fixed w) b P (world_classes w) see.objects all (argument_uses see a) (flat_map (argument_uses see) more) (argument_used k a (argument_read k n)) (arguments_used k (suc n) more)
      (along_argument w see b P world columns all k (argument_read k n) a t sees tells (λ u has. within u (has_left (argument_uses see a) (flat_map (argument_uses see) more) u has)) typed.0 held.0)
      (along_arguments k (suc n) more types sees tells (λ u has. within u (has_right (argument_uses see a) (flat_map (argument_uses see) more) u has)) typed.1 held.1)

  -- all tests of a call but the sixth rule's
  pub along_call : (body : TypedBody) (call : TypedCall) (d : FunctionRecord ClassId) → IsTypedSight (world_classes w) (scope_of (world_classes w) w.setup.program.globals body) see → TellsViews w see.objects b → AllSettled (world_classes w) see.objects → ((u : StatementUse) → Has (front_uses see call) u → Has all u)
      → IsCall (world_classes w) (scope_of (world_classes w) w.setup.program.globals body) call d → register b (operand_register (free (block_in w.setup body) 0) call.pointer) ≡ register_word w (heap w see.objects b P world columns) (value_of_operand see call.pointer)
      → AreHeld w (heap w see.objects b P world columns) (block_in w.setup body) see 0 call.arguments b.top.registers → Along (fixed w) b P (world_classes w) see.objects all (front_uses see call) (call_used (block_in w.setup body) call)
  along_call body call d sees tells settled within c word held =
      along_append (fixed w) b P (world_classes w) see.objects all (arrow v) (asked_views needed call v ++ flat_map (argument_uses see) call.arguments) (arrow_used k.scope (free k 0) call.pointer call.class) (call_views k needed call r ++ arguments_used k 0 call.arguments)
      (along_arrow w see b P world columns all k.scope (free k 0) call.pointer call.class sees c.pointer word)
      (along_append (fixed w) b P (world_classes w) see.objects all (asked_views needed call v) (flat_map (argument_uses see) call.arguments) (call_views k needed call r) (arguments_used k 0 call.arguments)
      (by_need needed refl)
      (along_arguments k 0 call.arguments _ sees tells (λ u has. within u (has_right (arrow v) (asked_views needed call v ++ flat_map (argument_uses see) call.arguments) u (has_right (asked_views needed call v) (flat_map (argument_uses see) call.arguments) u has))) c.arguments held))
    where
      k : Block
      k = block_in w.setup body

      v : Value
      v = value_of_operand see call.pointer

      r : ℕ
      r = operand_register (free (block_in w.setup body) 0) call.pointer

      needed : Bool
      needed = call.is_dispatched || is_shared_way call.qualifier

      typed : IsValue (world_classes w) see.objects.classes (value_of_operand see call.pointer) (PointerType call.class)
      typed = operand_typed (world_classes w) (scope_of (world_classes w) w.setup.program.globals body) see sees call.pointer (PointerType call.class) c.pointer

      by_base : (x : Bool) → is_shared call.base ≡ x → is_shared_way call.qualifier ≡ false → Along (fixed w) b P (world_classes w) see.objects all (uses_of_view x (goes_to call.qualifier (value_of_operand see call.pointer))) (views_if x (operand_register (free (block_in w.setup body) 0) call.pointer) (qualifier_distance (block_in w.setup body) call) (through_class call))
      by_base true is plain = tested (Views (goes_to call.qualifier v)) (ViewsWord r (qualifier_distance (block_in w.setup body) call) (through_class call).0)
          (viewed_way body call call.qualifier c.through r v tells settled (within (Reads v) (inl refl)) (within (Guards v) (inr (inr (inl refl)))) c.way plain (shared_dynamic (world_classes w) c.through call.base c.base is) typed word) nothing
      by_base false is plain = nothing

      by_need : (x : Bool) → (call.is_dispatched || is_shared_way call.qualifier) ≡ x → Along (fixed w) b P (world_classes w) see.objects all (asked_views x call (value_of_operand see call.pointer)) (call_views (block_in w.setup body) x call (operand_register (free (block_in w.setup body) 0) call.pointer))
      by_need true is = tested (Views v) (ViewsWord r 0 call.class.0)
          (viewed w see b P world columns all r v call.class tells (open_read w see b P world columns all v (within (Reads v) (inl refl))) (within (Guards v) (inr (inr (inl refl)))) (pointer_dynamic (world_classes w) (scope_of (world_classes w) w.setup.program.globals body) call d c is) typed word) nothing
      by_need false is = by_base (is_shared call.base) refl (second call.is_dispatched (is_shared_way call.qualifier) is)
        where
          second : (x y : Bool) → (x || y) ≡ false → y ≡ false
          second true y e = absurd (let f : true ≡ false = e in cc)
          second false y e = e
