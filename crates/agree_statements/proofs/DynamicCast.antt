-- `v = dynamic_cast<D*>(p);`
use Rattle.std.proofs.Common.{◌≡◌, ℕ, Bool, true, false, Option, Some, None, List, [], ◌∷◌, ◌++◌, inl, inr, refl, ap, sym, ◌∙◌, subst, arith, ℤ}
use Rattle.std.specs.Prelude.{slice_set, if◌then◌else◌}
use Rattle.cxx_hierarchy.specs.declared.records.ClassId.{ClassId}
use Rattle.cxx_hierarchy.specs.declared.records.ValueType.TheVariants.{Pointer as PointerType}
use Rattle.cxx_hierarchy.specs.Classes.{Classes}
use Rattle.cxx_subobject.specs.declared.Subobject.{Subobject}
use Rattle.cxx_subobject.specs.Locations.{ObjectPart}
use Rattle.cxx_subobject.specs.Inside.{IsInside}
use Rattle.cxx_search.specs.Searches.{cast_in, is_within}
use Rattle.cxx_program.specs.declared.operand.Variable.{Variable}
use Rattle.cxx_program.specs.declared.operand.TypedOperand.{TypedOperand}
use Rattle.cxx_program.specs.declared.operand.Conversion.{Conversion}
use Rattle.cxx_program.specs.declared.statement.TypedCast.TheVariants.{Dynamic}
use Rattle.cxx_program.specs.declared.statement.TypedRight.TheVariants.{Cast}
use Rattle.cxx_program.specs.declared.statement.TypedStatement.{TypedStatement}
use Rattle.cxx_program.specs.Typed.{HasType, Casts, cast_dynamic}
use Rattle.path_plan.specs.Places.{part}
use Rattle.path_rules.specs.declared.Undefined.{Undefined}
use Rattle.path_rules.specs.declared.Undefined.TheVariants.{Unset as UnsetUse}
use Rattle.path_model.specs.Values.{Value, Unset, Number, Null, Pointer, Objects, value_of_operand}
use Rattle.path_model.specs.Uses.{StatementUse, Reads, Guards, Views, cast_uses, cast_value, value_or, view_cast, view_of}
use Rattle.path_model.specs.Rules.{is_broken, is_unset}
use Rattle.path_model.specs.Outs.{class_or_first}
use Rattle.path_model.specs.TypedStates.{IsValue}
use Rattle.abi_primary.specs.Kinds.{IsDynamic}
use Rattle.byte_machine.specs.Frames.{register_of}
use Rattle.byte_code.specs.declared.op.Op.{Op}
use Rattle.byte_code.specs.declared.op.Op.TheVariants.{Cast as CastOp, Jump}
use Rattle.byte_machine.specs.Effects.{or_null}
use Rattle.byte_machine.specs.Leads.{OpsLead}
use Rattle.byte_machine.proofs.ValueLeads.{leads_cast, leads_cast_null}
use Rattle.code_ops.specs.Arguments.{free, pointed_class, checked_taken}
use Rattle.code_ops.specs.Operands.{operand_register, ops_of}
use Rattle.code_ops.specs.Uses.{reads}
use Rattle.code_ops.specs.declared.uses.Used.TheVariants.{Guards as GuardsWord, Views as ViewsWord}
use Rattle.code_statements.specs.Rights.{cast_used, cast_class}
use Rattle.code_statements.specs.Hints.{hint_of}
use Rattle.agree_parts.specs.Addresses.{address}
use Rattle.agree_parts.proofs.Inside.{part_positive}
use Rattle.agree_relation.specs.Worlds.{world_classes, places_in, fixed}
use Rattle.agree_relation.specs.Words.{register_word}
use Rattle.agree_relation.specs.Frames.{HasVariables}
use Rattle.agree_relation.proofs.Objects.{objects_laid}
use Rattle.agree_relation.proofs.Casts.{cast_there, cast_leads, hint_there, place_of_answer}
use Rattle.agree_statements.specs.Registers.{at_registers, Wrote, body_on}
use Rattle.agree_statements.specs.Tests.{Along, nothing, tested}
use Rattle.agree_statements.proofs.Registers.{leads_grouped, set_here, wrote_set, variables_kept}
use Rattle.agree_statements.proofs.Tests.{along_append, unbroken}
use Rattle.agree_statements.proofs.Useds.{operand_class_is, guarded, viewed, open_read, along_reads}
use Rattle.agree_statements.proofs.Scenes.{Scene, here, scope, block, sight_with}
use Rattle.agree_statements.proofs.Finish.{Reaches, to_next}
use Rattle.agree_statements.proofs.Rights.{Taking, DoesRight, tells, free_of, free_in}
use Rattle.agree_statements.proofs.SeenPointers.{polymorphic_dynamic, seen_under, seen_part}
use Rattle.agree_statements.proofs.CastRights.{the_cast, cast_reads, cast_taken, leads_cast_front}
use Rattle.cxx_search.proofs.Within.{inside_within}
use Rattle.agree_parts.specs.Heaps.{Heap}

-- what a dynamic cast gives of a part whose view is known
cast_given : (h : Classes) (s : Objects) (target : ClassId) (p : ObjectPart) (at : Subobject) → view_of h s p ≡ Some at → is_within h at p.at ≡ true → cast_value h s (Dynamic target) (Pointer p) ≡ value_or p Null (cast_in h target at p.at)
cast_given h s target p at seen within = ap (view_cast h target p) seen ∙ ap (λ (y : Bool). if y then value_or p Null (cast_in h target at p.at) else Unset) within

module _ {statement : TypedStatement} (scene : Scene statement) (locals : List Value) (variable : Variable) (target : ClassId) (x : TypedOperand) (c : Conversion) (take : Taking scene locals variable (record { right = Cast (Dynamic target) x; conversion = c })) where
  open scene use {w, at, s, f, below, body, b}

  abbrev v : Value
  v = value_of_operand (sight_with scene locals) x

  abbrev from : ℕ
  from = operand_register (free (block scene) 0) x

  abbrev jump : List Op
  jump = Jump (to_next scene statement.next) ∷ []

  -- the hint of the cast from a class
  abbrev hint : ClassId → ℤ
  hint k = hint_of (world_classes w) (places_in w) k target

  abbrev uses : List StatementUse
  uses = cast_uses (Dynamic target) v

  cast_dynamic_class : IsDynamic (world_classes w) (the_cast scene locals variable (Dynamic target) x c take).from
  cast_dynamic_class = of_casts (the_cast scene locals variable (Dynamic target) x c take).from (the_cast scene locals variable (Dynamic target) x c take).to (the_cast scene locals variable (Dynamic target) x c take).casts
    where
      of_casts : (k d : ClassId) → Casts (world_classes w) k (Dynamic target) d → IsDynamic (world_classes w) k
      of_casts k d (cast_dynamic _ _ polymorphic known) = polymorphic_dynamic (world_classes w) k polymorphic

  class_at_is : (k : ClassId) → HasType (scope scene) x (PointerType k) → pointed_class (block scene) x ≡ k
  class_at_is k has = ap class_or_first (operand_class_is (scope scene) x k has)

  dynamic_tests : (new : List (Option ℕ)) → register_of new from ≡ register_word w (here scene) v → Along (fixed w) (at_registers b new) (Reaches scene) (world_classes w) s.objects uses uses (cast_used (block scene) (Dynamic target) (free (block scene) 0) x)
  dynamic_tests new has =
      let h = world_classes w in
      let k = the_cast scene locals variable (Dynamic target) x c take in
      let r = free (block scene) 0 in
      let typed = cast_reads scene locals variable (Dynamic target) x c take in
      subst (λ (q : ClassId). Along (fixed w) (at_registers b new) (Reaches scene) h s.objects uses uses (reads (scope scene) r x ++ (GuardsWord from 0 q.0 ∷ ViewsWord from 0 q.0 ∷ []))) (sym (class_at_is k.from k.has))
      (along_append (fixed w) (at_registers b new) (Reaches scene) h s.objects uses (Reads v ∷ []) (Guards v ∷ Views v ∷ []) (reads (scope scene) r x) (GuardsWord from 0 k.from.0 ∷ ViewsWord from 0 k.from.0 ∷ [])
      (along_reads w (sight_with scene locals) (at_registers b new) (Reaches scene) scene.world scene.begins.stands.columns uses (scope scene) r x (PointerType k.from) take.sees k.has has)
      (tested (Guards v) (GuardsWord from 0 k.from.0) (guarded w (sight_with scene locals) (at_registers b new) (Reaches scene) scene.world scene.begins.stands.columns uses from v k.from typed has)
      (tested (Views v) (ViewsWord from 0 k.from.0) (viewed w (sight_with scene locals) (at_registers b new) (Reaches scene) scene.world scene.begins.stands.columns uses from v k.from (tells scene new)
      (open_read w (sight_with scene locals) (at_registers b new) (Reaches scene) scene.world scene.begins.stands.columns uses v (inl refl)) (inr (inl refl)) cast_dynamic_class typed has) nothing)))

  -- the answer as a word
  answer_word : (g : Heap) (p : ObjectPart) (place : Option Subobject → Option ℕ) (o : Option Subobject) (answer : Option ℕ) → place None ≡ None → ((t : Subobject) → place (Some t) ≡ Some (address (world_classes w) (places_in w) g (part p.object p.owner t))) → answer ≡ place o → Some (or_null answer) ≡ register_word w g (value_or p Null o)
  answer_word g p place None answer none some is = ap (λ (a : Option ℕ). Some (or_null a)) (is ∙ none)
  answer_word g p place (Some t) answer none some is = ap (λ (a : Option ℕ). Some (or_null a)) (is ∙ some t)

  casts_value : (y : Value) (k : ClassId) (new : List (Option ℕ)) → v ≡ y → IsDynamic (world_classes w) k → IsValue (world_classes w) s.objects.classes y (PointerType k) → is_unset y ≡ false → ((r : Undefined) → is_broken (world_classes w) s.objects uses r ≡ false) → HasVariables w (here scene) (body_on f locals f.next) new → register_of new from ≡ register_word w (here scene) y
      → {ops : List Op} → ((last : List (Option ℕ)) → Wrote (free (block scene) 1) new last → register_of last (free (block scene) 1) ≡ register_word w (here scene) (cast_value (world_classes w) s.objects (Dynamic target) y) → OpsLead (fixed w) ops (at_registers b last) (Reaches scene))
      → OpsLead (fixed w) (CastOp (free (block scene) 1) from k.0 target.0 (hint k) ∷ ops) (at_registers b new) (Reaches scene)
  casts_value Unset k new is dynamic typed set none kept has rest = absurd (let e : true ≡ false = set in cc)
  casts_value (Number z) k new is dynamic typed set none kept has rest = absurd typed
  casts_value Null k new is dynamic typed set none kept has rest =
      let to = free (block scene) 1 in
      let inside = free_in scene locals new 1 (omega arith) kept in
      leads_cast_null (fixed w) to from k.0 target.0 (hint k) has inside (rest (slice_set new to (Some 0)) (wrote_set b new to (Some 0)) (set_here b new to (Some 0) inside))
  casts_value (Pointer p) k new is dynamic made set none kept has rest =
      let h = world_classes w in
      let g = here scene in
      let to = free (block scene) 1 in
      let inside = free_in scene locals new 1 (omega arith) kept in
      let seen = seen_part scene locals x k uses p is made dynamic none (inl refl) (inr (inl refl)) (inr (inr (inl refl))) in
      let a = seen_under scene v k seen p is in
      let q = part p.object p.owner a.sight.at in
      let laid = objects_laid w s.objects b.memory.regions b.objects b.heap scene.world scene.begins.stands.columns.objects in
      let some = part_positive h w.setup.rows g p k laid made in
      let within : IsInside h q.at p.at = record { class = a.sight.class; of_class = a.sight.there.of_class; part = a.inner; valid = a.valid; joined = sym (ap (λ (z : ObjectPart). z.at) a.is) } in
      let given = cast_given h s.objects target p a.sight.at a.sight.is_view (inside_within h scene.world.hierarchy a.sight.at p.at within) in
      let truth = hint_there w g b.memory q a.sight.class a.sight.complete scene.world laid a.sight.there a.sight.owner a.standing.dynamic a.standing.pointers p.at k within made.of_class dynamic target in
      leads_cast (fixed w) to from k.0 target.0 (hint k) (address h (places_in w) g p) has (λ e. omega arith)
      (record { can = cast_there w g b.memory q a.sight.class a.sight.complete scene.world laid a.sight.there a.sight.owner a.standing.dynamic a.standing.pointers p.at k within made.of_class dynamic; truth = truth }) inside
      (λ answer casts.
      let led = cast_leads w g b.memory q a.sight.class a.sight.complete scene.world laid a.sight.there a.sight.owner a.standing.dynamic a.standing.pointers p.at k within made.of_class dynamic target answer casts in
      rest (slice_set new to (Some (or_null answer))) (wrote_set b new to (Some (or_null answer)))
      (set_here b new to (Some (or_null answer)) inside ∙ answer_word g p (place_of_answer w g b.memory q a.sight.class a.sight.complete scene.world laid a.sight.there a.sight.owner a.standing.dynamic a.standing.pointers) (cast_in h target a.sight.at p.at) answer refl (λ t. refl) led ∙ ap (register_word w g) (sym given)))

  pub dynamic_cast_does : DoesRight scene locals variable (record { right = Cast (Dynamic target) x; conversion = c })
  dynamic_cast_does old variables =
      let k = the_cast scene locals variable (Dynamic target) x c take in
      let to = free (block scene) 1 in
      let wanted = Some (cast_class (Dynamic target) (pointed_class (block scene) x)) in
      leads_cast_front scene locals variable (Dynamic target) x c take old variables dynamic_tests
      (λ new none fine kept has.
      subst (λ (q : ClassId). OpsLead (fixed w) (((CastOp to from q.0 target.0 (hint q) ∷ []) ++ ops_of (checked_taken (block scene) variable wanted c (free (block scene) 2) to)) ++ jump) (at_registers b new) (Reaches scene)) (sym (class_at_is k.from k.has))
      (leads_grouped (fixed w) (CastOp to from k.from.0 target.0 (hint k.from) ∷ []) (ops_of (checked_taken (block scene) variable wanted c (free (block scene) 2) to)) jump
      (casts_value v k.from new refl cast_dynamic_class (cast_reads scene locals variable (Dynamic target) x c take) (unbroken (fixed w) b (Reaches scene) (world_classes w) s.objects uses (Reads v) UnsetUse (none UnsetUse) (inl refl)) none kept has
      (λ last wrote is. cast_taken scene locals variable (Dynamic target) x c take last none (inl refl) fine (variables_kept w (here scene) (body_on f locals f.next) to new last (free_of scene locals 1 take.count) kept wrote) is))))
