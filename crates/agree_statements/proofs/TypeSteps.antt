-- `print(typeid(*p));`, `print(dynamic_cast<void*>(p));` and `v = typeid(*p) == typeid(D);`
use Rattle.std.proofs.Common.{◌≡◌, ℕ, ◌<◌, ◌^◌, true, false, Option, Some, None, List, [], ◌∷◌, ◌++◌, length, pos, inl, inr, refl, ap, sym, ◌∙◌, subst, arith}
use Rattle.std.specs.Prelude.{slice_set, nat_eq, if◌then◌else◌, option_map, option_and_then}
use Rattle.cxx_subobject.specs.Subobjects.{class_of}
use Rattle.std.proofs.lemmas.Bool.Decides.{nat_tests}
use Rattle.cxx_hierarchy.specs.declared.records.ClassId.{ClassId}
use Rattle.cxx_hierarchy.specs.declared.records.Scalar.TheVariants.{Bool as TheBool}
use Rattle.cxx_hierarchy.specs.declared.records.ValueType.{ValueType}
use Rattle.cxx_hierarchy.specs.declared.records.ValueType.TheVariants.{Number as NumberType, Pointer as PointerType}
use Rattle.cxx_hierarchy.specs.Classes.{Classes}
use Rattle.cxx_subobject.specs.Locations.{ObjectPart}
use Rattle.cxx_program.specs.declared.operand.Variable.{Variable}
use Rattle.cxx_program.specs.declared.operand.TypedOperand.{TypedOperand}
use Rattle.cxx_program.specs.declared.operand.Conversion.{Conversion}
use Rattle.cxx_program.specs.declared.statement.TypedKind.TheVariants.{PrintType, PrintView}
use Rattle.cxx_program.specs.declared.statement.TypedRight.TheVariants.{TypeEqual}
use Rattle.cxx_program.specs.declared.statement.TypedStatement.{TypedStatement}
use Rattle.cxx_program.specs.Typed.{Scope, Converts, HasType, IsPolymorphic, IsTyped, prints_type, prints_view, a_type_test, IsConverted, a_right}
use Rattle.path_plan.specs.Places.{part}
use Rattle.path_rules.specs.declared.Undefined.{Undefined}
use Rattle.path_rules.specs.declared.Undefined.TheVariants.{Unset as UnsetUse}
use Rattle.path_model.specs.declared.outs.Out.{Out}
use Rattle.path_model.specs.declared.outs.Out.TheVariants.{TypeName as TypeNameOut, Pointer as PointerOut}
use Rattle.path_model.specs.Values.{Value, Unset, Number, Null, Pointer, value_of_operand, converted_to}
use Rattle.path_model.specs.Uses.{StatementUse, Reads, Guards, Views}
use Rattle.path_model.specs.Rules.{is_unset, is_broken}
use Rattle.path_model.specs.Outs.{location_of, class_or_first}
use Rattle.cxx_subobject.specs.declared.Subobject.{Subobject}
use Rattle.path_model.specs.States.{sight}
use Rattle.path_model.specs.Effects.{telling, type_out, view_out, type_equal, typeid_class, class_out, part_out, is_type}
use Rattle.path_model.specs.Runs.{Moves, move_by}
use Rattle.path_model.specs.TypedStates.{IsValue}
use Rattle.path_model.proofs.TypedRanges.{bit_in_range}
use Rattle.path_model.proofs.TypedValues.{operand_typed}
use Rattle.byte_machine.specs.Frames.{register_of}
use Rattle.byte_code.specs.declared.op.ArithKind.TheVariants.{Equal as EqualKind}
use Rattle.byte_code.specs.declared.op.Op.TheVariants.{TypeOf, Top, Print as PrintOp, Const, Arith, Jump}
use Rattle.byte_code.specs.declared.op.PrintAs.TheVariants.{Address as AsAddress}
use Rattle.byte_code.specs.Numbers.{word_of, number_of_word}
use Rattle.byte_machine.specs.declared.turn.RawOut.{RawOut}
use Rattle.byte_machine.specs.declared.turn.RawOut.TheVariants.{Address as RawAddress, Class as RawClass}
use Rattle.byte_machine.specs.Values.{calculated_word, truth_word}
use Rattle.byte_machine.specs.Leads.{OpsLead, LeadsBlock}
use Rattle.byte_machine.specs.Running.{moved}
use Rattle.byte_machine.specs.Effects.{bytes_before}
use Rattle.abi_primary.specs.Kinds.{IsDynamic}
use Rattle.byte_machine.proofs.Leads.{leads_end}
use Rattle.byte_machine.proofs.ValueLeads.{leads_type_of, leads_top, leads_top_null, leads_print_class, leads_print_address, leads_const, leads_arith}
use Rattle.byte_machine.proofs.ControlLeads.{leads_jump}
use Rattle.code_blocks.specs.Blocks.{statement_ops}
use Rattle.code_ops.specs.Arguments.{free, taken_ops, pointed_class}
use Rattle.code_ops.specs.Operands.{operand_ops, operand_register, ops_of}
use Rattle.code_ops.specs.Setups.{word_width}
use Rattle.code_ops.specs.Uses.{arrow_used, reads, check_ops}
use Rattle.code_ops.specs.declared.uses.Used.TheVariants.{Guards as GuardsWord, Views as ViewsWord}
use Rattle.agree_parts.specs.Addresses.{address}
use Rattle.agree_parts.proofs.Inside.{known_class, part_positive}
use Rattle.agree_dispatch.specs.Words.{MovesTo, NamesClass}
use Rattle.agree_views.proofs.Telling.{told_top, told_type}
use Rattle.agree_relation.specs.Worlds.{world_classes, places_in, fixed}
use Rattle.agree_relation.specs.Words.{register_word}
use Rattle.agree_relation.specs.Frames.{HasVariables}
use Rattle.agree_relation.specs.Agrees.{Agrees, ReadAs}
use Rattle.agree_relation.proofs.Objects.{objects_laid}
use Rattle.agree_statements.specs.Registers.{at_registers, body_on}
use Rattle.agree_statements.specs.Tests.{nothing, tested}
use Rattle.agree_statements.proofs.Numbers.{equal_words, truth_result}
use Rattle.agree_statements.proofs.Registers.{set_here, set_there, wrote_set, variables_kept, variables_on}
use Rattle.agree_statements.proofs.Operands.{leads_operand}
use Rattle.agree_statements.proofs.Tests.{leads_checks, along_append, unbroken}
use Rattle.agree_statements.proofs.Useds.{operand_class_is, guarded, viewed, open_read, along_reads}
use Rattle.agree_statements.proofs.Told.{part_lies}
use Rattle.agree_statements.proofs.After.{state_on}
use Rattle.agree_statements.proofs.Moves.{move_in, move_fine, move_refused}
use Rattle.agree_statements.proofs.Scenes.{Scene, top, here, scope, block, sees, variables, kind_typed, locals_count, is_free, free_apart, sight_with}
use Rattle.agree_statements.proofs.Finish.{Reaches, to_next, ended, refused, finished}
use Rattle.agree_statements.proofs.Rights.{Taking, DoesRight, took, tells, free_of, free_in, leads_taken}
use Rattle.agree_statements.proofs.SeenPointers.{polymorphic_dynamic, IsSeen, seen_part, leads_seen}

-- the classes that are pointed to
record IsPointer (h : Classes) (e : Scope) (x : TypedOperand) (c : ClassId) : Type 0 where
  has : HasType e x (PointerType c)
  polymorphic : IsPolymorphic h c

type_typed : (h : Classes) (e : Scope) (x : TypedOperand) (c : ClassId) → IsTyped h e (PrintType x c) → IsPointer h e x c
type_typed h e _ _ (prints_type x c has polymorphic) = record { has = has; polymorphic = polymorphic }

view_typed : (h : Classes) (e : Scope) (x : TypedOperand) (c : ClassId) → IsTyped h e (PrintView x c) → IsPointer h e x c
view_typed h e _ _ (prints_view x c has polymorphic) = record { has = has; polymorphic = polymorphic }

record ConversionTarget : Type 0 where
  conversion : Conversion
  target : ValueType ClassId

record IsCompared (h : Classes) (e : Scope) (x : TypedOperand) (k : ConversionTarget) : Type 0 where
  class : ClassId
  pointer : IsPointer h e x class
  converts : Converts h (NumberType TheBool) k.conversion k.target

compared_typed : (h : Classes) (e : Scope) (x : TypedOperand) (d : ClassId) (k : ConversionTarget) → IsConverted h e (record { right = TypeEqual x d; conversion = k.conversion }) k.target → IsCompared h e x k
compared_typed h e x d k typed = by_typed k.conversion k.target typed
  where
    by_typed : (c : Conversion) (t : ValueType ClassId) → IsConverted h e (record { right = TypeEqual x d; conversion = c }) t → IsCompared h e x (record { conversion = c; target = t })
    by_typed c t (a_right _ _ _ (a_type_test _ class _ has polymorphic known) to) = record { class = class; pointer = record { has = has; polymorphic = polymorphic }; converts = to }

tested_class : (h : Classes) (e : Scope) (x : TypedOperand) (d : ClassId) (k : ConversionTarget) → IsConverted h e (record { right = TypeEqual x d; conversion = k.conversion }) k.target → d.0 < length h
tested_class h e x d k typed = by_typed k.conversion k.target typed
  where
    by_typed : (c : Conversion) (t : ValueType ClassId) → IsConverted h e (record { right = TypeEqual x d; conversion = c }) t → d.0 < length h
    by_typed c t (a_right _ _ _ (a_type_test _ class _ has polymorphic known) to) = known

same_turned : (a b : ℕ) → nat_eq a b ≡ nat_eq b a
same_turned a b = grind (arith, nat_tests)

module _ {statement : TypedStatement} (scene : Scene statement) where
  open scene use {w, at, s, f, below, body, b}

  -- the class of the view of a part that is seen
  pub class_told : (v : Value) (c : ClassId) → (k : IsSeen scene v c) → IsDynamic (world_classes w) c → NamesClass w.image b.memory (address (world_classes w) (places_in w) (here scene) k.part) k.under_view.sight.class.0
  class_told v c k dynamic =
      let a = k.under_view in
      subst (λ (p : ObjectPart). NamesClass w.image b.memory (address (world_classes w) (places_in w) (here scene) p) a.sight.class.0) a.is
      (told_type w (here scene) b.memory (part k.part.object k.part.owner a.sight.at) a.sight.class a.sight.complete a.standing a.inner c a.valid a.of_class dynamic)

  -- where the view of it lies
  pub top_told : (v : Value) (c : ClassId) → (k : IsSeen scene v c) → IsDynamic (world_classes w) c → MovesTo w.image b.memory (address (world_classes w) (places_in w) (here scene) k.part) (bytes_before 16) (address (world_classes w) (places_in w) (here scene) (part k.part.object k.part.owner k.under_view.sight.at))
  top_told v c k dynamic =
      let a = k.under_view in
      subst (λ (p : ObjectPart). MovesTo w.image b.memory (address (world_classes w) (places_in w) (here scene) p) (bytes_before 16) (address (world_classes w) (places_in w) (here scene) (part k.part.object k.part.owner a.sight.at))) a.is
      (told_top w (here scene) b.memory (part k.part.object k.part.owner a.sight.at) a.sight.class a.sight.complete a.standing a.inner c a.valid a.of_class dynamic)

  -- the rule's class of the view
  pub type_is : (v : Value) (c : ClassId) → (k : IsSeen scene v c) → typeid_class (world_classes w) s.objects k.part ≡ Some k.under_view.sight.class
  type_is v c k = ap (option_and_then class_of) k.under_view.sight.is_view ∙ k.under_view.sight.there.of_class

  -- class numbers are small
  pub class_small : (v : Value) (c : ClassId) → (k : IsSeen scene v c) → k.under_view.sight.class.0 < 2 ^ 32
  class_small v c k =
      let laid = objects_laid w s.objects b.memory.regions b.objects b.heap scene.world scene.begins.stands.columns.objects in
      let known = known_class (world_classes w) w.setup.rows (here scene) (part k.part.object k.part.owner k.under_view.sight.at) k.under_view.sight.class laid k.under_view.sight.there in
      let few = scene.world.hierarchy.few in
      omega arith

  part_some : (v : Value) (c : ClassId) → (k : IsSeen scene v c) → address (world_classes w) (places_in w) (here scene) k.part ≡ 0 → ⊥
  part_some v c k e =
      let laid = objects_laid w s.objects b.memory.regions b.objects b.heap scene.world scene.begins.stands.columns.objects in
      let some = part_positive (world_classes w) w.setup.rows (here scene) k.part c laid k.made in
      omega arith

  -- one thing is told, and control goes on
  pub tells_out : (raw : RawOut) (out : Out) (next : ℕ) (new : List (Option ℕ)) → HasVariables w (here scene) f new → move_in w s ≡ Moves (state_on s s.objects s.globals (body_on f f.locals next) below) (out ∷ []) → ReadAs w at (here scene) (raw ∷ []) (out ∷ []) →
      OpsLead (fixed w) (Jump (to_next scene next) ∷ []) (ended b b.memory b.globals new (b.outs ++ raw ∷ [])) (Reaches scene)
  tells_out raw out next new variables_there moves same =
      let told : ReadAs w at (here scene) (b.outs ++ raw ∷ []) (out ∷ []) = subst (λ (o : List RawOut). ReadAs w at (here scene) (o ++ raw ∷ []) (out ∷ [])) (sym scene.begins.silent) same in
      leads_jump (fixed w) (to_next scene next) (leads_end (fixed w)
      (finished scene s.objects b.memory s.globals b.globals f.locals next new (b.outs ++ raw ∷ []) (out ∷ []) (record { classes = refl; phases = refl }) refl scene.begins.stands.columns scene.begins.stands.globals (variables_on w (here scene) f next new variables_there) told moves))

module _ (x : TypedOperand) (c : ClassId) (line next : ℕ) (scene : Scene (record { kind = PrintType x c; line = line; next = next })) where
  open scene use {w, at, s, f, below, body, b}

  abbrev type_print : TypedStatement
  type_print = record { kind = PrintType x c; line = line; next = next }

  pub print_type_does : LeadsBlock (fixed w) (statement_ops w.setup at (top scene).on.routine body f.next (record { kind = PrintType x c; line = line; next = next })) b (Agrees w at (move_in w s))
  print_type_does =
      let h = world_classes w in
      let k = type_typed h (scope scene) x c (kind_typed scene) in
      let dynamic = polymorphic_dynamic h c k.polymorphic in
      let to = free (block scene) 1 in
      let from = operand_register (free (block scene) 0) x in
      let v = value_of_operand (sight s f) x in
      leads_seen scene f.locals x c b.top.registers (sees scene) (locals_count scene) k.has dynamic (variables scene)
      (λ rule broken. move_refused w s f below body type_print scene.world scene.next rule tt broken)
      (λ new seen fine kept has.
      let named = class_told scene v c seen dynamic in
      let class = seen.under_view.sight.class in
      let inside = free_in scene f.locals new 1 (omega arith) kept in
      let last = slice_set new to (Some class.0) in
      let moves = move_fine w s f below body type_print scene.world scene.next tt fine refl ∙ ap (λ (y : Value). move_by (telling (state_on s s.objects s.globals (body_on f f.locals next) below) (type_out h s.objects y)) None) seen.is
      ∙ ap (λ (o : Option ClassId). move_by (telling (state_on s s.objects s.globals (body_on f f.locals next) below) (class_out o)) None) (type_is scene v c seen) in
      leads_type_of (fixed w) to from (address h (places_in w) (here scene) seen.part) named.info class.0 (has ∙ ap (register_word w (here scene)) seen.is) named.there named.names inside
      (leads_print_class (fixed w) to class.0 (set_here b new to (Some class.0) inside) (class_small scene v c seen)
      (tells_out scene (RawClass class.0) (TypeNameOut class) next last (variables_kept w (here scene) f to new last (is_free scene 1) kept (wrote_set b new to (Some class.0))) moves (refl, tt))))

module _ {statement : TypedStatement} (scene : Scene statement) (locals : List Value) (variable : Variable) (x : TypedOperand) (d : ClassId) (c : Conversion) (take : Taking scene locals variable (record { right = TypeEqual x d; conversion = c })) where
  open scene use {w, at, s, f, below, body, b}

  abbrev v : Value
  v = value_of_operand (sight_with scene locals) x

  compares : (class : ClassId) (new : List (Option ℕ)) → IsDynamic (world_classes w) class → Converts (world_classes w) (NumberType TheBool) c take.target → IsSeen scene v class → HasVariables w (here scene) (body_on f locals f.next) new → register_of new (operand_register (free (block scene) 0) x) ≡ register_word w (here scene) v
      → move_in w s ≡ Moves (took scene locals variable (converted_to (type_equal (world_classes w) s.objects d v) c)) []
      → OpsLead (fixed w) (TypeOf (free (block scene) 1) (operand_register (free (block scene) 0) x) ∷ Const (free (block scene) 2) d.0 ∷ Arith EqualKind word_width (free (block scene) 3) (free (block scene) 1) (free (block scene) 2)
      ∷ (ops_of (taken_ops (block scene) variable None c (free (block scene) 4) (free (block scene) 3)) ++ (Jump (to_next scene statement.next) ∷ []))) (at_registers b new) (Reaches scene)
  compares class new dynamic to seen variables_there has moves =
      let h = world_classes w in
      let g = here scene in
      let first = free (block scene) 1 in
      let second = free (block scene) 2 in
      let third = free (block scene) 3 in
      let named = class_told scene v class seen dynamic in
      let found = seen.under_view.sight.class in
      let one = slice_set new first (Some found.0) in
      let kept = variables_kept w g (body_on f locals f.next) first new one (free_of scene locals 1 take.count) variables_there (wrote_set b new first (Some found.0)) in
      let two = slice_set one second (Some d.0) in
      let still = variables_kept w g (body_on f locals f.next) second one two (free_of scene locals 2 take.count) kept (wrote_set b one second (Some d.0)) in
      let word = calculated_word EqualKind word_width (number_of_word word_width found.0) (number_of_word word_width d.0) in
      let inside = free_in scene locals two 3 (omega arith) still in
      let three = slice_set two third (Some word) in
      let last = variables_kept w g (body_on f locals f.next) third two three (free_of scene locals 3 take.count) still (wrote_set b two third (Some word)) in
      let small = class_small scene v class seen in
      let d_small = target_small in
      let same : nat_eq found.0 d.0 ≡ nat_eq d.0 found.0 = same_turned found.0 d.0 in
      let result : word ≡ word_of (if nat_eq d.0 found.0 then pos 1 else pos 0) = equal_words found.0 d.0 (omega arith) (omega arith) ∙ ap truth_word same ∙ truth_result (nat_eq d.0 found.0) in
      let value_is : type_equal h s.objects d v ≡ Number (if nat_eq d.0 found.0 then pos 1 else pos 0) = ap (type_equal h s.objects d) seen.is ∙ ap (is_type d) (type_is scene v class seen) in
      leads_type_of (fixed w) first (operand_register (free (block scene) 0) x) (address h (places_in w) g seen.part) named.info found.0 (has ∙ ap (register_word w g) seen.is) named.there named.names (free_in scene locals new 1 (omega arith) variables_there)
      (leads_const (fixed w) second d.0 (free_in scene locals one 2 (omega arith) kept)
      (leads_arith (fixed w) EqualKind word_width third first second found.0 d.0 (omega arith) (omega arith)
      (set_there b one second first (Some d.0) (free_apart scene 1 2 (λ q. omega arith)) ∙ set_here b new first (Some found.0) (free_in scene locals new 1 (omega arith) variables_there)) (set_here b one second (Some d.0) (free_in scene locals one 2 (omega arith) kept)) inside
      (leads_taken scene locals variable (record { right = TypeEqual x d; conversion = c }) take (Number (if nat_eq d.0 found.0 then pos 1 else pos 0)) (NumberType TheBool) c 4 third three (omega arith) to (λ p k i is. absurd (cc)) (bit_in_range (nat_eq d.0 found.0))
      (set_here b two third (Some word) inside ∙ ap (λ (n : ℕ). Some n) result) last (moves ∙ ap (λ (y : Value). Moves (took scene locals variable (converted_to y c)) []) value_is))))
    where
      target_known : d.0 < length (world_classes w)
      target_known = tested_class (world_classes w) (scope scene) x d (record { conversion = c; target = take.target }) take.typed

      target_small : d.0 < 2 ^ 32
      target_small = let few = scene.world.hierarchy.few in let known = target_known in omega arith

  pub type_equal_does : DoesRight scene locals variable (record { right = TypeEqual x d; conversion = c })
  type_equal_does old variables_there =
      let h = world_classes w in
      let k = compared_typed h (scope scene) x d (record { conversion = c; target = take.target }) take.typed in
      let dynamic = polymorphic_dynamic h k.class k.pointer.polymorphic in
      let from = operand_register (free (block scene) 0) x in
      let class : pointed_class (block scene) x ≡ k.class = ap class_or_first (operand_class_is (scope scene) x k.class k.pointer.has) in
      let rest = TypeOf (free (block scene) 1) from ∷ Const (free (block scene) 2) d.0 ∷ Arith EqualKind word_width (free (block scene) 3) (free (block scene) 1) (free (block scene) 2) ∷ (ops_of (taken_ops (block scene) variable None c (free (block scene) 4) (free (block scene) 3)) ++ (Jump (to_next scene statement.next) ∷ [])) in
      subst (λ (q : ClassId). OpsLead (fixed w) (operand_ops (free (block scene) 0) x ++ (check_ops (arrow_used (scope scene) (free (block scene) 0) x q ++ (ViewsWord from 0 q.0 ∷ [])) ++ rest)) (at_registers b old) (Reaches scene)) (sym class)
      (leads_seen scene locals x k.class old take.sees take.count k.pointer.has dynamic variables_there take.refused
      (λ new seen fine kept has. compares k.class new dynamic k.converts seen kept has (take.fine fine)))

module _ (x : TypedOperand) (c : ClassId) (line next : ℕ) (scene : Scene (record { kind = PrintView x c; line = line; next = next })) where
  open scene use {w, at, s, f, below, body, b}

  abbrev view_print : TypedStatement
  view_print = record { kind = PrintView x c; line = line; next = next }

  abbrev view_uses : List StatementUse
  view_uses = Reads (value_of_operand (sight s f) x) ∷ Guards (value_of_operand (sight s f) x) ∷ Views (value_of_operand (sight s f) x) ∷ []

  abbrev source : ℕ
  source = operand_register (free (block scene) 0) x

  tells_view : (y : Value) (new : List (Option ℕ)) → value_of_operand (sight s f) x ≡ y → IsDynamic (world_classes w) c → IsValue (world_classes w) s.objects.classes y (PointerType c) → is_unset y ≡ false → ((r : Undefined) → is_broken (world_classes w) s.objects view_uses r ≡ false) → HasVariables w (here scene) f new
      → register_of new source ≡ register_word w (here scene) y → move_in w s ≡ move_by (telling (state_on s s.objects s.globals (body_on f f.locals next) below) (view_out (world_classes w) s.objects y)) None
      → OpsLead (fixed w) (Top (free (block scene) 1) source ∷ PrintOp (free (block scene) 1) AsAddress ∷ Jump (to_next scene next) ∷ []) (at_registers b new) (Reaches scene)
  tells_view Unset new is dynamic typed set none kept has moves = absurd (let e : true ≡ false = set in cc)
  tells_view (Number z) new is dynamic typed set none kept has moves = absurd typed
  tells_view Null new is dynamic typed set none kept has moves =
      let to = free (block scene) 1 in
      let inside = free_in scene f.locals new 1 (omega arith) kept in
      leads_top_null (fixed w) to source has inside
      (leads_print_address (fixed w) to 0 (set_here b new to (Some 0) inside)
      (tells_out scene (RawAddress 0) (PointerOut None) next (slice_set new to (Some 0)) (variables_kept w (here scene) f to new (slice_set new to (Some 0)) (is_free scene 1) kept (wrote_set b new to (Some 0))) moves (refl, tt)))
  tells_view (Pointer p) new is dynamic made set none kept has moves =
      let h = world_classes w in
      let to = free (block scene) 1 in
      let inside = free_in scene f.locals new 1 (omega arith) kept in
      let seen = seen_part scene f.locals x c view_uses p is made dynamic none (inl refl) (inr (inl refl)) (inr (inr (inl refl))) in
      let one : Pointer p ≡ Pointer seen.part = sym is ∙ seen.is in
      let same : seen.part ≡ p = cc in
      let q = part seen.part.object seen.part.owner seen.under_view.sight.at in
      let led = top_told scene (value_of_operand (sight s f) x) c seen dynamic in
      let word : Option ℕ = Some (moved (address h (places_in w) (here scene) seen.part) led.by) in
      let last = slice_set new to word in
      let told : register_of last to ≡ Some (address h (places_in w) (here scene) q) = set_here b new to word inside ∙ ap (λ (n : ℕ). Some n) led.leads in
      let view_is : view_out h s.objects (Pointer p) ≡ Some (PointerOut (Some (location_of s.objects q))) = ap (λ (z : ObjectPart). view_out h s.objects (Pointer z)) (sym same) ∙ ap (λ (o : Option Subobject). part_out s.objects (option_map (part seen.part.object seen.part.owner) o)) seen.under_view.sight.is_view in
      leads_top (fixed w) to source (address h (places_in w) (here scene) seen.part) led.by (has ∙ ap (λ (z : ObjectPart). register_word w (here scene) (Pointer z)) (sym same)) (part_some scene (value_of_operand (sight s f) x) c seen) led.there inside
      (leads_print_address (fixed w) to (address h (places_in w) (here scene) q) told
      (tells_out scene (RawAddress (address h (places_in w) (here scene) q)) (PointerOut (Some (location_of s.objects q))) next last (variables_kept w (here scene) f to new last (is_free scene 1) kept (wrote_set b new to word))
      (moves ∙ ap (λ (o : Option Out). move_by (telling (state_on s s.objects s.globals (body_on f f.locals next) below) o) None) view_is) (part_lies w s.objects b.memory.regions q seen.under_view.sight.class seen.under_view.sight.there, tt)))

  pub print_view_does : LeadsBlock (fixed w) (statement_ops w.setup at (top scene).on.routine body f.next (record { kind = PrintView x c; line = line; next = next })) b (Agrees w at (move_in w s))
  print_view_does =
      let h = world_classes w in
      let e = scope scene in
      let k = view_typed h e x c (kind_typed scene) in
      let dynamic = polymorphic_dynamic h c k.polymorphic in
      let r = free (block scene) 0 in
      let v = value_of_operand (sight s f) x in
      let stands = variables scene in
      let typed = operand_typed h e (sight s f) (sees scene) x (PointerType c) k.has in
      leads_operand (fixed w) w (here scene) s f e b x (PointerType c) r b.top.registers (sees scene) scene.begins.stands.globals stands k.has (free_in scene f.locals b.top.registers 0 (omega arith) stands)
      (λ new read. leads_checks (fixed w) (at_registers b new) (Reaches scene) h s.objects view_uses (reads e r x ++ (GuardsWord source 0 c.0 ∷ ViewsWord source 0 c.0 ∷ []))
      (along_append (fixed w) (at_registers b new) (Reaches scene) h s.objects view_uses (Reads v ∷ []) (Guards v ∷ Views v ∷ []) (reads e r x) (GuardsWord source 0 c.0 ∷ ViewsWord source 0 c.0 ∷ [])
      (along_reads w (sight s f) (at_registers b new) (Reaches scene) scene.world scene.begins.stands.columns view_uses e r x (PointerType c) (sees scene) k.has read.word)
      (tested (Guards v) (GuardsWord source 0 c.0) (guarded w (sight s f) (at_registers b new) (Reaches scene) scene.world scene.begins.stands.columns view_uses source v c typed read.word)
      (tested (Views v) (ViewsWord source 0 c.0) (viewed w (sight s f) (at_registers b new) (Reaches scene) scene.world scene.begins.stands.columns view_uses source v c (tells scene new)
      (open_read w (sight s f) (at_registers b new) (Reaches scene) scene.world scene.begins.stands.columns view_uses v (inl refl)) (inr (inl refl)) dynamic typed read.word) nothing)))
      (λ fine none. tells_view v new refl dynamic typed (unbroken (fixed w) b (Reaches scene) h s.objects view_uses (Reads v) UnsetUse (none UnsetUse) (inl refl)) none
      (variables_kept w (here scene) f r b.top.registers new (is_free scene 0) stands read.wrote) read.word (move_fine w s f below body view_print scene.world scene.next tt fine refl))
      (λ rule broken. refused scene rule (at_registers b new) refl (move_refused w s f below body view_print scene.world scene.next rule tt broken)))
