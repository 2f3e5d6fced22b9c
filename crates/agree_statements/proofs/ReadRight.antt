-- `v = p->m;` of a number or a pointer
use Rattle.std.proofs.Common.{◌≡◌, ℕ, Bool, true, false, Option, Some, None, List, [], ◌∷◌, ◌++◌, inl, inr, refl, ap, sym, ◌∙◌, subst, arith}
use Rattle.std.specs.Prelude.{slice_set}
use Rattle.std.specs.Option.{option_or}
use Rattle.std.proofs.Math.Nat.{add-zero}
use Rattle.foundation.proofs.Truth.{split}
use Rattle.cxx_hierarchy.specs.declared.records.ClassId.{ClassId}
use Rattle.cxx_hierarchy.specs.declared.records.FieldType.TheVariants.{Value as ValueField}
use Rattle.cxx_hierarchy.specs.declared.records.ValueType.{ValueType}
use Rattle.cxx_hierarchy.specs.declared.records.ValueType.TheVariants.{Number as NumberType, Pointer as PointerType}
use Rattle.cxx_hierarchy.specs.Classes.{Classes}
use Rattle.cxx_program.specs.declared.operand.Variable.{Variable}
use Rattle.cxx_program.specs.declared.operand.Conversion.{Conversion}
use Rattle.cxx_program.specs.declared.statement.Converted.{Converted}
use Rattle.cxx_program.specs.declared.statement.TypedPlace.{TypedPlace}
use Rattle.cxx_program.specs.declared.statement.TypedRight.TheVariants.{Read}
use Rattle.cxx_program.specs.declared.statement.TypedStatement.{TypedStatement}
use Rattle.cxx_program.specs.Typed.{Scope, Converts, to_number, to_same, to_base, IsPlace, a_read, IsConverted, a_right}
use Rattle.path_rules.specs.declared.Undefined.{Undefined}
use Rattle.path_rules.specs.declared.Undefined.TheVariants.{Dangling, Unset as UnsetUse}
use Rattle.path_model.specs.Values.{Value, Unset, Number, Null, Pointer, Objects, value_of_operand, converted_to}
use Rattle.path_model.specs.Places.{leaf_value, leaf_at}
use Rattle.path_model.specs.Uses.{StatementUse, Reads, Guards, convert, is_shared, uses_of_view}
use Rattle.path_model.specs.Rules.{is_unset, is_broken}
use Rattle.path_model.specs.Order.{first_broken, sorted, asked_place, leaf_order}
use Rattle.path_model.specs.Runs.{Moves}
use Rattle.path_model.specs.TypedStates.{IsValue, IsInBitField, width_of_leaf}
use Rattle.path_model.proofs.Sorted.{broken_append}
use Rattle.byte_memory.specs.Bits.{number_from}
use Rattle.byte_machine.specs.Frames.{register_of}
use Rattle.byte_code.specs.declared.op.Finish.TheVariants.{Check as CheckOp}
use Rattle.byte_code.specs.declared.op.Op.{Op}
use Rattle.byte_code.specs.declared.op.Op.TheVariants.{Does, Jump}
use Rattle.byte_machine.specs.Running.{moved}
use Rattle.byte_machine.specs.Leads.{OpsLead}
use Rattle.code_ops.specs.Arguments.{free, taken_ops}
use Rattle.code_ops.specs.Operands.{operand_register, pointed, ops_of}
use Rattle.code_ops.specs.PlaceOps.{place_ops, place_type}
use Rattle.code_ops.specs.Leaves.{place_leaf, set_check, load_op}
use Rattle.code_ops.specs.declared.widths.LeafWidth.{LeafWidth}
use Rattle.code_ops.specs.Uses.{check_ops}
use Rattle.code_ops.specs.declared.uses.Used.TheVariants.{ReadsPointer}
use Rattle.code_statements.specs.Rights.{loaded_used, load_ops}
use Rattle.agree_parts.specs.Addresses.{leaf_address}
use Rattle.agree_relation.specs.Worlds.{world_classes, places_in, fixed}
use Rattle.agree_relation.specs.Words.{register_word}
use Rattle.agree_relation.specs.Frames.{HasVariables}
use Rattle.agree_relation.proofs.LeafReads.{leaf_some, leaf_none}
use Rattle.agree_relation.proofs.Moved.{moved_below}
use Rattle.agree_relation.proofs.LeafWidths.{width_span, loaded_as, IsReached, leads_set_check, leads_unset_check, leads_load_leaf}
use Rattle.agree_statements.specs.Registers.{at_registers, body_on}
use Rattle.agree_statements.specs.Tests.{Along, nothing, tested}
use Rattle.agree_statements.proofs.Registers.{leads_grouped, leads_regrouped, set_here, wrote_set, variables_kept}
use Rattle.agree_statements.proofs.Tests.{leads_checks, unbroken}
use Rattle.agree_statements.proofs.Useds.{pointer_read, along_convert, open_read}
use Rattle.agree_statements.proofs.Conversions.{IsSure}
use Rattle.agree_statements.proofs.Scenes.{Scene, here, scope, block, sight_with}
use Rattle.agree_statements.proofs.Finish.{Reaches, to_next, refused}
use Rattle.agree_statements.proofs.Rights.{Taking, DoesRight, took, tells, sure, free_of, free_in, leads_taken}
use Rattle.agree_statements.proofs.Places.{IsAimed, leads_place, IsLeaf, leaf_of}
use Rattle.agree_statements.proofs.PlaceFronts.{leads_aimed}

-- what is asked of a value that was loaded and is set
abbrev loaded_uses : ValueType ClassId → Value → Conversion → List StatementUse
loaded_uses (NumberType t) v c = []
loaded_uses (PointerType d) v c = Reads v ∷ convert v c

none_then : (o : Option Undefined) (r : Undefined) → o ≡ Some r → option_or o None ≡ Some r
none_then o r e = rw e refl

-- the tests of the order behind the first one are those of a stage
loaded_order : (h : Classes) (s : Objects) (v : Value) (t u : ValueType ClassId) (c : Conversion) → Converts h t c u → IsValue h s.classes v t → is_unset v ≡ false → first_broken h s (leaf_order v c) ≡ first_broken h s (sorted (loaded_uses t v c))
unfolding sorted
loaded_order h s Unset _ _ _ (to_number a b) typed set = absurd (let f : true ≡ false = set in cc)
loaded_order h s (Number z) _ _ _ (to_number a b) typed set = refl
loaded_order h s Null _ _ _ (to_number a b) typed set = absurd typed
loaded_order h s (Pointer p) _ _ _ (to_number a b) typed set = absurd typed
loaded_order h s Unset _ _ _ (to_same t) typed set = absurd (let f : true ≡ false = set in cc)
loaded_order h s (Number z) _ _ _ (to_same (NumberType t)) typed set = refl
loaded_order h s (Number z) _ _ _ (to_same (PointerType t)) typed set = absurd typed
loaded_order h s Null _ _ _ (to_same (NumberType t)) typed set = absurd typed
loaded_order h s Null _ _ _ (to_same (PointerType t)) typed set = refl
loaded_order h s (Pointer p) _ _ _ (to_same (NumberType t)) typed set = absurd typed
loaded_order h s (Pointer p) _ _ _ (to_same (PointerType t)) typed set = refl
loaded_order h s v _ _ _ (to_base c d i proper) typed set = by_way (is_shared i)
  where
    by_way : (x : Bool) → first_broken h s (record { rule = UnsetUse; of = Reads v } ∷ record { rule = Dangling; of = Reads v } ∷ sorted (Guards v ∷ uses_of_view x v)) ≡ first_broken h s (sorted (Reads v ∷ Guards v ∷ uses_of_view x v))
    by_way true = rw set refl
    by_way false = rw set refl

-- the type of a leaf that is read
record IsRead (h : Classes) (e : Scope) (place : TypedPlace) (c : Conversion) (target : ValueType ClassId) : Type 0 where
  type : ValueType ClassId
  place_typed : IsPlace h e place (ValueField type)
  converts : Converts h type c target

read_typed : (h : Classes) (e : Scope) (place : TypedPlace) (c : Conversion) (target : ValueType ClassId) → IsConverted h e (record { right = Read place; conversion = c }) target → IsRead h e place c target
read_typed h e place c target (a_right _ t _ (a_read _ _ is) to) = record { type = t; place_typed = is; converts = to }

module _ {statement : TypedStatement} (scene : Scene statement) (locals : List Value) (variable : Variable) (place : TypedPlace) (c : Conversion) (take : Taking scene locals variable (record { right = Read place; conversion = c })) where
  open scene use {w, at, s, f, below, body, b}

  abbrev v : Value
  v = value_of_operand (sight_with scene locals) place.pointer

  abbrev reading : Converted
  reading = record { right = Read place; conversion = c }

  -- the tests of the value that was loaded
  loaded_tests : (new : List (Option ℕ)) (t target : ValueType ClassId) (lv : Value) (r : ℕ) → Converts (world_classes w) t c target → IsValue (world_classes w) s.objects.classes lv t → register_of new r ≡ register_word w (here scene) lv →
      Along (fixed w) (at_registers b new) (Reaches scene) (world_classes w) s.objects (loaded_uses t lv c) (loaded_uses t lv c) (loaded_used t c r)
  loaded_tests new (NumberType t) target lv r to typed has = nothing
  loaded_tests new (PointerType d) target lv r to typed has =
      tested (Reads lv) (ReadsPointer r) (pointer_read w (sight_with scene locals) (at_registers b new) (Reaches scene) scene.world scene.begins.stands.columns (Reads lv ∷ convert lv c) r lv d typed has)
      (along_convert w (sight_with scene locals) (at_registers b new) (Reaches scene) scene.world scene.begins.stands.columns (Reads lv ∷ convert lv c) r lv (PointerType d) target c (tells scene new)
      (open_read w (sight_with scene locals) (at_registers b new) (Reaches scene) scene.world scene.begins.stands.columns (Reads lv ∷ convert lv c) lv (inl refl)) (λ u there. inr there) to typed has)

  loaded_sure : (t : ValueType ClassId) (lv : Value) → IsValue (world_classes w) s.objects.classes lv t → ((r : Undefined) → is_broken (world_classes w) s.objects (loaded_uses t lv c) r ≡ false) → IsSure w s.objects b lv c
  loaded_sure (NumberType t) Unset typed none = λ p k i is. absurd (cc)
  loaded_sure (NumberType t) (Number z) typed none = λ p k i is. absurd (cc)
  loaded_sure (NumberType t) Null typed none = absurd typed
  loaded_sure (NumberType t) (Pointer p) typed none = absurd typed
  loaded_sure (PointerType d) lv typed none = sure scene lv c (Reads lv ∷ convert lv c) none (λ u there. inr there) (unbroken (fixed w) b (Reaches scene) (world_classes w) s.objects (Reads lv ∷ convert lv c) (Reads lv) Dangling (none Dangling) (inl refl))

  -- a leaf that is set is loaded, tested and taken
  loads : (new : List (Option ℕ)) (t : ValueType ClassId) (a : IsAimed scene v place) → IsLeaf scene v place t a → Converts (world_classes w) t c take.target → first_broken (world_classes w) s.objects (sorted (asked_place v place)) ≡ None → HasVariables w (here scene) (body_on f locals f.next) new
      → register_of new (free (block scene) 1) ≡ Some (leaf_address (world_classes w) (places_in w) (here scene) (leaf_at a.part place))
      → OpsLead (fixed w) (Does (CheckOp (set_check (place_leaf w.setup place) (free (block scene) 1))) ∷ load_op (place_leaf w.setup place) (free (block scene) 2) (free (block scene) 1)
      ∷ (check_ops (loaded_used t c (free (block scene) 2)) ++ (ops_of (taken_ops (block scene) variable (pointed t) c (free (block scene) 3) (free (block scene) 2)) ++ (Jump (to_next scene statement.next) ∷ [])))) (at_registers b new) (Reaches scene)
  loads new t a leaf to fine variables has = split (is_unset lv) (λ x. OpsLead (fixed w) ops (at_registers b new) (Reaches scene)) unset_case set_case
    where
      lv : Value
      lv = s.objects.leaf (leaf_at a.part place)

      ops : List Op
      ops = Does (CheckOp (set_check (place_leaf w.setup place) (free (block scene) 1))) ∷ load_op (place_leaf w.setup place) (free (block scene) 2) (free (block scene) 1) ∷ (check_ops (loaded_used t c (free (block scene) 2)) ++ (ops_of (taken_ops (block scene) variable (pointed t) c (free (block scene) 3) (free (block scene) 2)) ++ (Jump (to_next scene statement.next) ∷ [])))

      there : ℕ
      there = leaf_address (world_classes w) (places_in w) (here scene) (leaf_at a.part place)

      -- how the leaf stands
      stand : LeafWidth
      stand = place_leaf w.setup place

      value_is : leaf_value (sight_with scene locals) place v ≡ lv
      value_is = ap (leaf_value (sight_with scene locals) place) a.is

      typed : IsValue (world_classes w) s.objects.classes lv t
      typed = take.sees.leaves (leaf_at a.part place) t leaf.made

      held : IsInBitField (width_of_leaf (world_classes w) (leaf_at a.part place)) lv t
      held = scene.next.typed.held (leaf_at a.part place) t leaf.made

      same : moved there 0 ≡ there
      same = moved_below there 0 there (sym (add-zero there)) leaf.low

      reached : IsReached b.memory.regions (moved there 0) stand
      reached = subst (λ (n : ℕ). IsReached b.memory.regions n stand) (sym same) leaf.stands.reached

      bits_at : (o : Option ℕ) → number_from b.memory.bit (width_span stand there).start (width_span stand there).length ≡ o → number_from b.memory.bit (width_span stand (moved there 0)).start (width_span stand (moved there 0)).length ≡ o
      bits_at o e = ap (λ (n : ℕ). number_from b.memory.bit (width_span stand n).start (width_span stand n).length) same ∙ e

      after_place : (o : Option Undefined) → first_broken (world_classes w) s.objects (leaf_order lv c) ≡ o → first_broken (world_classes w) s.objects (sorted (asked_place v place) ++ leaf_order (leaf_value (sight_with scene locals) place v) c) ≡ o
      after_place o e = broken_append (world_classes w) s.objects (sorted (asked_place v place)) (leaf_order (leaf_value (sight_with scene locals) place v) c) ∙ ap (λ (q : Option Undefined). option_or q (first_broken (world_classes w) s.objects (leaf_order (leaf_value (sight_with scene locals) place v) c))) fine
          ∙ ap (λ (u : Value). first_broken (world_classes w) s.objects (leaf_order u c)) value_is ∙ e

      some_address : there ≡ 0 → ⊥
      some_address = leaf.some

      unset_case : is_unset lv ≡ true → OpsLead (fixed w) ops (at_registers b new) (Reaches scene)
      unset_case unset = leads_unset_check (fixed w) (place_leaf w.setup place) (free (block scene) 1) there has some_address reached
          (bits_at None (leaf_none w s.objects b.memory (leaf_at a.part place) t (width_span stand there) scene.begins.stands.columns.leaves leaf.made leaf.is_open leaf.stands.bits unset))
          (refused scene UnsetUse (at_registers b new) refl (take.refused UnsetUse (after_place (Some UnsetUse) (rw unset refl))))

      set_case : is_unset lv ≡ false → OpsLead (fixed w) ops (at_registers b new) (Reaches scene)
      set_case set =
          let h = world_classes w in
          let g = here scene in
          let to_register = free (block scene) 2 in
          let low = leaf_some w s.objects b.memory (leaf_at a.part place) t (width_span stand there) scene.begins.stands.columns.leaves leaf.made leaf.is_open leaf.stands.bits set in
          let bits = bits_at (Some low.0) low.1 in
          let word : Option ℕ = Some (loaded_as stand low.0) in
          let loaded : register_word w g lv ≡ word = leaf.stands.loaded lv low.0 there typed held low.2 in
          let inside = free_in scene locals new 2 (omega arith) variables in
          let last = slice_set new to_register word in
          let kept = variables_kept w g (body_on f locals f.next) to_register new last (free_of scene locals 2 take.count) variables (wrote_set b new to_register word) in
          let is : register_of last to_register ≡ register_word w g lv = set_here b new to_register word inside ∙ sym loaded in
          let order = loaded_order h s.objects lv t take.target c to typed set in
          leads_set_check (fixed w) (place_leaf w.setup place) (free (block scene) 1) there low.0 has reached bits
          (leads_load_leaf (fixed w) (place_leaf w.setup place) to_register (free (block scene) 1) there low.0 has reached bits inside
          (leads_checks (fixed w) (at_registers b last) (Reaches scene) h s.objects (loaded_uses t lv c) (loaded_used t c to_register) (loaded_tests last t take.target lv to_register to typed is)
          (λ clear none. leads_taken scene locals variable reading take lv t c 3 to_register last (omega arith) to (loaded_sure t lv typed none) typed is kept
          (take.fine (after_place None (order ∙ clear)) ∙ ap (λ (u : Value). Moves (took scene locals variable (converted_to u c)) []) value_is))
          (λ rule broken. refused scene rule (at_registers b last) refl (take.refused rule (after_place (Some rule) (order ∙ broken))))))

  pub read_does : DoesRight scene locals variable (record { right = Read place; conversion = c })
  read_does old variables =
      let h = world_classes w in
      let e = scope scene in
      let k = read_typed h e place c take.target take.typed in
      let jump = Jump (to_next scene statement.next) ∷ [] in
      let at_register = free (block scene) 1 in
      let loaded = free (block scene) 2 in
      let front = load_ops (block scene) place loaded at_register in
      leads_aimed scene locals place old take.sees take.count k.place_typed.pointer k.place_typed.path variables
      (λ rule broken. take.refused rule (broken_append h s.objects (sorted (asked_place v place)) (leaf_order (leaf_value (sight_with scene locals) place v) c) ∙ rw broken refl))
      (λ new a fine kept has.
      let leaf = leaf_of scene e v place k.type a k.place_typed in
      leads_grouped (fixed w) front (check_ops (loaded_used (place_type w.setup place) c loaded) ++ ops_of (taken_ops (block scene) variable (pointed (place_type w.setup place)) c (free (block scene) 3) loaded)) jump
      (leads_grouped (fixed w) (ops_of (place_ops w.setup place at_register (operand_register (free (block scene) 0) place.pointer))) (Does (CheckOp (set_check (place_leaf w.setup place) at_register)) ∷ load_op (place_leaf w.setup place) loaded at_register ∷ []) _
      (leads_place scene v place k.place_typed.class (leaf_address h (places_in w) (here scene) (leaf_at a.part place)) at_register (operand_register (free (block scene) 0) place.pointer) new a k.place_typed.path k.place_typed.of_class leaf.sum leaf.low has (free_in scene locals new 1 (omega arith) kept)
      (λ last wrote is.
      let still = variables_kept w (here scene) (body_on f locals f.next) at_register new last (free_of scene locals 1 take.count) kept wrote in
      leads_regrouped (fixed w) (Does (CheckOp (set_check (place_leaf w.setup place) at_register)) ∷ load_op (place_leaf w.setup place) loaded at_register ∷ []) (check_ops (loaded_used (place_type w.setup place) c loaded)) (ops_of (taken_ops (block scene) variable (pointed (place_type w.setup place)) c (free (block scene) 3) loaded)) jump
      (subst (λ (type : ValueType ClassId). OpsLead (fixed w) (Does (CheckOp (set_check (place_leaf w.setup place) at_register)) ∷ load_op (place_leaf w.setup place) loaded at_register ∷ (check_ops (loaded_used type c loaded) ++ (ops_of (taken_ops (block scene) variable (pointed type) c (free (block scene) 3) loaded) ++ jump))) (at_registers b last) (Reaches scene)) (sym leaf.type_is)
      (loads last k.type a leaf k.converts fine still is))))))
