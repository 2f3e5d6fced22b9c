-- `p->m = x;`
use Rattle.std.proofs.Common.{◌≡◌, ℕ, ◌^◌, false, Option, Some, None, List, [], ◌∷◌, ◌++◌, inl, refl, ap, sym, ◌∙◌, subst, arith}
use Rattle.std.proofs.Math.Nat.{add-zero}
use Rattle.foundation.proofs.Members.{has_left, has_right}
use Rattle.cxx_hierarchy.specs.declared.records.ClassId.{ClassId}
use Rattle.cxx_hierarchy.specs.declared.records.FieldType.TheVariants.{Value as ValueField}
use Rattle.cxx_hierarchy.specs.declared.records.ValueType.{ValueType}
use Rattle.cxx_hierarchy.specs.declared.records.ValueType.TheVariants.{Number as NumberType, Pointer as PointerType}
use Rattle.cxx_hierarchy.specs.Classes.{Classes, width_of_member}
use Rattle.cxx_hierarchy.specs.Hierarchies.{IsHierarchy}
use Rattle.cxx_program.specs.declared.operand.Argument.{Argument}
use Rattle.agree_relation.specs.Columns.{ColumnsStand}
use Rattle.cxx_program.specs.declared.statement.TypedKind.TheVariants.{Write}
use Rattle.cxx_program.specs.declared.statement.TypedPlace.{TypedPlace}
use Rattle.cxx_program.specs.declared.statement.TypedStatement.{TypedStatement}
use Rattle.cxx_program.specs.Typed.{Scope, HasType, IsTyped, writes, IsPlace, IsKept, whole, in_bits, place_width, width_within}
use Rattle.path_rules.specs.declared.Undefined.TheVariants.{Unset as UnsetUse}
use Rattle.path_model.specs.Values.{Value, Sight, value_of_operand, argument_value}
use Rattle.path_model.specs.Places.{leaf_at}
use Rattle.path_model.specs.Uses.{StatementUse, Reads, argument_uses, place_uses}
use Rattle.path_model.specs.Rules.{is_unset, refused as refused_by}
use Rattle.path_model.specs.Order.{asked_place}
use Rattle.path_model.specs.States.{sight, wanted_result}
use Rattle.path_model.specs.Effects.{written, leaf_set}
use Rattle.path_model.specs.Runs.{move_by}
use Rattle.path_model.specs.TypedStates.{IsValue}
use Rattle.path_model.specs.Typed.{IsPlaceAt}
use Rattle.path_model.proofs.Statements.{statement_answers}
use Rattle.path_model.proofs.TypedBits.{HasRoom, member_room, kept_typed}
use Rattle.path_model.proofs.TypedValues.{operand_typed}
use Rattle.byte_machine.specs.Frames.{register_of}
use Rattle.byte_code.specs.declared.op.Op.TheVariants.{Jump}
use Rattle.byte_machine.specs.Running.{moved}
use Rattle.byte_machine.specs.Leads.{OpsLead, LeadsBlock}
use Rattle.byte_machine.proofs.Leads.{leads_end}
use Rattle.byte_machine.proofs.ControlLeads.{leads_jump}
use Rattle.code_blocks.specs.Blocks.{statement_ops}
use Rattle.code_ops.specs.Arguments.{free, argument_front, argument_used}
use Rattle.code_ops.specs.Operands.{operand_ops, operand_register}
use Rattle.code_ops.specs.PlaceOps.{place_used}
use Rattle.code_ops.specs.Leaves.{place_leaf, store_op}
use Rattle.agree_parts.specs.Addresses.{leaf_address}
use Rattle.agree_relation.specs.Worlds.{world_classes, places_in, fixed}
use Rattle.agree_relation.specs.Words.{register_word}
use Rattle.agree_relation.specs.Frames.{HasVariables}
use Rattle.agree_relation.specs.Agrees.{Agrees}
use Rattle.agree_relation.proofs.LeafStores.{leaf_stored}
use Rattle.agree_relation.proofs.LeafWidths.{MayHaveWidth, width_span, IsReached, element_width, leads_store_leaf}
use Rattle.agree_relation.proofs.StoredBits.{store_span}
use Rattle.agree_relation.proofs.Moved.{moved_below}
use Rattle.agree_relation.proofs.Values.{word_some}
use Rattle.agree_statements.specs.Registers.{at_registers, body_on}
use Rattle.agree_statements.proofs.Registers.{leads_grouped, variables_kept, variables_on}
use Rattle.agree_statements.proofs.Operands.{leads_operand, operand_kept, operand_apart}
use Rattle.agree_statements.proofs.Tests.{leads_checks, along_append, unbroken}
use Rattle.agree_statements.proofs.Useds.{along_kept}
use Rattle.agree_statements.proofs.PlaceTests.{along_place}
use Rattle.agree_statements.proofs.ArgumentLeads.{argument_set, leads_argument}
use Rattle.agree_statements.proofs.Givens.{value_of}
use Rattle.agree_statements.proofs.Scenes.{Scene, top, here, scope, block, sees, variables, kind_typed, is_free, free_apart}
use Rattle.agree_statements.proofs.Finish.{Reaches, to_next, refused, finished}
use Rattle.agree_statements.proofs.Taken.{silent}
use Rattle.agree_statements.proofs.After.{state_on}
use Rattle.agree_statements.proofs.Moves.{move_in, move_fine, move_refused}
use Rattle.agree_statements.proofs.Rights.{tells, free_in}
use Rattle.agree_statements.proofs.OperandRight.{argument_type}
use Rattle.agree_statements.proofs.Places.{IsAimed, aimed_among, leads_place, IsLeaf, leaf_of}

-- the types of a place and of what is written there
record IsWritten (h : Classes) (e : Scope) (place : TypedPlace) (a : Argument) : Type 0 where
  type : ValueType ClassId
  place_typed : IsPlace h e place (ValueField type)
  kept : IsKept h e (place_width h place) a type

written_typed : (h : Classes) (e : Scope) (place : TypedPlace) (a : Argument) → IsTyped h e (Write place a) → IsWritten h e place a
written_typed h e _ _ (writes place a t is kept) = record { type = t; place_typed = is; kept = kept }

-- the width of a place is one that its type may have
width_may : (h : Classes) (e : Scope) (place : TypedPlace) (t : ValueType ClassId) → IsHierarchy h → IsPlace h e place (ValueField t) → MayHaveWidth (place_width h place) t × HasRoom (place_width h place) t
width_may h e place t keeps is =
    let same : place_width h place ≡ width_of_member h is.class place.member = ap (λ (o : Option ClassId). width_within h o place.member) is.of_class in
    subst (λ (o : Option ℕ). MayHaveWidth o t × HasRoom o t) (sym same) (element_width h is.class place.member place.index t keeps is.element, member_room h keeps is.class place.member place.index t is.element)

-- an argument that a leaf keeps has an operand of some type
kept_operand : (h : Classes) (e : Scope) (width : Option ℕ) (a : Argument) (t : ValueType ClassId) → IsKept h e width a t → (s : ValueType ClassId) × HasType e a.operand s
kept_operand h e _ _ _ (whole a t is) = argument_type h e a t is
kept_operand h e _ _ _ (in_bits a n s t has is) = (NumberType s, has)

module _ (place : TypedPlace) (a : Argument) (line next : ℕ) (scene : Scene (record { kind = Write place a; line = line; next = next })) where
  open scene use {w, at, s, f, below, body, b}

  abbrev writing : TypedStatement
  writing = record { kind = Write place a; line = line; next = next }

  abbrev see : Sight
  see = sight s f

  abbrev v : Value
  v = value_of_operand see place.pointer

  abbrev uses : List StatementUse
  uses = asked_place v place ++ argument_uses see a

  -- the value is stored, and control goes on
  stores : (new : List (Option ℕ)) (t : ValueType ClassId) (k : IsAimed scene v place) → IsLeaf scene v place t k → IsValue (world_classes w) s.objects.classes (argument_value see a) t → is_unset (argument_value see a) ≡ false → HasVariables w (here scene) f new
      → register_of new (free (block scene) 2) ≡ Some (leaf_address (world_classes w) (places_in w) (here scene) (leaf_at k.part place)) → register_of new (free (block scene) 3) ≡ register_word w (here scene) (argument_value see a)
      → move_in w s ≡ move_by (written (state_on s s.objects s.globals (body_on f f.locals next) below) place (argument_value see a) v) None
      → OpsLead (fixed w) (store_op (place_leaf w.setup place) (free (block scene) 3) (free (block scene) 2) 0 ∷ Jump (to_next scene next) ∷ []) (at_registers b new) (Reaches scene)
  stores new t k leaf typed set variables has_place has_value moves =
      let h = world_classes w in
      let g = here scene in
      let there = leaf_address h (places_in w) g (leaf_at k.part place) in
      let x = argument_value see a in
      let stand = place_leaf w.setup place in
      let word = word_some w g (256 ^ 8) x set in
      let same : moved there 0 ≡ there = moved_below there 0 there (sym (add-zero there)) leaf.low in
      let reached = subst (λ (n : ℕ). IsReached b.memory.regions n stand) (sym same) leaf.stands.reached in
      let columns = leaf_stored w s.objects b.memory b.objects b.heap b.notes (leaf_at k.part place) t x word.0 (width_span stand there) scene.world scene.begins.stands.columns leaf.made leaf.stands.bits (leaf.stands.stored x word.0 there typed word.1) in
      let columns' = subst (λ (n : ℕ). ColumnsStand w (leaf_set s.objects (leaf_at k.part place) x) (store_span b.memory (width_span stand n) word.0) b.objects b.heap b.notes) (sym same) columns in
      leads_store_leaf (fixed w) (place_leaf w.setup place) (free (block scene) 3) (free (block scene) 2) 0 there word.0 has_place (has_value ∙ word.1) reached
      (leads_jump (fixed w) (to_next scene next) (leads_end (fixed w)
      (finished scene (leaf_set s.objects (leaf_at k.part place) x) (store_span b.memory (width_span stand (moved there 0)) word.0) s.globals b.globals f.locals next new b.outs [] (record { classes = refl; phases = refl }) refl columns' scene.begins.stands.globals
      (variables_on w g f next new variables) (silent scene f.locals) (moves ∙ ap (λ (y : Value). move_by (written (state_on s s.objects s.globals (body_on f f.locals next) below) place x y) None) k.is))))

  pub write_does : LeadsBlock (fixed w) (statement_ops w.setup at (top scene).on.routine body f.next (record { kind = Write place a; line = line; next = next })) b (Agrees w at (move_in w s))
  write_does =
      let h = world_classes w in
      let e = scope scene in
      let g = here scene in
      let k = written_typed h e place a (kind_typed scene) in
      let t = kept_operand h e (place_width h place) a k.type k.kept in
      let may = width_may h e place k.type scene.world.hierarchy k.place_typed in
      let has = k.place_typed.pointer in
      let first = free (block scene) 0 in
      let second = free (block scene) 1 in
      let from = operand_register first place.pointer in
      let stands = variables scene in
      let pointer_typed = operand_typed h e see (sees scene) place.pointer (PointerType place.class) has in
      let given : IsPlaceAt h see place = (value_of h s.objects v place.class pointer_typed, k.place_typed.path) in
      let answers = statement_answers h scene.world.hierarchy see (wanted_result f) scene.next.settled (Write place a) given in
      leads_grouped (fixed w) (operand_ops first place.pointer) (argument_front a second) _
      (leads_operand (fixed w) w g s f e b place.pointer (PointerType place.class) first b.top.registers (sees scene) scene.begins.stands.globals stands has (free_in scene f.locals b.top.registers 0 (omega arith) stands)
      (λ mid read. let kept = variables_kept w g f first b.top.registers mid (is_free scene 0) stands read.wrote in
      leads_operand (fixed w) w g s f e b a.operand t.0 second mid (sees scene) scene.begins.stands.globals kept t.1 (free_in scene f.locals mid 1 (omega arith) kept)
      (λ new read'. let still = variables_kept w g f second mid new (is_free scene 1) kept read'.wrote in
      let pointer_word = operand_kept w g s f e place.pointer (PointerType place.class) first second b.top.registers mid new (sees scene) has (is_free scene 1) (free_apart scene 0 1 (λ q. omega arith)) read read'.wrote in
      leads_checks (fixed w) (at_registers b new) (Reaches scene) h s.objects uses (place_used w.setup e place first ++ argument_used (block scene) a second)
      (along_append (fixed w) (at_registers b new) (Reaches scene) h s.objects uses (asked_place v place) (argument_uses see a) (place_used w.setup e place first) (argument_used (block scene) a second)
      (along_place w see (at_registers b new) (Reaches scene) scene.world scene.begins.stands.columns uses e first place (sees scene) (tells scene new) (λ u there. has_left (asked_place v place) (argument_uses see a) u there) has k.place_typed.path pointer_word)
      (along_kept w see (at_registers b new) (Reaches scene) scene.world scene.begins.stands.columns uses (block scene) second (place_width h place) a k.type (sees scene) (tells scene new) (λ u there. has_right (asked_place v place) (argument_uses see a) u there) k.kept read'.word))
      (λ fine none.
      let clear : refused_by h s.objects (place_uses see place ++ argument_uses see a) ≡ None = answers.same ∙ fine in
      let aim = aimed_among scene see place (argument_uses see a) refl pointer_typed clear in
      let leaf = leaf_of scene e v place k.type aim k.place_typed in
      let set = unbroken (fixed w) b (Reaches scene) h s.objects uses (Reads (value_of_operand see a.operand)) UnsetUse (none UnsetUse) (has_right (asked_place v place) (argument_uses see a) (Reads (value_of_operand see a.operand)) (inl refl)) in
      leads_place scene v place k.place_typed.class (leaf_address h (places_in w) g (leaf_at aim.part place)) (free (block scene) 2) from new aim k.place_typed.path k.place_typed.of_class leaf.sum leaf.low pointer_word (free_in scene f.locals new 2 (omega arith) still)
      (λ third wrote is. let after = variables_kept w g f (free (block scene) 2) new third (is_free scene 2) still wrote in
      let argument_word = wrote.other (operand_register second a.operand) (λ same. operand_apart w s f e a.operand t.0 second (free (block scene) 2) (sees scene) t.1 (is_free scene 2) (free_apart scene 1 2 (λ q. omega arith)) same) ∙ read'.word in
      leads_argument scene f.locals uses (place_width h place) a k.type (free (block scene) 3) second third (sees scene) may.0 k.kept (λ u there. has_right (asked_place v place) (argument_uses see a) u there) none argument_word (free_in scene f.locals third 3 (omega arith) after)
      (λ last wrote' is'. let last_variables = variables_kept w g f (free (block scene) 3) third last (is_free scene 3) after wrote' in
      stores last k.type aim leaf (kept_typed h s.objects.classes e (value_of_operand see) (λ x u has_type. operand_typed h e see (sees scene) x u has_type) a k.type (place_width h place) may.1 k.kept) (argument_set see a set) last_variables
      (wrote'.other (free (block scene) 2) (free_apart scene 2 3 (λ q. omega arith)) ∙ is) is' (move_fine w s f below body writing scene.world scene.next given fine refl))))
      (λ rule broken. refused scene rule (at_registers b new) refl (move_refused w s f below body writing scene.world scene.next rule given broken)))))
