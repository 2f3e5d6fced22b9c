-- Casts to the same class, to a base, and by the view
use Rattle.std.proofs.Common.{◌≡◌, ℕ, Bool, Option, Some, List, [], ◌∷◌, ◌++◌, inl, inr, refl, ap, sym, ◌∙◌, subst, arith}
use Rattle.std.specs.Prelude.{slice_set}
use Rattle.foundation.proofs.Members.{Has}
use Rattle.cxx_hierarchy.specs.declared.records.ClassId.{ClassId}
use Rattle.cxx_hierarchy.specs.declared.records.ValueType.TheVariants.{Pointer as PointerType}
use Rattle.cxx_subobject.specs.declared.Subobject.{Subobject}
use Rattle.cxx_program.specs.declared.operand.Variable.{Variable}
use Rattle.cxx_program.specs.declared.operand.TypedOperand.{TypedOperand}
use Rattle.cxx_program.specs.declared.operand.Conversion.{Conversion}
use Rattle.cxx_program.specs.declared.statement.TypedCast.TheVariants.{Same as SameClass, Up}
use Rattle.cxx_program.specs.declared.statement.TypedRight.TheVariants.{Cast}
use Rattle.cxx_program.specs.declared.statement.TypedStatement.{TypedStatement}
use Rattle.cxx_program.specs.Typed.{HasType, IsProperBase, Casts, cast_up}
use Rattle.path_model.specs.Values.{Value, value_of_operand}
use Rattle.path_model.specs.Uses.{Reads, Guards, Views, uses_of_view, is_shared, cast_uses}
use Rattle.path_model.specs.Outs.{class_or_first}
use Rattle.byte_machine.specs.Frames.{register_of}
use Rattle.byte_code.specs.declared.op.Op.{Op}
use Rattle.byte_code.specs.declared.op.Op.TheVariants.{Jump}
use Rattle.byte_machine.specs.Leads.{OpsLead}
use Rattle.byte_machine.proofs.ValueLeads.{leads_move}
use Rattle.code_ops.specs.Arguments.{free, pointed_class, checked_taken}
use Rattle.code_ops.specs.Operands.{operand_register, base_ops, ops_of}
use Rattle.code_ops.specs.Uses.{reads, views_if}
use Rattle.code_ops.specs.declared.uses.Used.TheVariants.{Guards as GuardsWord}
use Rattle.code_statements.specs.Rights.{cast_used, cast_class}
use Rattle.agree_relation.specs.Worlds.{world_classes, fixed}
use Rattle.agree_relation.specs.Words.{register_word}
use Rattle.agree_statements.specs.Registers.{at_registers, body_on}
use Rattle.agree_statements.specs.Tests.{Along, nothing, tested}
use Rattle.agree_statements.proofs.Registers.{leads_grouped, set_here, wrote_set, variables_kept}
use Rattle.agree_statements.proofs.Tests.{along_append}
use Rattle.agree_statements.proofs.Useds.{shared_dynamic, operand_class_is, guarded, open_read, along_reads, along_views}
use Rattle.agree_statements.proofs.Bases.{seen_from}
use Rattle.agree_statements.proofs.Conversions.{leads_pointer}
use Rattle.agree_statements.proofs.Scenes.{Scene, here, scope, block, sight_with}
use Rattle.agree_statements.proofs.Finish.{Reaches, to_next}
use Rattle.agree_statements.proofs.Rights.{Taking, DoesRight, tells, free_of, free_in}
use Rattle.agree_statements.proofs.SeenPointers.{seen_part, seen_under}
use Rattle.agree_statements.proofs.CastRights.{the_cast, cast_reads, cast_taken, leads_cast_front}

module _ {statement : TypedStatement} (scene : Scene statement) (locals : List Value) (variable : Variable) (x : TypedOperand) (c : Conversion) where
  open scene use {w, at, s, f, below, body, b}

  abbrev v : Value
  v = value_of_operand (sight_with scene locals) x

  abbrev from : ℕ
  from = operand_register (free (block scene) 0) x

  abbrev jump : List Op
  jump = Jump (to_next scene statement.next) ∷ []

  class_at_is : (k : ClassId) → HasType (scope scene) x (PointerType k) → pointed_class (block scene) x ≡ k
  class_at_is k has = ap class_or_first (operand_class_is (scope scene) x k has)

  module _ (take : Taking scene locals variable (record { right = Cast SameClass x; conversion = c })) where
    same_tests : (new : List (Option ℕ)) → register_of new from ≡ register_word w (here scene) v → Along (fixed w) (at_registers b new) (Reaches scene) (world_classes w) s.objects (cast_uses SameClass v) (cast_uses SameClass v) (cast_used (block scene) SameClass (free (block scene) 0) x)
    same_tests new has =
        let h = world_classes w in
        let k = the_cast scene locals variable SameClass x c take in
        let us = cast_uses SameClass v in
        let r = free (block scene) 0 in
        let typed = cast_reads scene locals variable SameClass x c take in
        subst (λ (q : ClassId). Along (fixed w) (at_registers b new) (Reaches scene) h s.objects us us (reads (scope scene) r x ++ (GuardsWord from 0 q.0 ∷ []))) (sym (class_at_is k.from k.has))
        (along_append (fixed w) (at_registers b new) (Reaches scene) h s.objects us (Reads v ∷ []) (Guards v ∷ []) (reads (scope scene) r x) (GuardsWord from 0 k.from.0 ∷ [])
        (along_reads w (sight_with scene locals) (at_registers b new) (Reaches scene) scene.world scene.begins.stands.columns us (scope scene) r x (PointerType k.from) take.sees k.has has)
        (tested (Guards v) (GuardsWord from 0 k.from.0) (guarded w (sight_with scene locals) (at_registers b new) (Reaches scene) scene.world scene.begins.stands.columns us from v k.from typed has) nothing))

    pub same_cast_does : DoesRight scene locals variable (record { right = Cast SameClass x; conversion = c })
    same_cast_does old variables =
        let to = free (block scene) 1 in
        leads_cast_front scene locals variable SameClass x c take old variables same_tests
        (λ new none fine kept has.
        let inside = free_in scene locals new 1 (omega arith) kept in
        leads_move (fixed w) to from inside
        (cast_taken scene locals variable SameClass x c take (slice_set new to (register_of new from)) none (inl refl) fine
        (variables_kept w (here scene) (body_on f locals f.next) to new (slice_set new to (register_of new from)) (free_of scene locals 1 take.count) kept (wrote_set b new to (register_of new from)))
        (set_here b new to (register_of new from) inside ∙ has)))

  module _ (i : Subobject) (take : Taking scene locals variable (record { right = Cast (Up i) x; conversion = c })) where
    up_proper : IsProperBase (world_classes w) (the_cast scene locals variable (Up i) x c take).from i (the_cast scene locals variable (Up i) x c take).to
    up_proper = of_casts (the_cast scene locals variable (Up i) x c take).from (the_cast scene locals variable (Up i) x c take).to (the_cast scene locals variable (Up i) x c take).casts
      where
        of_casts : (k d : ClassId) → Casts (world_classes w) k (Up i) d → IsProperBase (world_classes w) k i d
        of_casts k d (cast_up _ _ _ proper) = proper

    up_tests : (new : List (Option ℕ)) → register_of new from ≡ register_word w (here scene) v → Along (fixed w) (at_registers b new) (Reaches scene) (world_classes w) s.objects (cast_uses (Up i) v) (cast_uses (Up i) v) (cast_used (block scene) (Up i) (free (block scene) 0) x)
    up_tests new has =
        let h = world_classes w in
        let k = the_cast scene locals variable (Up i) x c take in
        let us = cast_uses (Up i) v in
        let r = free (block scene) 0 in
        let typed = cast_reads scene locals variable (Up i) x c take in
        subst (λ (q : ClassId). Along (fixed w) (at_registers b new) (Reaches scene) h s.objects us us (reads (scope scene) r x ++ (GuardsWord from 0 q.0 ∷ views_if (is_shared i) from 0 q))) (sym (class_at_is k.from k.has))
        (along_append (fixed w) (at_registers b new) (Reaches scene) h s.objects us (Reads v ∷ []) (Guards v ∷ uses_of_view (is_shared i) v) (reads (scope scene) r x) (GuardsWord from 0 k.from.0 ∷ views_if (is_shared i) from 0 k.from)
        (along_reads w (sight_with scene locals) (at_registers b new) (Reaches scene) scene.world scene.begins.stands.columns us (scope scene) r x (PointerType k.from) take.sees k.has has)
        (tested (Guards v) (GuardsWord from 0 k.from.0) (guarded w (sight_with scene locals) (at_registers b new) (Reaches scene) scene.world scene.begins.stands.columns us from v k.from typed has)
        (along_views w (sight_with scene locals) (at_registers b new) (Reaches scene) scene.world scene.begins.stands.columns us (is_shared i) from v k.from (tells scene new)
        (open_read w (sight_with scene locals) (at_registers b new) (Reaches scene) scene.world scene.begins.stands.columns us v (inl refl)) (inr (inl refl)) (shared_dynamic h k.from i up_proper.valid) typed has)))

    pub up_cast_does : DoesRight scene locals variable (record { right = Cast (Up i) x; conversion = c })
    up_cast_does old variables =
        let h = world_classes w in
        let k = the_cast scene locals variable (Up i) x c take in
        let us = cast_uses (Up i) v in
        let to = free (block scene) 1 in
        leads_cast_front scene locals variable (Up i) x c take old variables up_tests
        (λ new none fine kept has.
        subst (λ (q : ClassId). OpsLead (fixed w) ((ops_of (base_ops w.setup q i to from) ++ ops_of (checked_taken (block scene) variable (Some (cast_class (Up i) (pointed_class (block scene) x))) c (free (block scene) 2) to)) ++ jump) (at_registers b new) (Reaches scene)) (sym (class_at_is k.from k.has))
        (leads_grouped (fixed w) (ops_of (base_ops w.setup k.from i to from)) (ops_of (checked_taken (block scene) variable (Some (cast_class (Up i) (pointed_class (block scene) x))) c (free (block scene) 2) to)) jump
        (leads_pointer w s.objects b scene.world scene.begins.stands.columns (Reaches scene) v k.from k.to i to from new up_proper.valid up_proper.class
        (λ p is through made. seen_from w s.objects b p k.from (seen_under scene v k.from (seen_part scene locals x k.from us p is made (shared_dynamic h k.from i up_proper.valid through) none (inl refl) (inr (inl refl)) (subst (λ (y : Bool). Has (Reads v ∷ Guards v ∷ uses_of_view y v) (Views v)) (sym through) (inr (inr (inl refl))))) p is))
        (cast_reads scene locals variable (Up i) x c take) has (free_in scene locals new 1 (omega arith) kept)
        (λ last wrote is. cast_taken scene locals variable (Up i) x c take last none (inl refl) fine (variables_kept w (here scene) (body_on f locals f.next) to new last (free_of scene locals 1 take.count) kept wrote) is))))
