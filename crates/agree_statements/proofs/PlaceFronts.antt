-- What a block reads and tests of the place of a right side.
use Rattle.std.proofs.Common.{◌≡◌, ℕ, Some, None, Option, List, ◌++◌, length, refl, ◌∙◌, arith}
use Rattle.cxx_hierarchy.specs.declared.records.ValueType.TheVariants.{Pointer as PointerType}
use Rattle.cxx_program.specs.declared.statement.TypedPlace.{TypedPlace}
use Rattle.cxx_program.specs.declared.statement.TypedStatement.{TypedStatement}
use Rattle.cxx_program.specs.Typed.{HasType, IsPath}
use Rattle.path_rules.specs.declared.Undefined.{Undefined}
use Rattle.path_model.specs.Values.{Value, value_of_operand}
use Rattle.path_model.specs.Uses.{place_uses}
use Rattle.path_model.specs.Rules.{refused as refused_by}
use Rattle.path_model.specs.Order.{asked_place, first_broken, sorted}
use Rattle.path_model.specs.Runs.{IsRefused}
use Rattle.path_model.proofs.Places.{place_rank}
use Rattle.path_model.proofs.Sorted.{by_rank, by_sort}
use Rattle.path_model.proofs.TypedValues.{IsTypedSight, operand_typed}
use Rattle.byte_machine.specs.Frames.{register_of}
use Rattle.byte_code.specs.declared.op.Op.{Op}
use Rattle.byte_machine.specs.Leads.{OpsLead}
use Rattle.code_ops.specs.Arguments.{free}
use Rattle.code_ops.specs.Operands.{operand_ops, operand_register}
use Rattle.code_ops.specs.PlaceOps.{place_used}
use Rattle.code_ops.specs.Uses.{check_ops}
use Rattle.agree_relation.specs.Worlds.{world_classes, fixed}
use Rattle.agree_relation.specs.Words.{register_word}
use Rattle.agree_relation.specs.Frames.{HasVariables}
use Rattle.agree_statements.specs.Registers.{at_registers, body_on}
use Rattle.agree_statements.proofs.Registers.{variables_kept}
use Rattle.agree_statements.proofs.Operands.{leads_operand}
use Rattle.agree_statements.proofs.Tests.{leads_checks}
use Rattle.agree_statements.proofs.PlaceTests.{along_place}
use Rattle.agree_statements.proofs.Givens.{value_of}
use Rattle.agree_statements.proofs.Places.{IsAimed, aimed}
use Rattle.agree_statements.proofs.Moves.{move_in}
use Rattle.agree_statements.proofs.Scenes.{Scene, here, scope, block, sight_with}
use Rattle.agree_statements.proofs.Finish.{Reaches, refused}
use Rattle.agree_statements.proofs.Rights.{tells, free_of, free_in}

module _ {statement : TypedStatement} (scene : Scene statement) (locals : List Value) (place : TypedPlace) where
  open scene use {w, at, s, f, below, body, b}

  -- where the tests of a place pass, no use of it breaks a rule
  pub place_clear : IsTypedSight (world_classes w) (scope scene) (sight_with scene locals) → HasType (scope scene) place.pointer (PointerType place.class) → IsPath (world_classes w) place.class place.passed place.base → first_broken (world_classes w) s.objects (sorted (asked_place (value_of_operand (sight_with scene locals) place.pointer) place)) ≡ None → refused_by (world_classes w) s.objects (place_uses (sight_with scene locals) place) ≡ None
  place_clear sees has path none =
      let h = world_classes w in
      let v = value_of_operand (sight_with scene locals) place.pointer in
      let typed = operand_typed h (scope scene) (sight_with scene locals) sees place.pointer (PointerType place.class) has in
      (by_rank h s.objects (place_uses (sight_with scene locals) place) (asked_place v place) (sorted (asked_place v place)) (place_rank h scene.world.hierarchy s.objects scene.next.settled v place.class place (value_of h s.objects v place.class typed) path) (by_sort h s.objects (asked_place v place))).same ∙ none

  pub leads_aimed : {ops : List Op} (old : List (Option ℕ)) → IsTypedSight (world_classes w) (scope scene) (sight_with scene locals) → length locals ≡ length body.locals → HasType (scope scene) place.pointer (PointerType place.class) → IsPath (world_classes w) place.class place.passed place.base → HasVariables w (here scene) (body_on f locals f.next) old
      → ((rule : Undefined) → first_broken (world_classes w) s.objects (sorted (asked_place (value_of_operand (sight_with scene locals) place.pointer) place)) ≡ Some rule → move_in w s ≡ IsRefused rule statement.line)
      → ((new : List (Option ℕ)) → IsAimed scene (value_of_operand (sight_with scene locals) place.pointer) place → first_broken (world_classes w) s.objects (sorted (asked_place (value_of_operand (sight_with scene locals) place.pointer) place)) ≡ None → HasVariables w (here scene) (body_on f locals f.next) new
      → register_of new (operand_register (free (block scene) 0) place.pointer) ≡ register_word w (here scene) (value_of_operand (sight_with scene locals) place.pointer) → OpsLead (fixed w) ops (at_registers b new) (Reaches scene))
      → OpsLead (fixed w) (operand_ops (free (block scene) 0) place.pointer ++ (check_ops (place_used w.setup (scope scene) place (free (block scene) 0)) ++ ops)) (at_registers b old) (Reaches scene)
  leads_aimed old sees count has path variables refuses goes =
      let h = world_classes w in
      let e = scope scene in
      let r = free (block scene) 0 in
      let v = value_of_operand (sight_with scene locals) place.pointer in
      leads_operand (fixed w) w (here scene) s (body_on f locals f.next) e b place.pointer (PointerType place.class) r old sees scene.begins.stands.globals variables has (free_in scene locals old 0 (omega arith) variables)
      (λ new read. leads_checks (fixed w) (at_registers b new) (Reaches scene) h s.objects (asked_place v place) (place_used w.setup e place r)
      (along_place w (sight_with scene locals) (at_registers b new) (Reaches scene) scene.world scene.begins.stands.columns (asked_place v place) e r place sees (tells scene new) (λ u there. there) has path read.word)
      (λ fine none. goes new (aimed scene (sight_with scene locals) place refl (operand_typed h e (sight_with scene locals) sees place.pointer (PointerType place.class) has) (place_clear sees has path fine)) fine
      (variables_kept w (here scene) (body_on f locals f.next) r old new (free_of scene locals 0 count) variables read.wrote) read.word)
      (λ rule broken. refused scene rule (at_registers b new) refl (refuses rule broken)))
