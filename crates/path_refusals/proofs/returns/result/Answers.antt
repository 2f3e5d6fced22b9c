use Rattle.std.proofs.Common.{◌≡◌, ◌∙◌, ◌∷◌, Some, ap, refl, sym, subst}
use Rattle.std.specs.Option.{option_or}
use Rattle.std.proofs.lemmas.Result.{IfOk-weaker}
use Rattle.cxx_program.specs.declared.operand.Conversion.{Conversion}
use Rattle.path_model.specs.Values.{Sight, value_of_operand, converted_to}
use Rattle.path_model.specs.Uses.{Reads, convert, return_uses, Wanted}
use Rattle.path_model.specs.Rules.{refused}
use Rattle.path_model.specs.Typed.{AllSettled, IsReturn}
use Rattle.path_model.proofs.Conversions.{converted_of}
use Rattle.path_heap.specs.Stands.{Means}
use Rattle.path_values.specs.Scenes.{SceneStands}
use Rattle.path_values.specs.Conversions.{CanConvert}
use Rattle.path_refusals.specs.invariants.Pieces.{Refuses}
use Rattle.path_refusals.proofs.Refused.{first_stage, second_stage}
use Rattle.path_refusals.proofs.Givens.{can_convert, convert_clear}
use Rattle.path_refusals.proofs.Staging.{return_staged}
use Rattle.path_refusals.proofs.returns.result.Goals as goal

pub returns-in-Some-clause-is : goal.returns-in-Some-clause-is
returns-in-Some-clause-is c = λ s w stands all found target typed.
    first_stage (refused c.args.moment.now.world.h.now s.objects (Reads (value_of_operand s c.args.a.now.operand) ∷ convert (value_of_operand s c.args.a.now.operand) c.args.a.now.conversion)) (option_or (refused c.args.moment.now.world.h.now s.objects (convert (converted_to (value_of_operand s c.args.a.now.operand) c.args.a.now.conversion) w.found)) (refused c.args.moment.now.world.h.now s.objects (convert (converted_to (converted_to (value_of_operand s c.args.a.now.operand) c.args.a.now.conversion) w.found) w.target))) (refused c.args.moment.now.world.h.now s.objects (return_uses s w (Some c.args.a.now))) c.in-Some.rule (return_staged c.args.moment.now.world.h.now c.requires.world.hierarchy s w c.args.a.now all typed) (sym c.in-Some.is ∙ c.in_ok-rule.ensures.is s.objects (value_of_operand s c.args.a.now.operand) stands.heap_stands (c.value-v.ensures c.args.moment.now.world.h.now c.args.moment.now.heap.now s stands))

pub returns-in-Some-2-clause-is : goal.returns-in-Some-2-clause-is
returns-in-Some-2-clause-is c = λ s w stands all found target typed.
    let first = sym c.in-None.is ∙ c.in_ok-rule.ensures.is s.objects (value_of_operand s c.args.a.now.operand) stands.heap_stands (c.value-v.ensures c.args.moment.now.world.h.now c.args.moment.now.heap.now s stands) in
    let own = c.convert-own.ensures s.objects (value_of_operand s c.args.a.now.operand) stands.heap_stands (c.value-v.ensures c.args.moment.now.world.h.now c.args.moment.now.heap.now s stands) (can_convert c.args.moment.now.world.h.now s.objects (value_of_operand s c.args.a.now.operand) typed.0 typed.1 c.args.a.now.conversion typed.4 typed.5 (convert_clear c.args.moment.now.world.h.now s.objects (value_of_operand s c.args.a.now.operand) c.args.a.now.conversion first)) in
    second_stage (refused c.args.moment.now.world.h.now s.objects (Reads (value_of_operand s c.args.a.now.operand) ∷ convert (value_of_operand s c.args.a.now.operand) c.args.a.now.conversion)) (option_or (refused c.args.moment.now.world.h.now s.objects (convert (converted_to (value_of_operand s c.args.a.now.operand) c.args.a.now.conversion) w.found)) (refused c.args.moment.now.world.h.now s.objects (convert (converted_to (converted_to (value_of_operand s c.args.a.now.operand) c.args.a.now.conversion) w.found) w.target))) (refused c.args.moment.now.world.h.now s.objects (return_uses s w (Some c.args.a.now))) (Some c.in-Some-2.rule) (return_staged c.args.moment.now.world.h.now c.requires.world.hierarchy s w c.args.a.now all typed) first
    (first_stage (refused c.args.moment.now.world.h.now s.objects (convert (converted_to (value_of_operand s c.args.a.now.operand) c.args.a.now.conversion) w.found)) (refused c.args.moment.now.world.h.now s.objects (convert (converted_to (converted_to (value_of_operand s c.args.a.now.operand) c.args.a.now.conversion) w.found) w.target)) (option_or (refused c.args.moment.now.world.h.now s.objects (convert (converted_to (value_of_operand s c.args.a.now.operand) c.args.a.now.conversion) w.found)) (refused c.args.moment.now.world.h.now s.objects (convert (converted_to (converted_to (value_of_operand s c.args.a.now.operand) c.args.a.now.conversion) w.found) w.target))) c.in-Some-2.rule refl (sym c.in-Some-2.is ∙ (c.in_ok-rule-2.ensures.is s.objects (converted_to (value_of_operand s c.args.a.now.operand) c.args.a.now.conversion) stands.heap_stands own ∙ ap (λ (k : Conversion). refused c.args.moment.now.world.h.now s.objects (convert (converted_to (value_of_operand s c.args.a.now.operand) c.args.a.now.conversion) k)) (sym found))))

pub returns-clause-is : goal.returns-clause-is
returns-clause-is c = IfOk-weaker c.convert-2.result (Refuses c.args.moment.now.world.h.now c.args.moment.now.heap.now c.convert-declared.result (λ x. convert x c.args.target.now)) (λ rule. (s : Sight) (w : Wanted) → SceneStands c.args.moment.now.world.h.now c.args.moment.now.heap.now c.args.scene.now s → AllSettled c.args.moment.now.world.h.now s.objects → w.found ≡ c.args.found.now → w.target ≡ c.args.target.now → IsReturn c.args.moment.now.world.h.now s w (Some c.args.a.now) → rule ≡ (refused c.args.moment.now.world.h.now s.objects (return_uses s w (Some c.args.a.now)))) (λ rule told s w stands all found target typed.
    let first = sym c.in-None.is ∙ c.in_ok-rule.ensures.is s.objects (value_of_operand s c.args.a.now.operand) stands.heap_stands (c.value-v.ensures c.args.moment.now.world.h.now c.args.moment.now.heap.now s stands) in
    let own = c.convert-own.ensures s.objects (value_of_operand s c.args.a.now.operand) stands.heap_stands (c.value-v.ensures c.args.moment.now.world.h.now c.args.moment.now.heap.now s stands) (can_convert c.args.moment.now.world.h.now s.objects (value_of_operand s c.args.a.now.operand) typed.0 typed.1 c.args.a.now.conversion typed.4 typed.5 (convert_clear c.args.moment.now.world.h.now s.objects (value_of_operand s c.args.a.now.operand) c.args.a.now.conversion first)) in
    let second = sym c.in-None-2.is ∙ (c.in_ok-rule-2.ensures.is s.objects (converted_to (value_of_operand s c.args.a.now.operand) c.args.a.now.conversion) stands.heap_stands own ∙ ap (λ (k : Conversion). refused c.args.moment.now.world.h.now s.objects (convert (converted_to (value_of_operand s c.args.a.now.operand) c.args.a.now.conversion) k)) (sym found)) in
    let can = can_convert c.args.moment.now.world.h.now s.objects (converted_to (value_of_operand s c.args.a.now.operand) c.args.a.now.conversion) typed.1 typed.2 w.found (converted_of c.args.moment.now.world.h.now s.objects (value_of_operand s c.args.a.now.operand) typed.0 typed.1 c.args.a.now.conversion typed.4 typed.5) typed.6 second in
    let declared = c.convert-declared.ensures s.objects (converted_to (value_of_operand s c.args.a.now.operand) c.args.a.now.conversion) stands.heap_stands own (subst (λ (k : Conversion). CanConvert c.args.moment.now.world.h.now s.objects (converted_to (value_of_operand s c.args.a.now.operand) c.args.a.now.conversion) k) found can) in
    let means = subst (λ (k : Conversion). Means c.args.moment.now.world.h.now s.objects.classes c.convert-declared.result (converted_to (converted_to (value_of_operand s c.args.a.now.operand) c.args.a.now.conversion) k)) (sym found) declared in
    second_stage (refused c.args.moment.now.world.h.now s.objects (Reads (value_of_operand s c.args.a.now.operand) ∷ convert (value_of_operand s c.args.a.now.operand) c.args.a.now.conversion)) (option_or (refused c.args.moment.now.world.h.now s.objects (convert (converted_to (value_of_operand s c.args.a.now.operand) c.args.a.now.conversion) w.found)) (refused c.args.moment.now.world.h.now s.objects (convert (converted_to (converted_to (value_of_operand s c.args.a.now.operand) c.args.a.now.conversion) w.found) w.target))) (refused c.args.moment.now.world.h.now s.objects (return_uses s w (Some c.args.a.now))) rule (return_staged c.args.moment.now.world.h.now c.requires.world.hierarchy s w c.args.a.now all typed) first
    (second_stage (refused c.args.moment.now.world.h.now s.objects (convert (converted_to (value_of_operand s c.args.a.now.operand) c.args.a.now.conversion) w.found)) (refused c.args.moment.now.world.h.now s.objects (convert (converted_to (converted_to (value_of_operand s c.args.a.now.operand) c.args.a.now.conversion) w.found) w.target)) (option_or (refused c.args.moment.now.world.h.now s.objects (convert (converted_to (value_of_operand s c.args.a.now.operand) c.args.a.now.conversion) w.found)) (refused c.args.moment.now.world.h.now s.objects (convert (converted_to (converted_to (value_of_operand s c.args.a.now.operand) c.args.a.now.conversion) w.found) w.target))) rule refl second
    (told s.objects (converted_to (converted_to (value_of_operand s c.args.a.now.operand) c.args.a.now.conversion) w.found) stands.heap_stands means ∙ ap (λ (k : Conversion). refused c.args.moment.now.world.h.now s.objects (convert (converted_to (converted_to (value_of_operand s c.args.a.now.operand) c.args.a.now.conversion) w.found) k)) (sym target)))) c.convert-2.ensures.is
