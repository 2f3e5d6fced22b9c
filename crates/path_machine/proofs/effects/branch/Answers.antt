use Rattle.std.proofs.Common.{Bool, ◌≡◌, subst, sym, ap, ◌∙◌}
use Rattle.std.specs.Prelude.{if◌then◌else◌}
use Rattle.path_model.specs.Values.{Value}
use Rattle.path_model.specs.Effects.{is_number_zero}
use Rattle.path_heap.specs.Stands.{Means}
use Rattle.path_machine.specs.invariants.Steps.{gone_on}
use Rattle.path_machine.proofs.Effecting.{branch_agrees}
use Rattle.path_machine.proofs.effects.branch.Goals.{then-is_zero, else-is_zero}
use Rattle.path_machine.proofs.effects.branch.Goals as goal

-- src/effects.rt:34:1
pub returns : goal.returns
returns c = λ h sizes program s f below n v outs t m.
    branch_agrees h sizes program c.go_on.new.machine (gone_on s f n below) v c.args.yes c.args.no c.if-is_zero.at outs (λ z is.
    let e : c.is_zero.result ≡ is_number_zero z = c.is_zero.ensures h s.objects.classes z (subst (λ (w : Value). Means h s.objects.classes c.args.condition w) is m) in
    let pick : (b : Bool) → b ≡ is_number_zero z → (if b then c.args.no else c.args.yes) ≡ (if is_number_zero z then c.args.no else c.args.yes) = λ b same. ap (λ (x : Bool). if x then c.args.no else c.args.yes) same in
    elim c.if-is_zero.branch [
      | then-is_zero w ↦ w.at-is ∙ pick _ (sym w.if-is_zero.true ∙ e)
      | else-is_zero w ↦ w.at-is ∙ pick _ (sym w.if-is_zero.false ∙ e)
    ])
    (c.in_ok-go_on.ensures h sizes program s f below t)
