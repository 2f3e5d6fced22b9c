use Rattle.std.proofs.Common.{◌∙◌, ap, take}
use Rattle.std.specs.List.{flat_map}
use Rattle.path_model.specs.Uses.{argument_uses}
use Rattle.path_model.specs.Rules.{refused}
use Rattle.path_refusals.proofs.Refused.{joined, one_more}
use Rattle.path_refusals.proofs.Reading.{nothing}
use Rattle.path_refusals.proofs.operands.arguments.Goals as goal

pub loop-a-init : goal.loop-a-init
loop-a-init c = record { answers = c.requires.answers; so_far = λ s stands. nothing c.args.moment.now.world.h.now s.objects }

pub loop-a-preserved : goal.loop-a-preserved
loop-a-preserved c = record {
  answers = c.in_ok-argument.ensures.answers;
  so_far = λ s stands.
      joined c.args.moment.now.world.h.now s.objects (flat_map (argument_uses s) (take c.loop-a.a-index c.args.list.now)) (argument_uses s c.a-item.result) c.loop-a.first c.in_ok-argument.field-0 c.least-first.result c.least-first.ensures (c.loop-a.invariant.so_far s stands) (c.in_ok-argument.ensures.is s stands)
      ∙ ap (λ us. refused c.args.moment.now.world.h.now s.objects us) (one_more (argument_uses s) c.args.list.now c.loop-a.a-index c.a-item.result c.loop-a-test.true c.a-item.is);
}
