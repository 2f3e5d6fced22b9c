use Rattle.std.proofs.Common.{◌≡◌, None, ◌∷◌, refl}
use Rattle.path_model.specs.Values.{Unset, Number, Null}
use Rattle.path_model.specs.Uses.{Guards, uses_of_view}
use Rattle.path_model.specs.Rules.{refused}
use Rattle.path_refusals.proofs.Reading.{off_guard, unset_case, null_case, number_case}
use Rattle.path_refusals.proofs.views.guard_view_of.Goals as goal

pub returns-in-Unset-clause-is : goal.returns-in-Unset-clause-is
returns-in-Unset-clause-is c = λ s x stands m. unset_case c.args.moment.now.world.h.now s.classes (λ x. None ≡ refused c.args.moment.now.world.h.now s (Guards x ∷ uses_of_view c.args.needed x)) (off_guard c.args.moment.now.world.h.now s Unset c.args.needed refl) c.args.v c.in-Unset.is x m

pub returns-in-Number-clause-is : goal.returns-in-Number-clause-is
returns-in-Number-clause-is c = λ s x stands m. number_case c.args.moment.now.world.h.now s.classes (λ x. None ≡ refused c.args.moment.now.world.h.now s (Guards x ∷ uses_of_view c.args.needed x)) (λ z. off_guard c.args.moment.now.world.h.now s (Number z) c.args.needed refl) c.args.v c.in-Number.field-0 c.in-Number.is x m

pub returns-in-Null-clause-is : goal.returns-in-Null-clause-is
returns-in-Null-clause-is c = λ s x stands m. null_case c.args.moment.now.world.h.now s.classes (λ x. None ≡ refused c.args.moment.now.world.h.now s (Guards x ∷ uses_of_view c.args.needed x)) (off_guard c.args.moment.now.world.h.now s Null c.args.needed refl) c.args.v c.in-Null.is x m
