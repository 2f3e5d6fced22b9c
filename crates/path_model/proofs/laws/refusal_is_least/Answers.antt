use Rattle.path_model.specs.Rules.{uses_of}
use Rattle.path_model.proofs.Least.{refused_least, closing_is}
use Rattle.path_model.proofs.laws.refusal_is_least.Goals as goal

pub returns-clause-statement : goal.returns-clause-statement
returns-clause-statement c = λ h s w kind. refused_least h s.objects (uses_of h s w kind)

pub returns-clause-closing : goal.returns-clause-closing
returns-clause-closing c = λ h s g. closing_is h s g
