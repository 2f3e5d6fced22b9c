use Rattle.agree_dispatch.proofs.Joining.{within_can, within_answers}
use Rattle.agree_dispatch.proofs.cast_laws.containment.Goals as goal

pub returns-clause-can : goal.returns-clause-can
returns-clause-can _ h rows x placed memory start base parts stands first few = within_can h rows x placed memory start stands base first parts few

pub returns-clause-answer : goal.returns-clause-answer
returns-clause-answer _ h rows x placed memory start base y d told stands first there class tells = within_answers h rows x placed memory start stands base first y d told there class tells
