use Rattle.path_model.proofs.Statements.{staged_refuses}
use Rattle.path_model.proofs.laws.tests_refuse.Goals as goal

pub returns : goal.returns
returns c = λ h s w kind keeps all typed. staged_refuses h s w kind keeps all typed
