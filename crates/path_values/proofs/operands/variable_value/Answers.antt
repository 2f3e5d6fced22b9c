use Rattle.path_values.proofs.Reading.{global_read, local_read}
use Rattle.path_values.proofs.operands.variable_value.Goals as goal

pub returns-in-Global : goal.returns-in-Global
returns-in-Global c = λ h heap s stands. global_read h heap s c.args.scene.now stands c.in-Global.n c.value_at.result c.value_at.ensures c.args.x.now c.in-Global.is

pub returns-in-Local : goal.returns-in-Local
returns-in-Local c = λ h heap s stands. local_read h heap s c.args.scene.now stands c.in-Local.n c.value_at-in-Local.result c.value_at-in-Local.ensures c.args.x.now c.in-Local.is
