use Rattle.std.proofs.Common.{ap, sym, ◌∙◌}
use Rattle.abi_slots.specs.declared.words.Group.{Group}
use Rattle.abi_image.specs.invariants.Points.{same_group_name}
use Rattle.abi_image.proofs.Naming.{number_test}
use Rattle.abi_image.proofs.finding.is_number_of.Goals as goal

pub returns : goal.returns
returns c = number_test c.args.groups.now c.args.name.now c.args.number c.index-groups-number.result c.is_same_name.result c.if-number-groups.false c.index-groups-number.is (c.is_same_name.ensures ∙ ap (λ (g : Group). same_group_name g.name c.args.name.now) (sym c.index-groups-number.is))
