use Rattle.std.proofs.Common.{◌∙◌}
use Rattle.abi_tables.proofs.Steps.{same_group_name}
use Rattle.abi_tables.proofs.group_list.kept_group.Goals as goal

pub view_at-x-requires : goal.view_at-x-requires
view_at-x-requires g c = c.requires.of.within

pub group_of_view-requires-clause-view : goal.group_of_view-requires-clause-view
group_of_view-requires-clause-view g c = c.requires.views.each c.args.number c.view_at-x.result.now c.view_at-x.ensures

pub returns-clause-name : goal.returns-clause-name
returns-clause-name g c =
    same_group_name c.in_ok-made.made.name c.args.name.now (c.in_ok-made.ensures.complete ∙ c.requires.of.complete c.view_at-x.result.now c.view_at-x.ensures) (c.in_ok-made.ensures.view ∙ c.requires.of.at c.view_at-x.result.now c.view_at-x.ensures)
