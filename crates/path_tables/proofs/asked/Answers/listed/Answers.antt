use Rattle.path_tables.proofs.asked.Answers.listed.Goals as goal

pub returns : goal.returns
returns c = λ h right. right.lists_right.right c.args.c.0 c.list.result.now c.list.ensures
