use Rattle.text_told.proofs.items.items_of.Goals as goal

pub push_leaves-requires-clause-leaves : goal.push_leaves-requires-clause-leaves
push_leaves-requires-clause-leaves g c = λ leaf has. (c.args.c, c.requires.dumped.each leaf has)
