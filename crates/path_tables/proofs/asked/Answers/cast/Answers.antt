use Rattle.std.proofs.Common.{sym}
use Rattle.path_tables.proofs.asked.Answers.cast.Goals as goal

pub returns-in-Some-clause-is : goal.returns-in-Some-clause-is
returns-in-Some-clause-is c = c.requires.answers.casts_right.right (record { class = c.args.c.0; view = c.args.view; source = c.args.source; target = c.args.target.0 }) c.in-Some.answer (sym c.in-Some.ensures)
