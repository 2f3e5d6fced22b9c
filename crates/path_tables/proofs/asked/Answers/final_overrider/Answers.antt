use Rattle.std.proofs.Common.{sym}
use Rattle.path_tables.proofs.asked.Answers.final_overrider.Goals as goal

pub returns-in-Some-clause-is : goal.returns-in-Some-clause-is
returns-in-Some-clause-is c = c.requires.answers.finals_right.right (record { class = c.args.c.0; view = c.args.view; source = c.args.source; owner = c.args.f.class.0; index = c.args.f.index }) c.in-Some.answer (sym c.in-Some.ensures)
