use Rattle.cxx_hierarchy.specs.Classes.{class_by_number}
use Rattle.path_tables.proofs.Answering.{within_for_all}
use Rattle.path_tables.proofs.answers.within_answer.Goals as goal

pub returns-in-Some-part_at : goal.returns-in-Some-part_at
returns-in-Some-part_at c = within_for_all c.args.h.now c.keeps.ensures (class_by_number c.args.key.class) c.args.key.outer c.args.key.inner c.in-Some.outer.now c.in-Some-part_at.inner.now c.in-Some.ensures c.in-Some-part_at.ensures c.is_within.result c.is_within.ensures
