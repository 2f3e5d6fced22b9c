use Rattle.std.proofs.Common.{ap}
use Rattle.cxx_record_parser.proofs.Gathers as gathers
use Rattle.std.proofs.Common.{is_some}
use Rattle.cxx_record_parser.proofs.gather.add.Goals as goal

pub returns-in_ok-add_class-in-Class-clause-items : goal.returns-in_ok-add_class-in-Class-clause-items
returns-in_ok-add_class-in-Class-clause-items c = λ is h. rw c.in-Class.is (c.in_ok-add_class-in-Class.ensures.items is h)

pub returns-in_ok-add_class-in-Class-clause-main : goal.returns-in_ok-add_class-in-Class-clause-main
returns-in_ok-add_class-in-Class-clause-main c = rw c.in-Class.is (ap is_some c.in_ok-add_class-in-Class.ensures.main)

pub returns-in-Forward-clause-items : goal.returns-in-Forward-clause-items
returns-in-Forward-clause-items c = λ is h. rw c.in-Forward.is (gathers.forward_gathered _ is h)

pub returns-in_ok-push-in-Global-clause-items : goal.returns-in_ok-push-in-Global-clause-items
returns-in_ok-push-in-Global-clause-items c = λ is h. rw c.in-Global.is (gathers.global_gathered _ is _ _ h c.in_ok-push-in-Global.ensures.ok)

pub returns-in-Main-clause-items : goal.returns-in-Main-clause-items
returns-in-Main-clause-items c = λ is h. rw c.in-Main.is (gathers.main_gathered _ is _ h (rw c.in-Main.is at c.requires))
