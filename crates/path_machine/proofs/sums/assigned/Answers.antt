use Rattle.path_machine.proofs.sums.assigned.Goals as goal

pub returns-in-Some : goal.returns-in-Some
returns-in-Some c = record { side = c.in-Assign.x; is = c.in-Assign.is; number = c.in-Some.ensures }
