use Rattle.abi_vtable.proofs.words.+declarer_below.Given as goal

abbrev pub decreases-declarer_below : goal.decreases-declarer_below
decreases-declarer_below l = l.steps
