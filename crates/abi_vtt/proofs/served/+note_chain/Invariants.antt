use Rattle.abi_vtt.proofs.served.+note_chain.Given as goal

abbrev pub decreases-note_chain : goal.decreases-note_chain
decreases-note_chain l = l.steps
