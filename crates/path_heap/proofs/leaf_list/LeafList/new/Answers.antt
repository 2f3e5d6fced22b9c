use Rattle.path_heap.proofs.leaf_list.LeafList.new.Goals as goal

pub invariant_of-result-2 : goal.invariant_of-result-2
invariant_of-result-2 c = λ n le. c.new.ensures n
