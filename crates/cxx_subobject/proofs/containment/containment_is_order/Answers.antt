use Rattle.cxx_subobject.proofs.InsideLemmas.{inside_itself, inside_through, inside_back, inside_shared}
use Rattle.cxx_subobject.proofs.containment.containment_is_order.Goals as goal

pub returns-clause-itself : goal.returns-clause-itself
returns-clause-itself c = inside_itself

pub returns-clause-through : goal.returns-clause-through
returns-clause-through c = inside_through

pub returns-clause-back : goal.returns-clause-back
returns-clause-back c = inside_back

pub returns-clause-shared : goal.returns-clause-shared
returns-clause-shared c = inside_shared
