use Rattle.abi_foreign.proofs.check.fault_of.Goals as goal

pub are_sums-requires-clause-count : goal.are_sums-requires-clause-count
are_sums-requires-clause-count c = c.requires.next.full.one_each

pub are_sums-requires-clause-known : goal.are_sums-requires-clause-known
are_sums-requires-clause-known c = c.requires.next.known

pub returns : goal.returns
returns c = record {
  fault = c.in_ok-fault.fault;
  has_sums = c.are_sums.result;
  is_fault = c.in_ok-fault.ensures;
  sums = c.are_sums.ensures.yes;
  no_sum = c.are_sums.ensures.no;
  is = c.least_rule.ensures;
}
