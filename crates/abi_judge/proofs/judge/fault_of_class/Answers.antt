use Rattle.std.proofs.Common.{List, Bool, sym, subst}
use Rattle.abi_primary.specs.Kinds.{TellDynamic}
use Rattle.abi_judge.proofs.judge.fault_of_class.Goals as goal

pub fault_in-requires-clause-draft : goal.fault_in-requires-clause-draft
fault_in-requires-clause-draft c = record {
  keeps = c.keeps.ensures;
  full = c.requires.full;
  small = c.requires.small;
  dynamic = subst (λ (l : List Bool). TellDynamic c.args.h.now l) (sym c.deref.ensures.value) c.in_ok-dynamic.ensures;
}
