use Rattle.std.proofs.Common.{subst, sym}
use Rattle.cxx_overrider.specs.declared.within.PartQuestion.{PartQuestion}
use Rattle.cxx_overrider.specs.invariants.Parts.{IsNextClass, TellsNext}
use Rattle.cxx_overrider.specs.invariants.Within.{IsAnswered}
use Rattle.cxx_overrider.proofs.within.part_answer.Goals as goal

pub leaves_pure-requires : goal.leaves_pure-requires
leaves_pure-requires c = subst (λ (q : PartQuestion). IsNextClass (λ h. IsAnswered h q) c.args.next.now) c.in-LeavesPure.is c.requires

pub returns-in-LeavesPure : goal.returns-in-LeavesPure
returns-in-LeavesPure c = subst (λ (q : PartQuestion). TellsNext (λ h. IsAnswered h q) c.args.next.now c.args.n c.leaves_pure.result) (sym c.in-LeavesPure.is) c.leaves_pure.ensures

pub has_virtual_within-requires : goal.has_virtual_within-requires
has_virtual_within-requires c = subst (λ (q : PartQuestion). IsNextClass (λ h. IsAnswered h q) c.args.next.now) c.in-DeclaresVirtual.is c.requires

pub returns-in-DeclaresVirtual : goal.returns-in-DeclaresVirtual
returns-in-DeclaresVirtual c = subst (λ (q : PartQuestion). TellsNext (λ h. IsAnswered h q) c.args.next.now c.args.n c.has_virtual_within.result) (sym c.in-DeclaresVirtual.is) c.has_virtual_within.ensures
